use Rattle.std.proofs.Common.{◌≡◌, ℕ, ◌≤◌, max, List, length, IfErr, drop, Ok, true, false, sym, ap, ◌∙◌, subst, ⊎_elim}
use Rattle.io_core.specs.Files.{bytes_from}
use Rattle.binlog_text.specs.Held.{HeldEvent}
use Rattle.binlog_text.specs.Faults.{IsBinlogRefusal}
use Rattle.binlog_text.specs.Reading.{due_in}
use Rattle.binlog_text.proofs.FrontLaws.{event_in-front}
use Rattle.binlog_text.proofs.Kept.{front_behind, front_same}
use Rattle.binlog_text.proofs.Refusals.{inside_causes, refused_inside, step_each}
use Rattle.binlog_text.proofs.reading.read_event.Goals as goal

pub returns-clause-event : goal.returns-clause-event
returns-clause-event g c = record {
  here = λ fs is front size inside.
      let p = c.args.position.now in
      sym (event_in-front c.args.ring.now p c.reach.new.buffer.rest (bytes_from p.place c.args.name.now fs) (c.in_ok-reach.ensures.reached.here fs is front size)) ∙ c.take_event.ensures.value;
}

pub returns-clause-rest : goal.returns-clause-rest
returns-clause-rest g c = record {
  here = λ fs is front size.
      let all : List ℕ = bytes_from c.args.position.now.place c.args.name.now fs in
      let held = c.in_ok-reach.ensures.front.here fs is front in
      let n = length c.take_event.new.buffer.event in
      step_each c.take_event.result (λ s e. front_same c.take_event.new.buffer.rest (drop n c.reach.new.buffer.rest) (drop n all) e (front_behind n c.reach.new.buffer.rest all held)) c.take_event.ensures.rest;
}

pub returns-clause-stays : goal.returns-clause-stays
returns-clause-stays g c = record {
  here = λ fs is front how.
      let all : List ℕ = bytes_from c.args.position.now.place c.args.name.now fs in
      let held = c.in_ok-reach.ensures.front.here fs is front in
      ⊎_elim
      (λ out. absurd (let e : true ≡ false = sym out ∙ refused_inside c.take_event.result c.take_event.ensures.refusal in cc))
      (λ none. front_same c.take_event.new.buffer.rest c.reach.new.buffer.rest all (ap (λ (h : HeldEvent). h.rest) (c.take_event.ensures.end none)) held)
      how;
}

pub returns-clause-causes : goal.returns-clause-causes
returns-clause-causes g c =
    inside_causes _ _ _ _ (Ok c.in_ok-reach.field-0) c.take_event.result c.in_ok-reach.ensures.causes c.take_event.ensures.refusal

pub returns-clause-grown : goal.returns-clause-grown
returns-clause-grown g c = record {
  here = λ fs is front size.
      let p = c.args.position.now in
      let all : List ℕ = bytes_from p.place c.args.name.now fs in
      subst (λ (n : ℕ). n ≤ max c.args.buffer.now.room (max 65536 (due_in p all))) (sym c.take_event.ensures.room) (c.reach.ensures.grown.here fs is front size);
}

pub returns-clause-failed : goal.returns-clause-failed
returns-clause-failed g c is = absurd (subst (λ x. IfErr x IsBinlogRefusal) is c.take_event.ensures.refusal)

use Rattle.std.proofs.Common.{◌≡◌, ℕ, ◌≤◌, min, max, List, length, Some, None, Ok, Err, Result, Option, sym, ap, subst, ◌∙◌, arith}
use Rattle.io_core.specs.Files.{bytes_from}
use Rattle.binlog_text.specs.Header.{framed}
use Rattle.binlog_text.specs.declared.fault.BinlogFault.{BinlogFault}
use Rattle.binlog_text.proofs.FrontLaws.{reaches_event, reaches_header}
use Rattle.binlog_text.specs.Reading.{due_in}
use Rattle.binlog_text.proofs.Room.{due_said, event_room, piece_room}
use Rattle.binlog_text.proofs.reading.reach.Goals as goal

-- an answer of a frame without a length
none_said : {m : ℕ} → ◌≡◌ {A = Result (Option ℕ) BinlogFault} (Ok None) (Ok (Some m)) → ⊥
none_said e = cc

fault_said : {m : ℕ} {fault : BinlogFault} → ◌≡◌ {A = Result (Option ℕ) BinlogFault} (Err fault) (Ok (Some m)) → ⊥
fault_said e = cc

pub returns-in-Ok-None-clause-reached : goal.returns-in-Ok-None-clause-reached
returns-in-Ok-None-clause-reached g c = record {
  here = λ fs is front size.
      let p = c.args.position.now in
      let all : List ℕ = bytes_from p.place c.args.name.now fs in
      let rest : List ℕ = c.fill.new.self.rest in
      let enough : c.min-header.result ≤ length rest = c.in_ok-fill.ensures.enough.here fs is (size ∙ sym c.left_of-left.ensures.left) in
      let says : framed p.format p.place rest ≡ Ok None = ap (framed p.format p.place) (sym c.rest.ensures) ∙ sym c.framed.ensures.value ∙ c.in-Ok-None.is ∙ ap Ok c.in-Ok-None.field-0-is in
      reaches_header p rest all (c.in_ok-fill.ensures.front.here fs is front) (omega (arith, enough, c.min-header.ensures, c.left_of-left.ensures.left, size))
      (λ long e. none_said (sym says ∙ e));
}

pub returns-in-Err-clause-reached : goal.returns-in-Err-clause-reached
returns-in-Err-clause-reached g c = record {
  here = λ fs is front size.
      let p = c.args.position.now in
      let all : List ℕ = bytes_from p.place c.args.name.now fs in
      let rest : List ℕ = c.fill.new.self.rest in
      let enough : c.min-header.result ≤ length rest = c.in_ok-fill.ensures.enough.here fs is (size ∙ sym c.left_of-left.ensures.left) in
      let says = ap (framed p.format p.place) (sym c.rest.ensures) ∙ sym c.framed.ensures.value ∙ c.in-Err.is in
      reaches_header p rest all (c.in_ok-fill.ensures.front.here fs is front) (omega (arith, enough, c.min-header.ensures, c.left_of-left.ensures.left, size))
      (λ long e. fault_said (sym says ∙ e));
}

pub returns-in_err-fill-clause-grown : goal.returns-in_err-fill-clause-grown
returns-in_err-fill-clause-grown g c = record {
  here = λ fs is front size.
      piece_room c.args.buffer.now.room c.fill.new.self.room (due_in c.args.position.now (bytes_from c.args.position.now.place c.args.name.now fs)) c.min-header.result
      (omega (arith, c.min-header.ensures)) c.fill.ensures.room;
}

pub returns-in-Ok-None-clause-grown : goal.returns-in-Ok-None-clause-grown
returns-in-Ok-None-clause-grown g c = record {
  here = λ fs is front size.
      piece_room c.args.buffer.now.room c.fill.new.self.room (due_in c.args.position.now (bytes_from c.args.position.now.place c.args.name.now fs)) c.min-header.result
      (omega (arith, c.min-header.ensures)) c.fill.ensures.room;
}

pub returns-in-Err-clause-grown : goal.returns-in-Err-clause-grown
returns-in-Err-clause-grown g c = record {
  here = λ fs is front size.
      piece_room c.args.buffer.now.room c.fill.new.self.room (due_in c.args.position.now (bytes_from c.args.position.now.place c.args.name.now fs)) c.min-header.result
      (omega (arith, c.min-header.ensures)) c.fill.ensures.room;
}

pub returns-in-Ok-clause-reached : goal.returns-in-Ok-clause-reached
returns-in-Ok-clause-reached g c =
    let p = c.args.position.now in
    let before : List ℕ = c.fill.new.self.rest in
    let says : framed p.format p.place before ≡ Ok (Some c.in-Ok-Some.length) =
    ap (framed p.format p.place) (sym c.rest.ensures) ∙ sym c.framed.ensures.value ∙ c.in-Ok-Some.is ∙ ap Ok c.in-Ok-Some.field-0-is in
    let header : 19 ≤ c.in-Ok-Some.length = rw c.in-Ok-Some.field-0-is at c.in-Ok-Some.ensures.header in
    record {
      here = λ fs is front size.
          let all : List ℕ = bytes_from p.place c.args.name.now fs in
          let known = size ∙ sym c.left_of-left.ensures.left in
          let enough : c.min-header.result ≤ length before = c.in_ok-fill.ensures.enough.here fs is known in
          let first = c.in_ok-fill.ensures.front.here fs is front in
          let same = c.in_ok-fill.ensures.same ∙ is in
          let more : c.min-need.result ≤ length c.fill-in-Ok-Some.new.self.rest = c.in-Ok.ensures.enough.here fs same known in
          reaches_event p before c.fill-in-Ok-Some.new.self.rest all c.in-Ok-Some.length first (omega (arith, enough, c.min-header.ensures, c.left_of-left.ensures.left, size)) says header
          (c.in-Ok.ensures.front.here fs same first) (omega (arith, more, c.min-need.ensures, c.left_of-left.ensures.left, size));
    }

pub returns-in-Ok-clause-grown : goal.returns-in-Ok-clause-grown
returns-in-Ok-clause-grown g c = record {
  here = λ fs is front size.
      let p = c.args.position.now in
      let all : List ℕ = bytes_from p.place c.args.name.now fs in
      let before : List ℕ = c.fill.new.self.rest in
      let says : framed p.format p.place before ≡ Ok (Some c.in-Ok-Some.length) =
      ap (framed p.format p.place) (sym c.rest.ensures) ∙ sym c.framed.ensures.value ∙ c.in-Ok-Some.is ∙ ap Ok c.in-Ok-Some.field-0-is in
      let enough : c.min-header.result ≤ length before = c.in_ok-fill.ensures.enough.here fs is (size ∙ sym c.left_of-left.ensures.left) in
      let due : due_in p all ≡ min c.in-Ok-Some.length (length all) =
      due_said p before all c.in-Ok-Some.length (c.in_ok-fill.ensures.front.here fs is front) (omega (arith, enough, c.min-header.ensures, c.left_of-left.ensures.left, size)) says in
      let middle : c.fill.new.self.room ≤ max c.args.buffer.now.room 65536 = omega (arith, c.fill.ensures.room, c.min-header.ensures) in
      event_room c.args.buffer.now.room c.fill.new.self.room c.fill-in-Ok-Some.new.self.room (due_in p all) c.min-need.result middle
      (omega (arith, due, c.min-need.ensures, c.left_of-left.ensures.left, size)) c.fill-in-Ok-Some.ensures.room;
}

pub returns-in-Err-fill-clause-grown : goal.returns-in-Err-fill-clause-grown
returns-in-Err-fill-clause-grown g c = record {
  here = λ fs is front size.
      let p = c.args.position.now in
      let all : List ℕ = bytes_from p.place c.args.name.now fs in
      let before : List ℕ = c.fill.new.self.rest in
      let says : framed p.format p.place before ≡ Ok (Some c.in-Ok-Some.length) =
      ap (framed p.format p.place) (sym c.rest.ensures) ∙ sym c.framed.ensures.value ∙ c.in-Ok-Some.is ∙ ap Ok c.in-Ok-Some.field-0-is in
      let enough : c.min-header.result ≤ length before = c.in_ok-fill.ensures.enough.here fs is (size ∙ sym c.left_of-left.ensures.left) in
      let due : due_in p all ≡ min c.in-Ok-Some.length (length all) =
      due_said p before all c.in-Ok-Some.length (c.in_ok-fill.ensures.front.here fs is front) (omega (arith, enough, c.min-header.ensures, c.left_of-left.ensures.left, size)) says in
      let middle : c.fill.new.self.room ≤ max c.args.buffer.now.room 65536 = omega (arith, c.fill.ensures.room, c.min-header.ensures) in
      subst (λ (n : ℕ). n ≤ max c.args.buffer.now.room (max 65536 (due_in p all))) (sym c.shorten.ensures.room)
      (event_room c.args.buffer.now.room c.fill.new.self.room c.fill-in-Ok-Some.new.self.room (due_in p all) c.min-need.result middle
      (omega (arith, due, c.min-need.ensures, c.left_of-left.ensures.left, size)) c.fill-in-Ok-Some.ensures.room);
}

use Rattle.std.proofs.Common.{rules, ◌≡◌, ◌+◌, ◌-◌, ◌≤◌, ◌∙◌, ℕ, List, [], refl, sym, subst, arith, IsErrAnd}
use Rattle.cause_core.proofs.Causes.{handed}
use Rattle.disk_model.specs.Event.{Event}
use Rattle.disk_model.proofs.Moments.{at_each, at_is}
use Rattle.store_files.proofs.HeaderBounds.{limits}
use Rattle.store_form.specs.Said.{header_said}
use Rattle.recovery.specs.Applying.{AppliesUpTo, IsRunRefusal}
use Rattle.recovery.proofs.RunsApplied.{applied_done, applied_none, by_read}
use Rattle.recovery.proofs.applying.apply_blocks.Goals as goal

pub read_number-requires-clause-some : goal.read_number-requires-clause-some
read_number-requires-clause-some g c = let least = (limits (header_said c.args.header.now) c.requires.allowed).least in omega (arith, least)

pub read_number-requires-clause-most : goal.read_number-requires-clause-most
read_number-requires-clause-most g c = (limits (header_said c.args.header.now) c.requires.allowed).most

pub loop-number-init : goal.loop-number-init
loop-number-init g c =
    let h = header_said c.args.header.now in
    let k = c.args.ring.now in
    let r = c.args.round.now in
    record {
      same = refl;
      long = c.requires.long;
      upto = at_each (λ es says. subst (λ (t : List ℕ). AppliesUpTo h k c.args.from c.args.end c.args.notes.now c.args.last.now r.info.space r.from r.end c.args.from c.args.from t c.args.pool.now c.args.pool.now es) (sym c.new-text.ensures.items)
          (applied_none h k c.args.from c.args.end c.args.notes.now c.args.last.now r.info.space r.from r.end es c.args.pool.now says)) c.requires.says;
      holds = c.requires.holds;
      calls = omega arith;
      room = omega arith;
      faults = refl;
      memory = refl;
      later = g.met.D.Disk.is_later_reflexive c.args.disk.now;
    }

pub returns-in_err-first-clause-refused : goal.returns-in_err-first-clause-refused
returns-in_err-first-clause-refused g c =
    let past = g.D.Disk.past c.args.disk.now in
    let why = c.in_err-first.field-0.0 in
    let read = at_is (sym c.loop-number.invariant.same) c.in_ok-read_number.ensures.bytes in
    let is : IsErrAnd c.from_residual-in_err-first.result (λ e. e ≡ why) = search rules in
    handed (IsRunRefusal past) c.from_residual-in_err-first.result why is
    (by_read past why c.in_err-first.ensures.kind
    (record { here = λ es now. c.in_err-first.ensures.refused c.args.from c.args.end c.args.pool.now es (record { here = read.here es now; within = c.loop-number-test.true; most = c.requires.most; says = c.requires.says.here es now; upto = c.loop-number.invariant.upto.here es now }) }))

pub loop-number-preserved : goal.loop-number-preserved
loop-number-preserved g c =
    let read = at_is (sym c.loop-number.invariant.same) c.in_ok-read_number.ensures.bytes in
    let lt = c.loop-number-test.true in
    let so_far = c.loop-number.invariant.calls in
    let once = c.in_ok-read_number.ensures.calls in
    record {
      same = c.in_ok-read_number.ensures.same ∙ c.loop-number.invariant.same;
      long = c.in_ok-first.ensures.long;
      upto = record { here = λ es now. c.in_ok-first.ensures.passes c.args.from c.args.end c.args.pool.now es (record { here = read.here es now; within = lt; most = c.requires.most; says = c.requires.says.here es now; upto = c.loop-number.invariant.upto.here es now }) };
      holds = c.in_ok-first.ensures.holds;
      calls = omega (arith, so_far, once);
      room = omega (arith, lt);
      faults = search rules;
      memory = c.in_ok-read_number.ensures.no_refusal ∙ c.loop-number.invariant.memory;
      later = g.met.D.Disk.is_later_transitive _ _ _ c.loop-number.invariant.later c.in_ok-read_number.ensures.later;
    }

pub returns-clause-applies : goal.returns-clause-applies
returns-clause-applies g c =
    let no = c.loop-number-test.false in
    let r = c.args.round.now in
    at_each (λ (es : List Event) upto. applied_done (header_said c.args.header.now) c.args.ring.now c.args.from c.args.end c.args.notes.now c.args.last.now r.info.space r.from r.end es c.loop-number.first c.loop-number.number c.loop-number.text.items c.args.pool.now c.loop-number.pool upto (omega (arith, no))) c.loop-number.invariant.upto

pub returns-clause-calls : goal.returns-clause-calls
returns-clause-calls g c = let so_far = c.loop-number.invariant.calls in let room = c.loop-number.invariant.room in omega (arith, so_far, room)

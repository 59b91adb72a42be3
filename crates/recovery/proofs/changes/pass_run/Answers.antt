use Rattle.std.proofs.Common.{rules, ◌≡◌, ◌+◌, ◌-◌, ◌≤◌, ◌∙◌, ℕ, List, [], refl, sym, subst, arith, IsErrAnd}
use Rattle.cause_core.proofs.Causes.{handed}
use Rattle.disk_model.specs.Event.{Event}
use Rattle.disk_model.proofs.Moments.{at_each, at_is}
use Rattle.store_files.proofs.HeaderBounds.{limits}
use Rattle.store_form.specs.Said.{header_said}
use Rattle.recovery.specs.Changes.{IsByRecord}
use Rattle.recovery.specs.Passed.{IsAtBlock, Passed}
use Rattle.recovery.proofs.RunsPassed.{by_record, passed_done, passed_none}
use Rattle.recovery.proofs.changes.pass_run.Goals as goal

pub read_number-requires-clause-some : goal.read_number-requires-clause-some
read_number-requires-clause-some g c = let least = (limits (header_said c.args.header.now) c.requires.allowed).least in omega (arith, least)

pub read_number-requires-clause-most : goal.read_number-requires-clause-most
read_number-requires-clause-most g c = (limits (header_said c.args.header.now) c.requires.allowed).most

pub loop-number-init : goal.loop-number-init
loop-number-init g c =
    let h = header_said c.args.header.now in
    let k = c.args.ring.now in
    let infos = c.args.changes.now.spaces in
    record {
      same = refl;
      long = c.requires.long;
      passed = at_each (λ es run. subst (λ (t : List ℕ). Passed h k c.args.from c.args.end c.args.notes.now infos c.args.from c.args.from t c.args.changes.now es) (sym c.new-text.ensures.items)
          (passed_none h k c.args.from c.args.end c.args.notes.now infos es c.args.changes.now run.sizes run.whole c.requires.none.none refl)) c.requires.run;
      last = c.requires.last;
      infos = c.requires.infos;
      calls = omega arith;
      room = omega arith;
      faults = refl;
      memory = refl;
      later = g.met.D.Disk.is_later_reflexive c.args.disk.now;
    }

pub returns-in_err-first-clause-refused : goal.returns-in_err-first-clause-refused
returns-in_err-first-clause-refused g c =
    let h = header_said c.args.header.now in
    let k = c.args.ring.now in
    let infos = c.args.changes.now.spaces in
    let why = c.in_err-first.field-0.0 in
    let read = at_is (sym c.loop-number.invariant.same) c.in_ok-read_number.ensures.bytes in
    let is : IsErrAnd c.from_residual-in_err-first.result (λ e. e ≡ why) = search rules in
    handed (IsByRecord h k c.args.from c.args.end (g.D.Disk.past c.args.disk.now)) c.from_residual-in_err-first.result why is
    (by_record h k c.args.from c.args.end (g.D.Disk.past c.args.disk.now) why c.in_err-first.ensures.kind
    (record { here = λ es now. c.in_err-first.ensures.refused c.args.from c.args.end infos es (record { here = read.here es now; within = c.loop-number-test.true; most = (c.requires.run.here es now).most; keyed = c.requires.keyed.here es now; passed = c.loop-number.invariant.passed.here es now }) }))

pub loop-number-preserved : goal.loop-number-preserved
loop-number-preserved g c =
    let infos = c.args.changes.now.spaces in
    let read = at_is (sym c.loop-number.invariant.same) c.in_ok-read_number.ensures.bytes in
    let lt = c.loop-number-test.true in
    let so_far = c.loop-number.invariant.calls in
    let once = c.in_ok-read_number.ensures.calls in
    record {
      same = c.in_ok-read_number.ensures.same ∙ c.loop-number.invariant.same;
      long = c.in_ok-first.ensures.long;
      passed = record { here = λ es now. c.in_ok-first.ensures.passes c.args.from c.args.end infos es (record { here = read.here es now; within = lt; most = (c.requires.run.here es now).most; keyed = c.requires.keyed.here es now; passed = c.loop-number.invariant.passed.here es now }) };
      last = c.in_ok-first.ensures.last;
      infos = c.in_ok-first.ensures.infos;
      calls = omega (arith, so_far, once);
      room = omega (arith, lt);
      faults = search rules;
      memory = c.in_ok-read_number.ensures.no_refusal ∙ c.loop-number.invariant.memory;
      later = g.met.D.Disk.is_later_transitive _ _ _ c.loop-number.invariant.later c.in_ok-read_number.ensures.later;
    }

pub returns-clause-changes : goal.returns-clause-changes
returns-clause-changes g c =
    let no = c.loop-number-test.false in
    at_each (λ (es : List Event) passed. passed_done (header_said c.args.header.now) c.args.ring.now c.args.from c.args.end c.args.notes.now c.args.changes.now.spaces es c.loop-number.first c.loop-number.number c.loop-number.text.items c.loop-number.changes passed (omega (arith, no))) c.loop-number.invariant.passed

pub returns-clause-calls : goal.returns-clause-calls
returns-clause-calls g c = let so_far = c.loop-number.invariant.calls in let room = c.loop-number.invariant.room in omega (arith, so_far, room)

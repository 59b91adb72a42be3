use Rattle.std.proofs.Common.{◌≡◌, ◌+◌, ◌<◌, ◌++◌, List, Some, length, arith, refl, sym, ap, ◌∙◌}
use Rattle.disk_model.specs.Event.{Event}
use Rattle.disk_model.proofs.Moments.{at_each}
use Rattle.disk_model.proofs.Layers.{does_err, so_far_none, so_far_more, so_far_then, so_far_done}
use Rattle.places.proofs.Batches.{at_end}
use Rattle.doublewrite.specs.Events.{homes_to, spaces_events}
use Rattle.doublewrite.proofs.EventSteps.{at_error, spaces_none, next_file, next_space, next_space_calls, next_space_part, calls_none, calls_more, calls_below, homes_below, spaces_calls}
use Rattle.doublewrite.proofs.SpaceSteps.{spaces_begin, spaces_now, all_places, all_done}
use Rattle.doublewrite.proofs.recovery.restore_spaces.Goals as goal

pub loop-i-init : goal.loop-i-init
loop-i-init g c =
    let first = g.D.Disk.past c.args.disk.now in
    record {
      so_far = λ has. so_far_none (spaces_now c.args.copies.now c.args.spaces.now c.requires.apart 0 first) (spaces_begin c.args.copies.now c.args.spaces.now c.requires.apart first has);
      untold = λ none. none;
      exact = record { here = λ s is. is ∙ ap (λ (l : List Event). Some (l ++ s)) (sym (spaces_none c.args.copies.now c.args.spaces.now s)) };
      calls = omega (arith, calls_none c.args.spaces.now);
      told_calls = record { here = λ s is. omega arith };
      size = c.requires.size;
      faults = refl;
      memory = refl;
      later = g.met.D.Disk.is_later_reflexive c.args.disk.now;
    }

pub restore_next-requires-clause-places : goal.restore_next-requires-clause-places
restore_next-requires-clause-places g c =
    next_file c.args.copies.now c.args.spaces.now c.requires.apart c.loop-i.i (omega (arith, c.loop-i-test.true)) (g.D.Disk.past c.args.disk.now) (g.D.Disk.past c.loop-i.disk) c.loop-i.invariant.exact c.loop-i.invariant.untold c.requires.places

pub returns-in_err-restore_next-clause-does : goal.returns-in_err-restore_next-clause-does
returns-in_err-restore_next-clause-does g c = λ has.
    let first = g.D.Disk.past c.args.disk.now in
    let so_far = c.loop-i.invariant.so_far has in
    let still = at_end (all_places c.args.copies.now c.args.spaces.now c.requires.apart c.loop-i.i) so_far.moments.later has so_far.at in
    does_err _ _ c.from_residual.ensures.1 (so_far_then so_far (c.in_err-restore_next.ensures.does still first so_far.at))

pub returns-in_err-restore_next-clause-part : goal.returns-in_err-restore_next-clause-part
returns-in_err-restore_next-clause-part g c =
    let copies = c.args.copies.now in
    let spaces = c.args.spaces.now in
    let i = c.loop-i.i in
    let first = g.D.Disk.past c.args.disk.now in
    let more : i < length spaces = omega (arith, c.loop-i-test.true) in
    at_error c.from_residual.result
    (next_space_part copies spaces c.requires.apart i more first (g.D.Disk.past c.loop-i.disk) c.loop-i.invariant.exact (g.D.Disk.past c.restore_next.new.disk) c.in_err-restore_next.ensures.part)

pub returns-in_err-restore_next-clause-calls : goal.returns-in_err-restore_next-clause-calls
returns-in_err-restore_next-clause-calls g c =
    let spaces = c.args.spaces.now in
    let i = c.loop-i.i in
    let most = calls_below spaces (i + 1) (length spaces) (omega (arith, c.loop-i-test.true)) in
    omega (arith, c.loop-i.invariant.calls, c.in_err-restore_next.ensures.calls, calls_more spaces i, most)

pub loop-i-preserved : goal.loop-i-preserved
loop-i-preserved g c =
    let first = g.D.Disk.past c.args.disk.now in
    let copies = c.args.copies.now in
    let spaces = c.args.spaces.now in
    let i = c.loop-i.i in
    let more : i < length spaces = omega (arith, c.loop-i-test.true) in
    record {
      untold = λ none. c.in_ok-restore_next.ensures.untold (c.loop-i.invariant.untold none);
      exact = next_space copies spaces c.requires.apart i more first (g.D.Disk.past c.loop-i.disk) c.loop-i.invariant.exact (g.D.Disk.past c.restore_next.new.disk) c.in_ok-restore_next.ensures.exact;
      calls = omega (arith, c.loop-i.invariant.calls, c.in_ok-restore_next.ensures.calls, calls_more spaces i);
      told_calls = next_space_calls copies spaces c.requires.apart i more first (g.D.Disk.past c.loop-i.disk) c.loop-i.invariant.exact _ _ _ c.loop-i.invariant.told_calls c.in_ok-restore_next.ensures.told_calls;
      so_far = λ has.
          let so_far = c.loop-i.invariant.so_far has in
          let still = at_end (all_places copies spaces c.requires.apart i) so_far.moments.later has so_far.at in
          so_far_more so_far (c.in_ok-restore_next.ensures.does still first so_far.at);
      size = c.in_ok-restore_next.ensures.size;
      faults = c.in_ok-restore_next.ensures.no_fault ∙ c.loop-i.invariant.faults;
      memory = c.in_ok-restore_next.ensures.no_refusal ∙ c.loop-i.invariant.memory;
      later = g.met.D.Disk.is_later_transitive _ _ _ c.loop-i.invariant.later c.in_ok-restore_next.ensures.later;
    }

pub returns-clause-does : goal.returns-clause-does
returns-clause-does g c = λ has.
    let all : c.loop-i.i ≡ length c.args.spaces.now = omega (arith, c.loop-i.auto.i-end, c.loop-i-test.false) in
    so_far_done (all_done c.args.copies.now c.args.spaces.now c.requires.apart c.loop-i.i all (g.D.Disk.past c.args.disk.now)) (c.loop-i.invariant.so_far has)

pub returns-clause-exact : goal.returns-clause-exact
returns-clause-exact g c =
    let all : c.loop-i.i ≡ length c.args.spaces.now = omega (arith, c.loop-i.auto.i-end, c.loop-i-test.false) in
    at_each (λ s is. is ∙ ap (λ n. Some (spaces_events c.args.copies.now s c.args.spaces.now n ++ s)) all) c.loop-i.invariant.exact

pub returns-clause-calls : goal.returns-clause-calls
returns-clause-calls g c =
    let most = calls_below c.args.spaces.now c.loop-i.i (length c.args.spaces.now) (omega (arith, c.loop-i.auto.i-end)) in
    omega (arith, c.loop-i.invariant.calls, most)

pub returns-in_err-restore_next-clause-told_calls : goal.returns-in_err-restore_next-clause-told_calls
returns-in_err-restore_next-clause-told_calls g c =
    let copies = c.args.copies.now in
    let spaces = c.args.spaces.now in
    let i = c.loop-i.i in
    let more : i < length spaces = omega (arith, c.loop-i-test.true) in
    at_each (λ s sum. omega (arith, sum, homes_below spaces (i + 1) (length spaces) (omega (arith, more)), spaces_calls copies spaces (i + 1) (length spaces) s (omega (arith, more))))
    (next_space_calls copies spaces c.requires.apart i more (g.D.Disk.past c.args.disk.now) (g.D.Disk.past c.loop-i.disk) c.loop-i.invariant.exact _ _ _ c.loop-i.invariant.told_calls c.restore_next.ensures.told_calls)

pub returns-clause-told_calls : goal.returns-clause-told_calls
returns-clause-told_calls g c =
    let spaces = c.args.spaces.now in
    let all : c.loop-i.i ≡ length spaces = omega (arith, c.loop-i.auto.i-end, c.loop-i-test.false) in
    at_each (λ s sum. omega (arith, sum, ap (homes_to spaces) all, ap (λ n. length (spaces_events c.args.copies.now s spaces n)) all)) c.loop-i.invariant.told_calls

use Rattle.std.proofs.Common.{◌≡◌, length, subst, arith, refl, ◌∙◌, sym, ap}
use Rattle.disk_model.proofs.Layers.{does_err, so_far_none, so_far_more, so_far_then, so_far_done}
use Rattle.disk_model.specs.declared.names.FileName.TheVariants.{Double}
use Rattle.places.proofs.WriteLemmas.{grows_none, write_more, write_failed}
use Rattle.places.specs.Batches.{From}
use Rattle.places.specs.Writes.{writes_of, grows}
use Rattle.doublewrite.specs.Batch.{slot_batch}
use Rattle.doublewrite.specs.Layer.{SlotsWrote}
use Rattle.doublewrite.proofs.SlotSteps.{slots_begin, slots_now}
use Rattle.doublewrite.proofs.storing.write_slots.Goals as goal

pub loop-i-init : goal.loop-i-init
loop-i-init g c =
    let batch = c.args.batch.now in
    let first = g.D.Disk.past c.args.disk.now in
    record {
      so_far = λ has. so_far_none (slots_now batch 0 (omega arith) first) (slots_begin batch first has);
      places = c.requires.places;
      size = c.requires.size;
      exact = sym (grows_none first);
      calls = omega arith;
      faults = refl;
      memory = refl;
      later = g.met.D.Disk.is_later_reflexive c.args.disk.now;
    }

pub returns-in_err-write_slot-clause-does : goal.returns-in_err-write_slot-clause-does
returns-in_err-write_slot-clause-does g c = λ has.
    let first = g.D.Disk.past c.args.disk.now in
    let so_far = c.loop-i.invariant.so_far has in
    does_err _ _ c.from_residual.ensures.1 (so_far_then so_far (c.in_err-write_slot.ensures.does first so_far.at))

pub returns-in_err-write_slot-clause-part : goal.returns-in_err-write_slot-clause-part
returns-in_err-write_slot-clause-part g c =
    let batch = c.args.batch.now in
    write_failed Double 16896 (slot_batch batch) c.loop-i.i (length batch.pages) (g.D.Disk.past c.args.disk.now) (g.D.Disk.past c.loop-i.disk) (g.D.Disk.past c.write_slot.new.disk) c.from_residual.result
    (omega (arith, c.loop-i-test.true, c.len-i-end.ensures)) c.loop-i.invariant.exact c.in_err-write_slot.ensures.err

pub loop-i-preserved : goal.loop-i-preserved
loop-i-preserved g c =
    let first = g.D.Disk.past c.args.disk.now in
    let batch = c.args.batch.now in
    record {
      so_far = λ has. let so_far = c.loop-i.invariant.so_far has in so_far_more so_far (c.in_ok-write_slot.ensures.does first so_far.at);
      places = c.in_ok-write_slot.ensures.places;
      size = c.in_ok-write_slot.ensures.size;
      exact = write_more Double 16896 (slot_batch batch) c.loop-i.i first (g.D.Disk.past c.loop-i.disk) (g.D.Disk.past c.write_slot.new.disk) c.loop-i.invariant.exact c.in_ok-write_slot.ensures.ok;
      calls = omega (arith, c.loop-i.invariant.calls, c.in_ok-write_slot.ensures.calls);
      faults = c.in_ok-write_slot.ensures.no_fault ∙ c.loop-i.invariant.faults;
      memory = c.in_ok-write_slot.ensures.no_refusal ∙ c.loop-i.invariant.memory;
      later = g.met.D.Disk.is_later_transitive _ _ _ c.loop-i.invariant.later c.in_ok-write_slot.ensures.later;
    }

pub returns-clause-does : goal.returns-clause-does
returns-clause-does g c = λ has.
    let batch = c.args.batch.now in
    let all : c.loop-i.i ≡ length batch.pages = omega (arith, c.loop-i.auto.i-end, c.loop-i-test.false, c.len-i-end.ensures) in
    so_far_done (λ es r. subst (λ n. From (SlotsWrote batch n) (g.D.Disk.past c.args.disk.now) es) all r) (c.loop-i.invariant.so_far has)

pub returns-clause-exact : goal.returns-clause-exact
returns-clause-exact g c =
    let batch = c.args.batch.now in
    let all : c.loop-i.i ≡ length batch.pages = omega (arith, c.loop-i.auto.i-end, c.loop-i-test.false, c.len-i-end.ensures) in
    c.loop-i.invariant.exact ∙ ap (λ n. grows (writes_of Double 16896 (slot_batch batch) n) (g.D.Disk.past c.args.disk.now)) all

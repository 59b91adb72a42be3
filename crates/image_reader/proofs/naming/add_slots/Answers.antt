use Rattle.std.proofs.Common.{◌≡◌, ℕ, subst, arith}
use Rattle.image_reader.specs.Naming.{AddsNames, Below, IsSlotName}
use Rattle.image_reader.proofs.Additions.{adds_none, adds_next}
use Rattle.image_reader.proofs.naming.add_slots.Goals as goal

pub loop-index-init : goal.loop-index-init
loop-index-init c = adds_none _ _

pub loop-index-preserved : goal.loop-index-preserved
loop-index-preserved c = adds_next (IsSlotName c.args.home.now c.args.double.now c.args.space c.args.page c.args.id) c.loop-index.index _ _ _ c.loop-index.invariant c.in_ok-add_slot.ensures

pub returns : goal.returns
returns c = let e : c.loop-index.index ≡ 64 = omega arith in subst (λ (n : ℕ). AddsNames (Below (IsSlotName c.args.home.now c.args.double.now c.args.space c.args.page c.args.id) n) c.args.names.now.items c.loop-index.names.items) e c.loop-index.invariant

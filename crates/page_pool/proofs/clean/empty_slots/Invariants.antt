use Rattle.std.proofs.Common.{◌≡◌}
use Rattle.page_pool.specs.Slots.{empty_slots}
use Rattle.page_pool.proofs.clean.empty_slots.Given as goal

abbrev pub invariant-loop-slot : goal.invariant-loop-slot
invariant-loop-slot l = (l.slots.entries ≡ empty_slots l.slot) × (l.slots.cap ≡ 64)

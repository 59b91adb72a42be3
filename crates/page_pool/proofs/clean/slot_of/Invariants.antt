use Rattle.std.proofs.Common.{◌≡◌}
use Rattle.page_pool.specs.Slots.{slot_holding}
use Rattle.page_pool.proofs.clean.slot_of.Given as goal

abbrev pub invariant-loop-slot : goal.invariant-loop-slot
invariant-loop-slot l = (goal.iterator-loop-slot).can_next l.slot-iterator × (goal.iterator-loop-slot).is_finite l.slot-iterator × (slot_holding l.name l.slot-iterator ≡ slot_holding l.name l.slots.entries)

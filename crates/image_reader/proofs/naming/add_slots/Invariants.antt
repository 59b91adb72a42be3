use Rattle.image_reader.specs.Naming.{AddsNames, Below, IsSlotName}
use Rattle.image_reader.proofs.naming.add_slots.Given as goal

abbrev pub invariant-loop-index : goal.invariant-loop-index
invariant-loop-index l = AddsNames (Below (IsSlotName l.home l.double l.space l.page l.id) l.index) l.fn.names.items l.names.items

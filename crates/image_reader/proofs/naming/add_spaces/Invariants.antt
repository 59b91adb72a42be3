use Rattle.image_reader.specs.Naming.{AddsNames, Below, IsNameAt}
use Rattle.image_reader.proofs.naming.add_spaces.Given as goal

abbrev pub invariant-loop-space : goal.invariant-loop-space
invariant-loop-space l = AddsNames (Below (IsNameAt l.files l.active l.header.spaces) l.space-index) l.fn.names.items l.names.items

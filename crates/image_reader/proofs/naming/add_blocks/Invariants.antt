use Rattle.image_reader.specs.Naming.{AddsNames, Below, IsBlockName}
use Rattle.image_reader.proofs.naming.add_blocks.Given as goal

abbrev pub invariant-loop-number : goal.invariant-loop-number
invariant-loop-number l = AddsNames (Below (IsBlockName l.blocks l.log l.from) l.number) l.fn.names.items l.names.items

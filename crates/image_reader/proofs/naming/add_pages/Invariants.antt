use Rattle.image_reader.specs.Naming.{AddsNames, Below, IsPageNameIn}
use Rattle.image_reader.proofs.naming.add_pages.Given as goal

abbrev pub invariant-loop-page : goal.invariant-loop-page
invariant-loop-page l = AddsNames (Below (IsPageNameIn l.bytes l.double l.space l.id) l.page) l.fn.names.items l.names.items

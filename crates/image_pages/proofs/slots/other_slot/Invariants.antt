use Rattle.store_files.specs.Pages.{page_held}
use Rattle.image_pages.specs.Recovering.{AgreeBelow}
use Rattle.image_pages.proofs.slots.other_slot.Given as goal

abbrev pub invariant-loop-index : goal.invariant-loop-index
invariant-loop-index l = AgreeBelow l.keys.header.now l.keys.ring.now l.log l.source.home.now l.source.double.now l.source.space l.source.number l.keys.salt.now (page_held l.wanted) l.index

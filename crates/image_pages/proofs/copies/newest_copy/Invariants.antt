use Rattle.image_pages.specs.Choosing.{Best}
use Rattle.image_pages.proofs.copies.newest_copy.Given as goal

abbrev pub invariant-loop-index : goal.invariant-loop-index
invariant-loop-index l = Best l.double l.space l.page l.index l.best

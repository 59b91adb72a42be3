use Rattle.crash_image.specs.Recovers.{AreOfStore}
use Rattle.image_reader.proofs.Passes.{Passes}
use Rattle.image_reader.proofs.checks.are_of_store.Given as goal

abbrev pub invariant-loop-change : goal.invariant-loop-change
invariant-loop-change l = Passes (AreOfStore l.spaces) l.change-items l.change-index

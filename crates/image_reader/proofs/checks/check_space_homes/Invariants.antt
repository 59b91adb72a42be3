use Rattle.image_reader.specs.Homes.{AreRightBelow}
use Rattle.image_reader.proofs.checks.check_space_homes.Given as goal

abbrev pub invariant-loop-page : goal.invariant-loop-page
invariant-loop-page l = AreRightBelow l.bytes l.page

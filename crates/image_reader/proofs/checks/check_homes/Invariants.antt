use Rattle.std.proofs.Common.{take}
use Rattle.image_reader.specs.Homes.{AreHomesRight}
use Rattle.image_reader.proofs.checks.check_homes.Given as goal

abbrev pub invariant-loop-space : goal.invariant-loop-space
invariant-loop-space l = AreHomesRight l.files (take l.space-index l.space-items)

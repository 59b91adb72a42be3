use Rattle.std.proofs.Common.{take}
use Rattle.recovery.specs.Stages.{AreFloorsBelow}
use Rattle.recovery.proofs.floors.check_floors.Given as goal

abbrev pub invariant-loop-space : goal.invariant-loop-space
invariant-loop-space l = AreFloorsBelow l.active (take l.space-index l.spaces)

use Rattle.std.proofs.Common.{take}
use Rattle.session_core.specs.Spaces.{NoneAbove}
use Rattle.session_core.proofs.missing.first_above.Given as goal

abbrev pub invariant-loop-info : goal.invariant-loop-info
invariant-loop-info l = NoneAbove l.version (take l.info-index l.spaces)

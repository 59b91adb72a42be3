use Rattle.std.proofs.Common.{take}
use Rattle.recovery.specs.Heads.{AreRight}
use Rattle.recovery.proofs.heads.first_wrong.Given as goal

abbrev pub invariant-loop-field : goal.invariant-loop-field
invariant-loop-field l = AreRight (take l.field-index l.fields) l.text

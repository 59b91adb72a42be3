use Rattle.recovery.specs.Keys.{IsVersionKey, LooksFor, OneBelow}
use Rattle.recovery.proofs.keys.look_in_versions.Given as goal

abbrev pub invariant-loop-i : goal.invariant-loop-i
invariant-loop-i l = LooksFor l.ring (OneBelow (IsVersionKey l.versions) l.i) l.fn.least l.found

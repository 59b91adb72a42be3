use Rattle.std.proofs.Common.{map}
use Rattle.store_form.specs.Said.{space_said}
use Rattle.recovery.specs.Keys.{IsSpaceKey, LooksFor, OneBelow}
use Rattle.recovery.proofs.keys.look_in_spaces.Given as goal

abbrev pub invariant-loop-i : goal.invariant-loop-i
invariant-loop-i l = LooksFor l.ring (OneBelow (IsSpaceKey l.active (map space_said l.spaces) l.notes) l.i) l.fn.least l.found

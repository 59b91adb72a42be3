use Rattle.std.proofs.Common.{map}
use Rattle.store_form.specs.Said.{space_said}
use Rattle.recovery.specs.Keys.{IsListedKey, LooksFor, OneBelow}
use Rattle.recovery.proofs.keys.look_in_copies.Given as goal

abbrev pub invariant-loop-j : goal.invariant-loop-j
invariant-loop-j l = LooksFor l.ring (OneBelow (IsListedKey (map space_said l.spaces) l.notes l.copies) l.j) l.fn.least l.found

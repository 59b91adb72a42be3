use Rattle.recovery.specs.Keys.{IsNoteKey, LooksFor, OneBelow}
use Rattle.recovery.proofs.keys.look_in_notes.Given as goal

abbrev pub invariant-loop-page : goal.invariant-loop-page
invariant-loop-page l = LooksFor l.ring (OneBelow (IsNoteKey l.id l.notes) l.page) l.fn.least l.found

use Rattle.std.proofs.Common.{◌≡◌, length, map, replicate, take}
use Rattle.recovery.proofs.changes.all_unchanged.Given as goal

abbrev pub invariant-loop-i : goal.invariant-loop-i
invariant-loop-i l = l.last.items ≡ map (λ pages. replicate (length pages) 0) (take l.i l.notes)

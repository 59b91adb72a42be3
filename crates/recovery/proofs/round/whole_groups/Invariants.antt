use Rattle.std.proofs.Common.{◌≤◌, ◌-◌}
use Rattle.recovery.proofs.round.whole_groups.Given as goal

abbrev pub invariant-loop-at : goal.invariant-loop-at
invariant-loop-at l = record { begins : l.from ≤ l.at; ends : l.at ≤ l.end }

abbrev pub decreases-loop-at : goal.decreases-loop-at
decreases-loop-at l = l.end - l.at

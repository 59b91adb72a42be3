use Rattle.std.proofs.Common.{◌≡◌, drop}
use Rattle.session_core.specs.Committing.{AreSized, first_bad_range}
use Rattle.session_core.proofs.committing.check_ranges.Given as goal

abbrev pub invariant-loop-change : goal.invariant-loop-change
invariant-loop-change l = record {
  ranged : first_bad_range (drop l.change-index l.changes) ≡ first_bad_range l.changes;
  sized : AreSized (drop l.change-index l.changes) → AreSized l.changes;
}

use Rattle.std.proofs.Common.{◌≡◌, ◌-◌, ◌≤◌}
use Rattle.recovery.specs.Rounds.{count_in, has_later}
use Rattle.recovery.proofs.rounds.next_range.Given as goal

abbrev pub invariant-loop-page : goal.invariant-loop-page
invariant-loop-page l = record {
  begins : l.fn.from ≤ l.page;
  count : count_in (has_later l.notes l.last) l.fn.from (l.page - l.fn.from) ≡ l.count;
  few : l.count ≤ l.most;
}

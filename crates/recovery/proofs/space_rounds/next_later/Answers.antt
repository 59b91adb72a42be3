use Rattle.std.proofs.Common.{ℕ}
use Rattle.recovery.specs.Rounds.{has_later}
use Rattle.recovery.proofs.SpaceSteps.{none_in}
use Rattle.recovery.proofs.space_rounds.next_later.Goals as goal

pub returns-clause-none : goal.returns-clause-none
returns-clause-none c = λ p low high is. none_in (has_later c.args.notes.now c.args.last.now) c.args.from c.next_range.result c.next_range.ensures.few p low high is

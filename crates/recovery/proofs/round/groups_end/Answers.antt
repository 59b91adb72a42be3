use Rattle.std.proofs.Common.{◌≡◌, ◌-◌, ◌<◌, arith}
use Rattle.recovery.specs.Rounds.{has_later}
use Rattle.recovery.proofs.RoundSteps.{count_none}
use Rattle.recovery.proofs.round.groups_end.Goals as goal

pub returns-in-None-clause-few : goal.returns-in-None-clause-few
returns-in-None-clause-few c = let none = count_none (has_later c.args.notes.now c.args.last.now) c.args.loaded.now.end in omega (arith, none)

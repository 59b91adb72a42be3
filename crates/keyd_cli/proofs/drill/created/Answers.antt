use Rattle.std.proofs.Common.{refl}
use Rattle.keyd_cli.proofs.drill.created.Goals as goal

pub returns-in-Ok-clause-empty : goal.returns-in-Ok-clause-empty
returns-in-Ok-clause-empty c = c.in-Ok.ensures.ok.here _ refl

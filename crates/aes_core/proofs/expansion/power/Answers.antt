use Rattle.aes_core.proofs.ByTable.{power_at}
use Rattle.aes_core.proofs.expansion.power.Goals as goal

pub returns : goal.returns
returns c = power_at c.args.n c.requires

use Rattle.std.proofs.Common.{arith}
use Rattle.aes_core.proofs.ByTable.{sub_at}
use Rattle.aes_core.proofs.plain.sub_byte.Goals as goal

pub returns : goal.returns
returns c = sub_at c.args.a (omega arith)

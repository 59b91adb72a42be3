use Rattle.std.proofs.Common.{arith}
use Rattle.aes_core.proofs.ByTable.{inv_sub_at}
use Rattle.aes_core.proofs.plain.inv_sub_byte.Goals as goal

pub returns : goal.returns
returns c = inv_sub_at c.args.a (omega arith)

use Rattle.std.proofs.Common.{◌∙◌, arith}
use Rattle.aes_core.specs.Field.{inv_sub_byte}
use Rattle.aes_core.proofs.Loops.{mapped_all, mapped_step}
use Rattle.aes_core.proofs.plain.inv_sub_bytes.Goals as goal

pub loop-b-preserved : goal.loop-b-preserved
loop-b-preserved c = mapped_step inv_sub_byte c.args.s.now _ c.loop-b.b-index c.inv_sub_byte.result (omega arith) c.loop-b.invariant c.inv_sub_byte.ensures

pub returns : goal.returns
returns c = c.loop-b.invariant ∙ mapped_all inv_sub_byte c.args.s.now c.loop-b.b-index (omega arith)

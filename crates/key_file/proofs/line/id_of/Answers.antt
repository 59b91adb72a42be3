use Rattle.std.proofs.Common.{◌∙◌, arith}
use Rattle.key_file.proofs.Lines.{digit_more}
use Rattle.key_file.proofs.line.id_of.Goals as goal

pub loop-digit-preserved : goal.loop-digit-preserved
loop-digit-preserved c = (
  c.min-value.ensures ∙ digit_more c.args.digits.now c.loop-digit.digit-index c.loop-digit.value c.from.result c.loop-digit-test.true c.requires c.loop-digit.invariant.0 c.from.ensures,
  omega (arith, c.min-value.ensures),
)

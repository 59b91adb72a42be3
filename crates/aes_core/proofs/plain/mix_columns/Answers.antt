use Rattle.std.proofs.Common.{refl}
use Rattle.aes_core.proofs.plain.mix_columns.Goals as goal

pub returns : goal.returns
returns c = rw (c.mix_column-w.ensures, c.mix_column-x.ensures, c.mix_column-y.ensures, c.mix_column-z.ensures) refl

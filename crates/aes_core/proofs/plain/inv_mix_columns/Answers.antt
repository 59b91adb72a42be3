use Rattle.std.proofs.Common.{refl}
use Rattle.aes_core.proofs.plain.inv_mix_columns.Goals as goal

pub returns : goal.returns
returns c = rw (c.inv_mix_column-w.ensures, c.inv_mix_column-x.ensures, c.inv_mix_column-y.ensures, c.inv_mix_column-z.ensures) refl

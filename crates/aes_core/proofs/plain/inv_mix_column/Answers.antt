use Rattle.std.proofs.Common.{refl}
use Rattle.aes_core.proofs.plain.inv_mix_column.Goals as goal

pub returns : goal.returns
returns c = rw (c.times.ensures, c.times-2.ensures, c.times-3.ensures, c.times-4.ensures, c.times-5.ensures, c.times-6.ensures, c.times-7.ensures, c.times-8.ensures, c.times-9.ensures, c.times-10.ensures, c.times-11.ensures, c.times-12.ensures, c.times-13.ensures, c.times-14.ensures, c.times-15.ensures, c.times-16.ensures) refl

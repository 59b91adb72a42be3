use Rattle.std.proofs.Common.{refl}
use Rattle.aes_core.proofs.Transposition.{exchanged}
use Rattle.aes_core.proofs.transpose.exchange_ones.Goals as goal

pub returns : goal.returns
returns c = exchanged 1 0x55 0xaa refl refl refl refl c.args.a c.args.b c.fits-a c.fits-b

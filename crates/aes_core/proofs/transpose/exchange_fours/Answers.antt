use Rattle.std.proofs.Common.{refl}
use Rattle.aes_core.proofs.Transposition.{exchanged}
use Rattle.aes_core.proofs.transpose.exchange_fours.Goals as goal

pub returns : goal.returns
returns c = exchanged 4 0x0f 0xf0 refl refl refl refl c.args.a c.args.b c.fits-a c.fits-b

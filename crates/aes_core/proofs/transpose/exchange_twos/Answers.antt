use Rattle.std.proofs.Common.{refl}
use Rattle.aes_core.proofs.Transposition.{exchanged}
use Rattle.aes_core.proofs.transpose.exchange_twos.Goals as goal

pub returns : goal.returns
returns c = exchanged 2 0x33 0xcc refl refl refl refl c.args.a c.args.b c.fits-a c.fits-b

use Rattle.std.proofs.Common.{refl}
use Rattle.aes_core.specs.Circuit.{INVERTED}
use Rattle.aes_core.proofs.circuit.inverted.Goals as goal

pub returns : goal.returns
unfolding INVERTED
returns c = refl

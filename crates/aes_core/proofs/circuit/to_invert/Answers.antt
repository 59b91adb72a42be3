use Rattle.std.proofs.Common.{refl}
use Rattle.aes_core.specs.Circuit.{TO_INVERT}
use Rattle.aes_core.proofs.circuit.to_invert.Goals as goal

pub returns : goal.returns
unfolding TO_INVERT
returns c = refl

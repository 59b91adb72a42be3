use Rattle.std.proofs.Common.{refl}
use Rattle.aes_core.specs.Circuit.{INV_TO_INVERT}
use Rattle.aes_core.proofs.inv_circuit.inv_to_invert.Goals as goal

pub returns : goal.returns
unfolding INV_TO_INVERT
returns c = refl

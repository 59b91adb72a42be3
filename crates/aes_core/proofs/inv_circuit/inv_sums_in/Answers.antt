use Rattle.std.proofs.Common.{refl}
use Rattle.aes_core.specs.Circuit.{INV_SUMS_IN}
use Rattle.aes_core.proofs.inv_circuit.inv_sums_in.Goals as goal

pub returns : goal.returns
unfolding INV_SUMS_IN
returns c = refl

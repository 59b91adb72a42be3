use Rattle.std.proofs.Common.{refl}
use Rattle.aes_core.specs.Circuit.{INV_SUMS_OUT}
use Rattle.aes_core.proofs.inv_circuit.inv_sums_out.Goals as goal

pub returns : goal.returns
unfolding INV_SUMS_OUT
returns c = refl

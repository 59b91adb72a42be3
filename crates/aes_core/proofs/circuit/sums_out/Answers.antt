use Rattle.std.proofs.Common.{refl}
use Rattle.aes_core.specs.Circuit.{SUMS_OUT}
use Rattle.aes_core.proofs.circuit.sums_out.Goals as goal

pub returns : goal.returns
unfolding SUMS_OUT
returns c = refl

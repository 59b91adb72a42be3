use Rattle.std.proofs.Common.{refl}
use Rattle.aes_core.specs.Circuit.{SUMS_IN}
use Rattle.aes_core.proofs.circuit.sums_in.Goals as goal

pub returns : goal.returns
unfolding SUMS_IN
returns c = refl

use Rattle.aes_core.proofs.PlaneSteps.{doubled_blocks, doubled_planes}
use Rattle.aes_core.proofs.layers.double_planes.Goals as goal

pub returns : goal.returns
returns c = record { planes = doubled_planes c.args.planes c.requires; blocks = λ b lt. doubled_blocks c.args.planes c.requires b }

use Rattle.aes_core.proofs.PlaneSteps.{xored_blocks, xored_planes}
use Rattle.aes_core.proofs.layers.add_planes.Goals as goal

pub returns : goal.returns
returns c = record {
  planes = xored_planes c.args.planes c.args.other c.requires.0 c.requires.1;
  blocks = λ b lt. xored_blocks c.args.planes c.args.other c.requires.0 c.requires.1 b;
}

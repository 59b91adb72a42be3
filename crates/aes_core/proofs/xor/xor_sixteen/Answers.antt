use Rattle.aes_core.proofs.Loops.{lanes_xored}
use Rattle.aes_core.proofs.xor.xor_sixteen.Goals as goal

pub returns : goal.returns
returns c = lanes_xored 16 c.args.to.now c.args.with.now c.requires.0 c.requires.1

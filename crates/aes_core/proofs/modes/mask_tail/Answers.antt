use Rattle.std.proofs.Common.{length, ◌-◌, ap, ◌∙◌, arith}
use Rattle.aes_core.specs.Cipher.{xored}
use Rattle.aes_core.proofs.Loops.{xored_front}
use Rattle.aes_core.proofs.modes.mask_tail.Goals as goal

pub returns : goal.returns
returns c =
    c.xor_with.ensures
    ∙ xored_front c.args.tail.now c.encrypt_block.new.block (length c.args.tail.now - 0) (omega arith)
    ∙ ap (xored c.args.tail.now) c.encrypt_block.ensures

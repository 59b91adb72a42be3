use Rattle.std.proofs.Common.{◌≡◌, ◌*◌}
use Rattle.aes_core.specs.Cipher.{AreBytes, IsCipherBlock, decrypted, xored}
use Rattle.aes_core.specs.Modes.{text_block, block_before}
use Rattle.aes_core.proofs.BlockLoop.{Written}
use Rattle.aes_core.proofs.modes.decrypt_eights.Given as goal

abbrev pub invariant-loop-i : goal.invariant-loop-i
invariant-loop-i l =
    AreBytes l.fn.bytes × IsCipherBlock l.before × (l.before ≡ block_before l.iv l.fn.bytes (8 * l.i))
    × Written (λ j. xored (decrypted l.key (text_block l.fn.bytes j)) (block_before l.iv l.fn.bytes j)) l.fn.bytes l.bytes (8 * l.i)

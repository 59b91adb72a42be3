use Rattle.std.proofs.Common.{◌≡◌, ◌*◌}
use Rattle.aes_core.specs.Cipher.{AreBytes, decrypted, xored}
use Rattle.aes_core.specs.Modes.{text_block, block_before}
use Rattle.aes_core.proofs.BlockLoop.{Written}
use Rattle.aes_core.proofs.modes.cbc_tail_decrypt.Given as goal

abbrev pub invariant-fours : goal.invariant-fours
invariant-fours l =
    AreBytes l.fn.bytes × (l.before ≡ block_before l.iv l.fn.bytes (4 * l.i))
    × Written (λ j. xored (decrypted l.key (text_block l.fn.bytes j)) (block_before l.iv l.fn.bytes j)) l.fn.bytes l.bytes (4 * l.i)

abbrev pub invariant-rest : goal.invariant-rest
invariant-rest l =
    AreBytes l.fn.bytes × (l.before ≡ block_before l.iv l.fn.bytes l.k)
    × Written (λ j. xored (decrypted l.key (text_block l.fn.bytes j)) (block_before l.iv l.fn.bytes j)) l.fn.bytes l.bytes l.k

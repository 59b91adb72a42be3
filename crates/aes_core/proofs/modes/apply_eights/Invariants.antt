use Rattle.std.proofs.Common.{◌+◌, ◌*◌, ◌%◌, ◌^◌}
use Rattle.std.specs.Int.{to_be_bytes, w128}
use Rattle.aes_core.specs.Cipher.{encrypted, xored}
use Rattle.aes_core.specs.Modes.{text_block}
use Rattle.aes_core.proofs.BlockLoop.{Written}
use Rattle.aes_core.proofs.modes.apply_eights.Given as goal

abbrev pub invariant-loop-i : goal.invariant-loop-i
invariant-loop-i l =
    Written (λ j. xored (text_block l.fn.bytes j) (encrypted l.key (to_be_bytes w128 ((l.start + j) % 2 ^ 128)))) l.fn.bytes l.bytes (8 * l.i)

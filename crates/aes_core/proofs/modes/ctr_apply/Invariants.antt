use Rattle.std.proofs.Common.{◌*◌}
use Rattle.aes_core.specs.Cipher.{encrypted, xored}
use Rattle.aes_core.specs.Modes.{text_block, counter_at}
use Rattle.aes_core.proofs.BlockLoop.{AreBlocks, Written}
use Rattle.aes_core.proofs.modes.ctr_apply.Given as goal

abbrev pub invariant-fours : goal.invariant-fours
invariant-fours l =
    AreBlocks (λ j. encrypted l.key (counter_at l.counter j)) (4 * l.i)
    × Written (λ j. xored (text_block l.fn.bytes j) (encrypted l.key (counter_at l.counter j))) l.fn.bytes l.bytes (4 * l.i)

abbrev pub invariant-rest : goal.invariant-rest
invariant-rest l =
    AreBlocks (λ j. encrypted l.key (counter_at l.counter j)) l.k
    × Written (λ j. xored (text_block l.fn.bytes j) (encrypted l.key (counter_at l.counter j))) l.fn.bytes l.bytes l.k

use Rattle.std.proofs.Common.{◌≡◌, suc}
use Rattle.std.specs.Int.{to_le_bytes, w128}
use Rattle.aes_core.specs.Modes.{chain}
use Rattle.aes_core.proofs.BlockLoop.{Written}
use Rattle.aes_core.proofs.modes.cbc_tail_encrypt.Given as goal

abbrev pub invariant-loop-i : goal.invariant-loop-i
invariant-loop-i l =
    (to_le_bytes w128 l.chain ≡ chain l.key l.iv l.fn.bytes l.i) × Written (λ j. chain l.key l.iv l.fn.bytes (suc j)) l.fn.bytes l.bytes l.i

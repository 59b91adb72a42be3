use Rattle.std.proofs.Common.{[], get_or}
use Rattle.aes_core.specs.Cipher.{xored}
use Rattle.aes_core.specs.Modes.{text_block}
use Rattle.aes_core.proofs.BlockLoop.{Written}
use Rattle.aes_core.proofs.modes.xor_eight.Given as goal

abbrev pub invariant-loop-k : goal.invariant-loop-k
invariant-loop-k l = Written (λ k. xored (text_block l.fn.to k) (get_or l.with k [])) l.fn.to l.to l.k

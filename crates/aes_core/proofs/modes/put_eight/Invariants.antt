use Rattle.std.proofs.Common.{[], get_or}
use Rattle.aes_core.proofs.BlockLoop.{Written}
use Rattle.aes_core.proofs.modes.put_eight.Given as goal

abbrev pub invariant-loop-k : goal.invariant-loop-k
invariant-loop-k l = Written (λ k. get_or l.blocks k []) l.fn.to l.to l.k

use Rattle.std.proofs.Common.{◌≡◌, ◌-◌}
use Rattle.aes_core.specs.Cipher.{before_rounds, bytes_of, state_of}
use Rattle.aes_core.proofs.words.decrypt.Given as goal

abbrev pub invariant-loop-n : goal.invariant-loop-n
invariant-loop-n l = state_of l.w ≡ before_rounds (bytes_of l.keys) l.rounds l.fn.s (l.n - 1)

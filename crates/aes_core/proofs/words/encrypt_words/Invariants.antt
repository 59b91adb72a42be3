use Rattle.std.proofs.Common.{◌≡◌, ◌-◌}
use Rattle.aes_core.specs.Cipher.{after_rounds, bytes_of, state_of}
use Rattle.aes_core.proofs.words.encrypt_words.Given as goal

abbrev pub invariant-loop-r : goal.invariant-loop-r
invariant-loop-r l = state_of l.w ≡ after_rounds (bytes_of l.keys) (state_of l.fn.first) (l.r - 1)

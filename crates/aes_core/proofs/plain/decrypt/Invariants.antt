use Rattle.std.proofs.Common.{◌≡◌, ◌-◌}
use Rattle.aes_core.specs.Cipher.{before_rounds}
use Rattle.aes_core.proofs.plain.decrypt.Given as goal

abbrev pub invariant-loop-n : goal.invariant-loop-n
invariant-loop-n l = l.s ≡ before_rounds l.keys l.rounds l.fn.s (l.n - 1)

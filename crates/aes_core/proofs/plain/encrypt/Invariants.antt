use Rattle.std.proofs.Common.{◌≡◌, ◌-◌}
use Rattle.aes_core.specs.Cipher.{after_rounds}
use Rattle.aes_core.proofs.plain.encrypt.Given as goal

abbrev pub invariant-loop-r : goal.invariant-loop-r
invariant-loop-r l = l.s ≡ after_rounds l.keys l.fn.s (l.r - 1)

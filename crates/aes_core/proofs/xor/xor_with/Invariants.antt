use Rattle.std.proofs.Common.{◌≡◌, ◌++◌, take, drop}
use Rattle.aes_core.specs.Cipher.{xored}
use Rattle.aes_core.proofs.xor.xor_with.Given as goal

abbrev pub invariant-loop-i : goal.invariant-loop-i
invariant-loop-i l = l.to ≡ xored (take l.i l.fn.to) (take l.i l.with) ++ drop l.i l.fn.to

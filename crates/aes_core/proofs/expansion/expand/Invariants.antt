use Rattle.std.proofs.Common.{◌≡◌, ◌*◌, ◌-◌, length, take}
use Rattle.aes_core.specs.Cipher.{expanded}
use Rattle.aes_core.proofs.expansion.expand.Given as goal

abbrev pub invariant-loop-i : goal.invariant-loop-i
invariant-loop-i l = (length l.keys ≡ 240) × (take (4 * l.i) l.keys ≡ expanded l.key (l.i - l.nk))

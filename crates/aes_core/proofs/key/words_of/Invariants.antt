use Rattle.std.proofs.Common.{◌≡◌, ◌*◌, length, take}
use Rattle.aes_core.specs.Cipher.{bytes_of}
use Rattle.aes_core.proofs.key.words_of.Given as goal

abbrev pub invariant-loop-i : goal.invariant-loop-i
invariant-loop-i l = (length l.out ≡ 60) × (bytes_of (take l.i l.out) ≡ take (4 * l.i) l.keys)

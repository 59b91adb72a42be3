use Rattle.std.proofs.Common.{◌≡◌, ◌*◌, length, take}
use Rattle.aes_core.specs.Cipher.{bytes_of, round_key, inv_mix_columns}
use Rattle.aes_core.specs.Modes.{joined}
use Rattle.aes_core.proofs.key.back_of.Given as goal

abbrev pub invariant-loop-r : goal.invariant-loop-r
invariant-loop-r l = (length l.out ≡ 60) × (bytes_of (take (4 * l.r) l.out) ≡ joined (λ j. inv_mix_columns (round_key l.keys j)) l.r)

-- One round more or less, as the definitions of a block enciphered and deciphered count them.
use Rattle.std.proofs.Common.{◌≡◌, ℕ, suc, ◌+◌, ◌-◌, ◌*◌, List, take, drop, ap, refl, arith}
use Rattle.aes_core.specs.Cipher.{after_rounds, before_rounds, inv_mix_columns, inv_shift_rows, inv_sub_bytes, mix_columns, round_key, shift_rows, sub_bytes, xored}

-- the key of round r, as a round of the plain body reads it
pub plain_key_at : (w : List ℕ) (r : ℕ) → take (16 * r + 16 - 16 * r) (drop (16 * r) w) ≡ round_key w r
plain_key_at w r =
    let e : 16 * r + 16 - 16 * r ≡ 16 = omega arith in
    ap (λ (n : ℕ). take n (drop (16 * r) w)) e

pub after_none : (w s : List ℕ) → xored s (round_key w 0) ≡ after_rounds w s 0
unfolding after_rounds
after_none w s = refl

pub after_more : (w s : List ℕ) (n r : ℕ) → r ≡ suc n → xored (mix_columns (shift_rows (sub_bytes (after_rounds w s n)))) (round_key w r) ≡ after_rounds w s r
unfolding after_rounds
after_more w s n r e = rw e refl

pub before_none : (w s : List ℕ) (m : ℕ) → xored s (round_key w m) ≡ before_rounds w m s 0
unfolding before_rounds
before_none w s m = refl

pub before_more : (w s : List ℕ) (m n k : ℕ) → k ≡ suc n
    → inv_mix_columns (xored (inv_sub_bytes (inv_shift_rows (before_rounds w m s n))) (round_key w (m - k))) ≡ before_rounds w m s k
unfolding before_rounds
before_more w s m n k e = rw e refl

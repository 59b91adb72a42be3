-- Each step of AES is undone by its inverse, and so is the cipher, in both directions.
use Rattle.std.proofs.Common.{◌≡◌, ℕ, zero, suc, ◌+◌, ◌-◌, ◌*◌, ◌/◌, ◌%◌, ◌^◌, ◌<◌, ◌≤◌, List, [], ◌∷◌, ◌++◌, length, map, slice_index, bit_xor, refl, sym, ap, ◌∙◌, arith}
use Rattle.std.specs.Int.{byte_at}
use Rattle.std.specs.List.{range_with_len}
use Rattle.std.proofs.lemmas.List.{length-map}
use Rattle.std.proofs.lemmas.Nat.{xor_lt}
use Rattle.std.proofs.lemmas.Simd.{length-zip2}
use lib.Lanes.{zip2}
use Rattle.byte_list.proofs.ByteLaws.{bytes_append, bytes_four, bytes_made, bytes_map, bytes_zip2}
use Rattle.aes_core.specs.Field.{product_of, sub_byte, times, inv_sub_byte}
use Rattle.aes_core.specs.Cipher.{AreBytes, IsCipherBlock, after_rounds, before_rounds, circulant_times, column_times, decrypted_by, encrypted_by, mix_columns, round_key, row_times, shift_rows, sub_bytes, inv_mix_columns, inv_shift_rows, inv_sub_bytes, xored}
use Rattle.aes_core.proofs.ByTable.{everywhere, sub-inv_sub, sub_byte-lt, inv_sub-sub, inv_sub_byte-lt}
use Rattle.aes_core.proofs.Linear.{row_times-lt, undone}
use Rattle.byte_list.proofs.XorLaws.{xored_twice}

pub sixteen_of : (s : List ℕ) → length s ≡ 16
    → s ≡ slice_index s 0 ∷ slice_index s 1 ∷ slice_index s 2 ∷ slice_index s 3 ∷ slice_index s 4 ∷ slice_index s 5 ∷ slice_index s 6 ∷ slice_index s 7
    ∷ slice_index s 8 ∷ slice_index s 9 ∷ slice_index s 10 ∷ slice_index s 11 ∷ slice_index s 12 ∷ slice_index s 13 ∷ slice_index s 14 ∷ slice_index s 15 ∷ []
sixteen_of (a ∷ b ∷ c ∷ d ∷ e ∷ f ∷ g ∷ h ∷ i ∷ j ∷ k ∷ l ∷ m ∷ n ∷ o ∷ p ∷ []) long = refl
sixteen_of _ long = absurd (omega arith)

-- ---- bytes

pub byte_at-lt : (k n : ℕ) → byte_at k n < 256
byte_at-lt zero n = omega arith
byte_at-lt (suc i) n = below (n / 256 ^ suc i)
  where
    below : (m : ℕ) → m % 256 < 256
    below m = omega arith

map_back : (f g : ℕ → ℕ) → ((a : ℕ) → a < 256 → g (f a) ≡ a) → (xs : List ℕ) → AreBytes xs → map g (map f xs) ≡ xs
map_back f g h [] t = refl
map_back f g h (x ∷ xs) t = (λ i. h x (t 0) i ∷ map_back f g h xs (λ j. t (suc j)) i)

-- ---- the steps keep blocks

pub block_zip2 : (f : ℕ → ℕ → ℕ) → ((a b : ℕ) → a < 256 → b < 256 → f a b < 256) → (s k : List ℕ) → IsCipherBlock s → IsCipherBlock k → IsCipherBlock (zip2 f s k)
block_zip2 f keeps s k h t = record { long = length-zip2 f s k (h.long ∙ sym t.long) ∙ h.long; bytes = bytes_zip2 f keeps s k h.bytes t.bytes }

pub block_xored : (s k : List ℕ) → IsCipherBlock s → IsCipherBlock k → IsCipherBlock (xored s k)
block_xored s k h t = block_zip2 bit_xor (xor_lt 8) s k h t

pub block_sub : (s : List ℕ) → IsCipherBlock s → IsCipherBlock (sub_bytes s)
block_sub s h = record { long = length-map s sub_byte ∙ h.long; bytes = bytes_map sub_byte sub_byte-lt s h.bytes }

pub block_inv_sub : (s : List ℕ) → IsCipherBlock s → IsCipherBlock (inv_sub_bytes s)
block_inv_sub s h = record { long = length-map s inv_sub_byte ∙ h.long; bytes = bytes_map inv_sub_byte inv_sub_byte-lt s h.bytes }

pub block_shift : (s : List ℕ) → IsCipherBlock s → IsCipherBlock (shift_rows s)
block_shift s h = record { long = refl; bytes = bytes_made (λ k. slice_index s (k % 4 + 4 * ((k / 4 + k % 4) % 4))) (λ k. h.bytes (k % 4 + 4 * ((k / 4 + k % 4) % 4))) (range_with_len 0 16) }

pub block_inv_shift : (s : List ℕ) → IsCipherBlock s → IsCipherBlock (inv_shift_rows s)
block_inv_shift s h = record { long = refl; bytes = bytes_made (λ k. slice_index s (k % 4 + 4 * ((k / 4 + 4 - k % 4) % 4))) (λ k. h.bytes (k % 4 + 4 * ((k / 4 + 4 - k % 4) % 4))) (range_with_len 0 16) }

column_bytes : (m n o p a b c d : ℕ) → a < 256 → b < 256 → c < 256 → d < 256 → AreBytes (circulant_times m n o p a b c d)
column_bytes m n o p a b c d ha hb hc hd =
    bytes_four (row_times m n o p a b c d) (row_times p m n o a b c d) (row_times o p m n a b c d) (row_times n o p m a b c d)
    (row_times-lt m n o p a b c d ha hb hc hd) (row_times-lt p m n o a b c d ha hb hc hd) (row_times-lt o p m n a b c d ha hb hc hd) (row_times-lt n o p m a b c d ha hb hc hd)

columns_bytes : (m n o p : ℕ) (s : List ℕ) → AreBytes s
    → AreBytes (column_times m n o p s 0 ++ column_times m n o p s 1 ++ column_times m n o p s 2 ++ column_times m n o p s 3)
columns_bytes m n o p s h =
    let one : (c : ℕ) → AreBytes (column_times m n o p s c) = λ c. column_bytes m n o p (slice_index s (4 * c)) (slice_index s (4 * c + 1)) (slice_index s (4 * c + 2)) (slice_index s (4 * c + 3)) (h (4 * c)) (h (4 * c + 1)) (h (4 * c + 2)) (h (4 * c + 3)) in
    bytes_append (column_times m n o p s 0 ++ column_times m n o p s 1 ++ column_times m n o p s 2) (column_times m n o p s 3)
    (bytes_append (column_times m n o p s 0 ++ column_times m n o p s 1) (column_times m n o p s 2)
    (bytes_append (column_times m n o p s 0) (column_times m n o p s 1) (one 0) (one 1)) (one 2)) (one 3)

pub block_mix : (s : List ℕ) → IsCipherBlock s → IsCipherBlock (mix_columns s)
block_mix s h = record { long = refl; bytes = columns_bytes 2 3 1 1 s h.bytes }

pub block_inv_mix : (s : List ℕ) → IsCipherBlock s → IsCipherBlock (inv_mix_columns s)
block_inv_mix s h = record { long = refl; bytes = columns_bytes 14 11 13 9 s h.bytes }

-- ---- the steps and their inverses

pub inv_sub-sub_bytes : (s : List ℕ) → IsCipherBlock s → inv_sub_bytes (sub_bytes s) ≡ s
inv_sub-sub_bytes s h = map_back sub_byte inv_sub_byte inv_sub-sub s h.bytes

pub sub-inv_sub_bytes : (s : List ℕ) → IsCipherBlock s → sub_bytes (inv_sub_bytes s) ≡ s
sub-inv_sub_bytes s h = map_back inv_sub_byte sub_byte sub-inv_sub s h.bytes

pub inv_shift-shift : (s : List ℕ) → IsCipherBlock s → inv_shift_rows (shift_rows s) ≡ s
inv_shift-shift s h = sym (sixteen_of s h.long)

pub shift-inv_shift : (s : List ℕ) → IsCipherBlock s → shift_rows (inv_shift_rows s) ≡ s
shift-inv_shift s h = sym (sixteen_of s h.long)

there_1 : map (λ a. circulant_times 14 11 13 9 (times 2 a) (times 1 a) (times 1 a) (times 3 a)) (range_with_len 0 256) ≡ map (λ a. a ∷ 0 ∷ 0 ∷ 0 ∷ []) (range_with_len 0 256)
unfolding product_of
there_1 = refl

there_2 : map (λ a. circulant_times 14 11 13 9 (times 3 a) (times 2 a) (times 1 a) (times 1 a)) (range_with_len 0 256) ≡ map (λ a. 0 ∷ a ∷ 0 ∷ 0 ∷ []) (range_with_len 0 256)
unfolding product_of
there_2 = refl

there_3 : map (λ a. circulant_times 14 11 13 9 (times 1 a) (times 3 a) (times 2 a) (times 1 a)) (range_with_len 0 256) ≡ map (λ a. 0 ∷ 0 ∷ a ∷ 0 ∷ []) (range_with_len 0 256)
unfolding product_of
there_3 = refl

there_4 : map (λ a. circulant_times 14 11 13 9 (times 1 a) (times 1 a) (times 3 a) (times 2 a)) (range_with_len 0 256) ≡ map (λ a. 0 ∷ 0 ∷ 0 ∷ a ∷ []) (range_with_len 0 256)
unfolding product_of
there_4 = refl

back_1 : map (λ a. circulant_times 2 3 1 1 (times 14 a) (times 9 a) (times 13 a) (times 11 a)) (range_with_len 0 256) ≡ map (λ a. a ∷ 0 ∷ 0 ∷ 0 ∷ []) (range_with_len 0 256)
unfolding product_of
back_1 = refl

back_2 : map (λ a. circulant_times 2 3 1 1 (times 11 a) (times 14 a) (times 9 a) (times 13 a)) (range_with_len 0 256) ≡ map (λ a. 0 ∷ a ∷ 0 ∷ 0 ∷ []) (range_with_len 0 256)
unfolding product_of
back_2 = refl

back_3 : map (λ a. circulant_times 2 3 1 1 (times 13 a) (times 11 a) (times 14 a) (times 9 a)) (range_with_len 0 256) ≡ map (λ a. 0 ∷ 0 ∷ a ∷ 0 ∷ []) (range_with_len 0 256)
unfolding product_of
back_3 = refl

back_4 : map (λ a. circulant_times 2 3 1 1 (times 9 a) (times 13 a) (times 11 a) (times 14 a)) (range_with_len 0 256) ≡ map (λ a. 0 ∷ 0 ∷ 0 ∷ a ∷ []) (range_with_len 0 256)
unfolding product_of
back_4 = refl

inv_mix-mix_column : (a b c d : ℕ) → a < 256 → b < 256 → c < 256 → d < 256
    → circulant_times 14 11 13 9 (row_times 2 3 1 1 a b c d) (row_times 1 2 3 1 a b c d) (row_times 1 1 2 3 a b c d) (row_times 3 1 1 2 a b c d) ≡ a ∷ b ∷ c ∷ d ∷ []
inv_mix-mix_column = undone 14 11 13 9 2 3 1 1
    (everywhere (λ a. circulant_times 14 11 13 9 (times 2 a) (times 1 a) (times 1 a) (times 3 a)) (λ a. a ∷ 0 ∷ 0 ∷ 0 ∷ []) there_1)
    (everywhere (λ a. circulant_times 14 11 13 9 (times 3 a) (times 2 a) (times 1 a) (times 1 a)) (λ a. 0 ∷ a ∷ 0 ∷ 0 ∷ []) there_2)
    (everywhere (λ a. circulant_times 14 11 13 9 (times 1 a) (times 3 a) (times 2 a) (times 1 a)) (λ a. 0 ∷ 0 ∷ a ∷ 0 ∷ []) there_3)
    (everywhere (λ a. circulant_times 14 11 13 9 (times 1 a) (times 1 a) (times 3 a) (times 2 a)) (λ a. 0 ∷ 0 ∷ 0 ∷ a ∷ []) there_4)

mix-inv_mix_column : (a b c d : ℕ) → a < 256 → b < 256 → c < 256 → d < 256
    → circulant_times 2 3 1 1 (row_times 14 11 13 9 a b c d) (row_times 9 14 11 13 a b c d) (row_times 13 9 14 11 a b c d) (row_times 11 13 9 14 a b c d) ≡ a ∷ b ∷ c ∷ d ∷ []
mix-inv_mix_column = undone 2 3 1 1 14 11 13 9
    (everywhere (λ a. circulant_times 2 3 1 1 (times 14 a) (times 9 a) (times 13 a) (times 11 a)) (λ a. a ∷ 0 ∷ 0 ∷ 0 ∷ []) back_1)
    (everywhere (λ a. circulant_times 2 3 1 1 (times 11 a) (times 14 a) (times 9 a) (times 13 a)) (λ a. 0 ∷ a ∷ 0 ∷ 0 ∷ []) back_2)
    (everywhere (λ a. circulant_times 2 3 1 1 (times 13 a) (times 11 a) (times 14 a) (times 9 a)) (λ a. 0 ∷ 0 ∷ a ∷ 0 ∷ []) back_3)
    (everywhere (λ a. circulant_times 2 3 1 1 (times 9 a) (times 13 a) (times 11 a) (times 14 a)) (λ a. 0 ∷ 0 ∷ 0 ∷ a ∷ []) back_4)

pub inv_mix-mix : (s : List ℕ) → IsCipherBlock s → inv_mix_columns (mix_columns s) ≡ s
inv_mix-mix s h =
    let x = λ (k : ℕ). slice_index s k in
    let u0 = inv_mix-mix_column (x 0) (x 1) (x 2) (x 3) (h.bytes 0) (h.bytes 1) (h.bytes 2) (h.bytes 3) in
    let u1 = inv_mix-mix_column (x 4) (x 5) (x 6) (x 7) (h.bytes 4) (h.bytes 5) (h.bytes 6) (h.bytes 7) in
    let u2 = inv_mix-mix_column (x 8) (x 9) (x 10) (x 11) (h.bytes 8) (h.bytes 9) (h.bytes 10) (h.bytes 11) in
    let u3 = inv_mix-mix_column (x 12) (x 13) (x 14) (x 15) (h.bytes 12) (h.bytes 13) (h.bytes 14) (h.bytes 15) in
    (λ i. u0 i ++ u1 i ++ u2 i ++ u3 i) ∙ sym (sixteen_of s h.long)

pub mix-inv_mix : (s : List ℕ) → IsCipherBlock s → mix_columns (inv_mix_columns s) ≡ s
mix-inv_mix s h =
    let x = λ (k : ℕ). slice_index s k in
    let u0 = mix-inv_mix_column (x 0) (x 1) (x 2) (x 3) (h.bytes 0) (h.bytes 1) (h.bytes 2) (h.bytes 3) in
    let u1 = mix-inv_mix_column (x 4) (x 5) (x 6) (x 7) (h.bytes 4) (h.bytes 5) (h.bytes 6) (h.bytes 7) in
    let u2 = mix-inv_mix_column (x 8) (x 9) (x 10) (x 11) (h.bytes 8) (h.bytes 9) (h.bytes 10) (h.bytes 11) in
    let u3 = mix-inv_mix_column (x 12) (x 13) (x 14) (x 15) (h.bytes 12) (h.bytes 13) (h.bytes 14) (h.bytes 15) in
    (λ i. u0 i ++ u1 i ++ u2 i ++ u3 i) ∙ sym (sixteen_of s h.long)

-- ---- the cipher

-- the keys of rounds 0 to m are blocks
pub record AreKeys (w : List ℕ) (m : ℕ) : Type 0 where
  pub keys : (r : ℕ) → r ≤ m → IsCipherBlock (round_key w r)

pub block_after : (w s : List ℕ) (m n : ℕ) → AreKeys w m → IsCipherBlock s → n ≤ m → IsCipherBlock (after_rounds w s n)
unfolding after_rounds
block_after w s m zero k h le = block_xored s (round_key w 0) h (k.keys 0 (omega arith))
block_after w s m (suc n) k h le =
    let p = block_after w s m n k h (omega arith) in
    block_xored _ (round_key w (suc n)) (block_mix _ (block_shift _ (block_sub _ p))) (k.keys (suc n) le)

pub block_before : (w s : List ℕ) (m n : ℕ) → AreKeys w m → IsCipherBlock s → n ≤ m → IsCipherBlock (before_rounds w m s n)
unfolding before_rounds
block_before w s m zero k h le = block_xored s (round_key w m) h (k.keys m (omega arith))
block_before w s m (suc n) k h le =
    let p = block_before w s m n k h (omega arith) in
    block_inv_mix _ (block_xored _ (round_key w (m - suc n)) (block_inv_sub _ (block_inv_shift _ p)) (k.keys (m - suc n) (omega arith)))

pub block_encrypted : (w s : List ℕ) (m : ℕ) → AreKeys w m → IsCipherBlock s → IsCipherBlock (encrypted_by w m s)
block_encrypted w s m k h =
    block_xored _ (round_key w m) (block_shift _ (block_sub _ (block_after w s m (m - 1) k h (omega arith)))) (k.keys m (omega arith))

pub block_decrypted : (w s : List ℕ) (m : ℕ) → AreKeys w m → IsCipherBlock s → IsCipherBlock (decrypted_by w m s)
block_decrypted w s m k h =
    block_xored _ (round_key w 0) (block_inv_sub _ (block_inv_shift _ (block_before w s m (m - 1) k h (omega arith)))) (k.keys 0 (omega arith))

cancelled : (s k : List ℕ) → IsCipherBlock s → IsCipherBlock k → xored (xored s k) k ≡ s
cancelled s k h t = xored_twice s k (omega (arith, h.long, t.long))

-- n rounds before the end of an encryption
before_is : (w s : List ℕ) (m n : ℕ) → AreKeys w m → IsCipherBlock s → n + 1 ≤ m
    → before_rounds w m (encrypted_by w m s) n ≡ shift_rows (sub_bytes (after_rounds w s (m - 1 - n)))
unfolding before_rounds after_rounds
before_is w s m zero k h le =
    let x = block_shift _ (block_sub _ (block_after w s m (m - 1) k h (omega arith))) in
    let e : m - 1 - 0 ≡ m - 1 = omega arith in
    rw e (cancelled _ (round_key w m) x (k.keys m (omega arith)))
before_is w s m (suc n) k h le =
    let i : ℕ = m - 1 - suc n in
    let a : List ℕ = after_rounds w s i in
    let ha : IsCipherBlock a = block_after w s m i k h (omega arith) in
    let e : m - 1 - n ≡ suc i = omega arith in
    let f : m - suc n ≡ suc i = omega arith in
    let key : IsCipherBlock (round_key w (suc i)) = k.keys (suc i) (omega arith) in
    let mixed : List ℕ = mix_columns (shift_rows (sub_bytes a)) in
    let hm : IsCipherBlock mixed = block_mix _ (block_shift _ (block_sub _ ha)) in
    let next : List ℕ = xored mixed (round_key w (suc i)) in
    let hn : IsCipherBlock next = block_xored mixed (round_key w (suc i)) hm key in
    let before : before_rounds w m (encrypted_by w m s) n ≡ shift_rows (sub_bytes next) = before_is w s m n k h (omega arith) ∙ ap (λ (j : ℕ). shift_rows (sub_bytes (after_rounds w s j))) e in
    ap (λ (x : List ℕ). inv_mix_columns (xored (inv_sub_bytes (inv_shift_rows x)) (round_key w (m - suc n)))) before
    ∙ ap (λ (x : List ℕ). inv_mix_columns (xored (inv_sub_bytes x) (round_key w (m - suc n)))) (inv_shift-shift _ (block_sub _ hn))
    ∙ ap (λ (x : List ℕ). inv_mix_columns (xored x (round_key w (m - suc n)))) (inv_sub-sub_bytes _ hn)
    ∙ ap (λ (j : ℕ). inv_mix_columns (xored next (round_key w j))) f
    ∙ ap inv_mix_columns (cancelled mixed (round_key w (suc i)) hm key)
    ∙ inv_mix-mix _ (block_shift _ (block_sub _ ha))

pub decrypted-encrypted : (w s : List ℕ) (m : ℕ) → 0 < m → AreKeys w m → IsCipherBlock s → decrypted_by w m (encrypted_by w m s) ≡ s
unfolding after_rounds
decrypted-encrypted w s m pos k h =
    let e : m - 1 - (m - 1) ≡ 0 = omega arith in
    let first : List ℕ = after_rounds w s 0 in
    let hf : IsCipherBlock first = block_after w s m 0 k h (omega arith) in
    ap (λ (x : List ℕ). xored (inv_sub_bytes (inv_shift_rows x)) (round_key w 0)) (before_is w s m (m - 1) k h (omega arith) ∙ ap (λ (j : ℕ). shift_rows (sub_bytes (after_rounds w s j))) e)
    ∙ ap (λ (x : List ℕ). xored (inv_sub_bytes x) (round_key w 0)) (inv_shift-shift _ (block_sub _ hf))
    ∙ ap (λ (x : List ℕ). xored x (round_key w 0)) (inv_sub-sub_bytes _ hf)
    ∙ cancelled s (round_key w 0) h (k.keys 0 (omega arith))

-- n rounds into the encryption of what was decrypted
after_is : (w s : List ℕ) (m n : ℕ) → AreKeys w m → IsCipherBlock s → n + 1 ≤ m
    → after_rounds w (decrypted_by w m s) n ≡ inv_sub_bytes (inv_shift_rows (before_rounds w m s (m - 1 - n)))
unfolding before_rounds after_rounds
after_is w s m zero k h le =
    let x = block_inv_sub _ (block_inv_shift _ (block_before w s m (m - 1) k h (omega arith))) in
    let e : m - 1 - 0 ≡ m - 1 = omega arith in
    rw e (cancelled _ (round_key w 0) x (k.keys 0 (omega arith)))
after_is w s m (suc n) k h le =
    let i : ℕ = m - 1 - suc n in
    let b : List ℕ = before_rounds w m s i in
    let hb : IsCipherBlock b = block_before w s m i k h (omega arith) in
    let e : m - 1 - n ≡ suc i = omega arith in
    let f : m - suc i ≡ suc n = omega arith in
    let key : IsCipherBlock (round_key w (suc n)) = k.keys (suc n) (omega arith) in
    let subbed : List ℕ = inv_sub_bytes (inv_shift_rows b) in
    let hs : IsCipherBlock subbed = block_inv_sub _ (block_inv_shift _ hb) in
    let inner : List ℕ = xored subbed (round_key w (suc n)) in
    let hi : IsCipherBlock inner = block_xored subbed (round_key w (suc n)) hs key in
    let next : List ℕ = inv_mix_columns inner in
    let hn : IsCipherBlock next = block_inv_mix inner hi in
    let step : before_rounds w m s (suc i) ≡ next = ap (λ (j : ℕ). inv_mix_columns (xored subbed (round_key w j))) f in
    let after : after_rounds w (decrypted_by w m s) n ≡ inv_sub_bytes (inv_shift_rows next) =
    after_is w s m n k h (omega arith) ∙ ap (λ (j : ℕ). inv_sub_bytes (inv_shift_rows (before_rounds w m s j))) e ∙ ap (λ (x : List ℕ). inv_sub_bytes (inv_shift_rows x)) step in
    ap (λ (x : List ℕ). xored (mix_columns (shift_rows (sub_bytes x))) (round_key w (suc n))) after
    ∙ ap (λ (x : List ℕ). xored (mix_columns (shift_rows x)) (round_key w (suc n))) (sub-inv_sub_bytes _ (block_inv_shift _ hn))
    ∙ ap (λ (x : List ℕ). xored (mix_columns x) (round_key w (suc n))) (shift-inv_shift _ hn)
    ∙ ap (λ (x : List ℕ). xored x (round_key w (suc n))) (mix-inv_mix _ hi)
    ∙ cancelled subbed (round_key w (suc n)) hs key

pub encrypted-decrypted : (w s : List ℕ) (m : ℕ) → 0 < m → AreKeys w m → IsCipherBlock s → encrypted_by w m (decrypted_by w m s) ≡ s
unfolding before_rounds
encrypted-decrypted w s m pos k h =
    let e : m - 1 - (m - 1) ≡ 0 = omega arith in
    let first : List ℕ = before_rounds w m s 0 in
    let hf : IsCipherBlock first = block_before w s m 0 k h (omega arith) in
    ap (λ (x : List ℕ). xored (shift_rows (sub_bytes x)) (round_key w m)) (after_is w s m (m - 1) k h (omega arith) ∙ ap (λ (j : ℕ). inv_sub_bytes (inv_shift_rows (before_rounds w m s j))) e)
    ∙ ap (λ (x : List ℕ). xored (shift_rows x) (round_key w m)) (sub-inv_sub_bytes _ (block_inv_shift _ hf))
    ∙ ap (λ (x : List ℕ). xored x (round_key w m)) (shift-inv_shift _ hf)
    ∙ cancelled s (round_key w m) h (k.keys m (omega arith))

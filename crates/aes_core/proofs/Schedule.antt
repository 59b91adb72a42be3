-- The keys of the rounds.
use Rattle.std.proofs.Common.{◌≡◌, ℕ, zero, suc, ◌+◌, ◌-◌, ◌*◌, ◌/◌, ◌%◌, ◌==◌, ◌&&◌, ◌<◌, ◌≤◌, Bool, true, false, List, [], ◌∷◌, ◌++◌, length, take, drop, slice_index, bit_xor, refl, sym, ap, ap₂, ◌∙◌, arith, inl, inr}
use Rattle.std.proofs.Common.{length-append, length-drop}
use Rattle.std.specs.Prelude.{if◌then◌else◌}
use Rattle.std.proofs.lemmas.List.{get_or-drop, get_or-take, length-map, length-take-le, take-append-le, take_all, take-take}
use Rattle.std.proofs.lemmas.List.{take_at}
use Rattle.std.proofs.lemmas.Slice.{take-put_mid}
use borrow.Rule.Slice.PartMut.{mid_of, post_of, put_mid, same_len_mid}
use Rattle.std.proofs.lemmas.Simd.{length-zip2}
use lib.Bits.{xor_zero_r}
use Rattle.byte_list.proofs.ByteLaws.{bytes_drop, bytes_take}
use Rattle.aes_core.specs.Field.{power, sub_byte}
use Rattle.aes_core.specs.Cipher.{AreBytes, IsKey, IsKeyLength, IsKeySchedule, changed_word, expanded, next_word, rot_word, round_count, schedule, sub_bytes, word_at, word_count, xored}
use Rattle.aes_core.proofs.ByTable.{sub_byte-lt}
use Rattle.aes_core.proofs.Linear.{times_x-lt}
use Rattle.aes_core.proofs.Inverse.{AreKeys}
use Rattle.byte_list.proofs.ByteLaws.{bytes_append, bytes_cons, bytes_map, bytes_nil, bytes_xored}

pub four_of : (t : List ℕ) → length t ≡ 4 → t ≡ slice_index t 0 ∷ slice_index t 1 ∷ slice_index t 2 ∷ slice_index t 3 ∷ []
four_of (a ∷ b ∷ c ∷ d ∷ []) long = refl
four_of _ long = absurd (omega arith)

-- a rotated and substituted word, with the constant
pub core_of : (t : List ℕ) (p : ℕ) → length t ≡ 4
    → bit_xor (sub_byte (slice_index t 1)) p ∷ sub_byte (slice_index t 2) ∷ sub_byte (slice_index t 3) ∷ sub_byte (slice_index t 0) ∷ []
    ≡ xored (sub_bytes (rot_word t)) (p ∷ 0 ∷ 0 ∷ 0 ∷ [])
core_of (a ∷ b ∷ c ∷ d ∷ []) p long =
    (λ i. bit_xor (sub_byte b) p ∷ sym (xor_zero_r (sub_byte c)) i ∷ sym (xor_zero_r (sub_byte d)) i ∷ sym (xor_zero_r (sub_byte a)) i ∷ [])
core_of _ p long = absurd (omega arith)

pub word_four : (w : List ℕ) (b : ℕ) → b + 4 ≤ length w
    → take 4 (drop b w) ≡ slice_index w b ∷ slice_index w (b + 1) ∷ slice_index w (b + 2) ∷ slice_index w (b + 3) ∷ []
word_four w b h =
    let t : List ℕ = drop b w in
    let long : length (take 4 t) ≡ 4 = length-take-le 4 t (omega (arith, length-drop b w)) in
    let at : (k : ℕ) → k < 4 → slice_index (take 4 t) k ≡ slice_index w (b + k) = λ k lt. get_or-take 4 t k 0 lt ∙ get_or-drop b w k 0 in
    let first : slice_index (take 4 t) 0 ≡ slice_index w b = at 0 (omega arith) ∙ (let e : b + 0 ≡ b = omega arith in ap (slice_index w) e) in
    four_of (take 4 t) long ∙ (λ i. first i ∷ at 1 (omega arith) i ∷ at 2 (omega arith) i ∷ at 3 (omega arith) i ∷ [])

chosen : (P : List ℕ → Type 0) (c d : Bool) (x y z : List ℕ) → P x → P y → P z → P (if c then x else if d then y else z)
chosen P true d x y z px py pz = px
chosen P false true x y z px py pz = py
chosen P false false x y z px py pz = pz

-- words are four bytes
pub record IsWord (t : List ℕ) : Type 0 where
  pub long : length t ≡ 4
  pub bytes : AreBytes t

word_xored : (s t : List ℕ) → IsWord s → IsWord t → IsWord (xored s t)
word_xored s t h k = record { long = length-zip2 bit_xor s t (h.long ∙ sym k.long) ∙ h.long; bytes = bytes_xored s t h.bytes k.bytes }

word_sub : (t : List ℕ) → IsWord t → IsWord (sub_bytes t)
word_sub t h = record { long = length-map t sub_byte ∙ h.long; bytes = bytes_map sub_byte sub_byte-lt t h.bytes }

word_rot : (t : List ℕ) → IsWord t → IsWord (rot_word t)
word_rot t h = record {
  long = omega (arith, h.long, length-append (drop 1 t) (take 1 t), length-drop 1 t, length-take-le 1 t (omega (arith, h.long)));
  bytes = bytes_append (drop 1 t) (take 1 t) (bytes_drop 1 t h.bytes) (bytes_take 1 t h.bytes);
}

power-lt : (n : ℕ) → power n < 256
unfolding power
power-lt zero = omega arith
power-lt (suc n) = times_x-lt (power n)

constant_word : (p : ℕ) → p < 256 → IsWord (p ∷ 0 ∷ 0 ∷ 0 ∷ [])
constant_word p h = record { long = refl; bytes = bytes_cons p (0 ∷ 0 ∷ 0 ∷ []) h zeros }
  where
    zeros : AreBytes (0 ∷ 0 ∷ 0 ∷ [])
    zeros = bytes_cons 0 (0 ∷ 0 ∷ []) (omega arith) (bytes_cons 0 (0 ∷ []) (omega arith) (bytes_cons 0 [] (omega arith) bytes_nil))

word_changed : (nk i : ℕ) (t : List ℕ) → IsWord t → IsWord (changed_word nk i t)
word_changed nk i t h =
    chosen IsWord (i % nk == 0) (nk == 8 && (i % 8 == 4)) _ _ t
    (word_xored _ _ (word_sub _ (word_rot t h)) (constant_word (power (i / nk - 1)) (power-lt (i / nk - 1)))) (word_sub t h) h

word_of : (w : List ℕ) (i : ℕ) → AreBytes w → 4 * i + 4 ≤ length w → IsWord (word_at w i)
word_of w i h le = record { long = length-take-le 4 (drop (4 * i) w) (omega (arith, length-drop (4 * i) w)); bytes = bytes_take 4 (drop (4 * i) w) (bytes_drop (4 * i) w h) }

word_next : (nk : ℕ) (w : List ℕ) (i : ℕ) → AreBytes w → 1 ≤ nk → nk ≤ i → 4 * i ≤ length w → IsWord (next_word nk w i)
word_next nk w i h some later le =
    word_xored _ _ (word_of w (i - nk) h (omega arith)) (word_changed nk i _ (word_of w (i - 1) h (omega arith)))

pub record IsText (w : List ℕ) (n : ℕ) : Type 0 where
  pub long : length w ≡ n
  pub bytes : AreBytes w

pub expanded-is : (key : List ℕ) (n : ℕ) → IsKey key → IsText (expanded key n) (4 * (word_count key + n))
unfolding expanded
expanded-is key zero k = record { long = k.whole ∙ omega arith; bytes = k.bytes }
expanded-is key (suc n) k =
    let nk : ℕ = word_count key in
    let w : List ℕ = expanded key n in
    let p = expanded-is key n k in
    let x : List ℕ = next_word nk w (nk + n) in
    let hx : IsWord x = word_next nk w (nk + n) p.bytes (omega (arith, k.some)) (omega arith) (omega (arith, p.long)) in
    record { long = omega (arith, length-append w x, p.long, hx.long); bytes = bytes_append w x p.bytes hx.bytes }

pub expanded_more : (key : List ℕ) (i nk : ℕ) → nk ≡ word_count key → nk ≤ i → expanded key (i + 1 - nk) ≡ expanded key (i - nk) ++ next_word nk (expanded key (i - nk)) i
unfolding expanded
expanded_more key i nk e le =
    let f : i + 1 - nk ≡ suc (i - nk) = omega arith in
    let g : nk + (i - nk) ≡ i = omega arith in
    rw f (ap₂ (λ (a b : ℕ). expanded key (i - nk) ++ next_word a (expanded key (i - nk)) b) (sym e) (ap (λ (a : ℕ). a + (i - nk)) (sym e) ∙ g))

pub key_from : (key : List ℕ) → IsKeyLength (length key) → AreBytes key → IsKey key
key_from key (inl e) h = record { whole = omega arith; some = omega arith; bytes = h }
key_from key (inr (inl e)) h = record { whole = omega arith; some = omega arith; bytes = h }
key_from key (inr (inr e)) h = record { whole = omega arith; some = omega arith; bytes = h }

pub keys_of : (key : List ℕ) → IsKey key → AreKeys (schedule key) (round_count key)
keys_of key k = record {
  keys = λ r le.
      let w : List ℕ = schedule key in
      let t = expanded-is key (4 * (round_count key + 1) - word_count key) k in
      let long : length (take 16 (drop (16 * r) w)) ≡ 16 = length-take-le 16 (drop (16 * r) w) (omega (arith, length-drop (16 * r) w, t.long, k.some)) in
      record { long = long; bytes = bytes_take 16 (drop (16 * r) w) (bytes_drop (16 * r) w t.bytes) };
}

pub expanded_none : (key : List ℕ) (n : ℕ) → n ≡ 0 → expanded key n ≡ key
unfolding expanded
expanded_none key n e = rw e refl

-- ---- the loop that writes them

pub key_long : (key : List ℕ) → IsKeyLength (length key) → length key ≤ 32
key_long key (inl e) = omega arith
key_long key (inr (inl e)) = omega arith
key_long key (inr (inr e)) = omega arith

pub key_at_most : (key : List ℕ) → IsKeyLength (length key) → 4 * (4 * (length key / 4) + 28) ≤ 240
key_at_most key h = omega (arith, key_long key h)

pub expand_first : (keys key head : List ℕ) (k : ℕ) → IsKey key → length keys ≡ 240 → length key ≤ 32 → k ≡ length key → head ≡ key
    → (length (put_mid 0 k keys head) ≡ 240) × (take (4 * (length key / 4)) (put_mid 0 k keys head) ≡ expanded key (length key / 4 - length key / 4))
expand_first keys key head k h long short ek e =
    let none : length key / 4 - length key / 4 ≡ 0 = omega arith in
    let fits : length head ≡ length (mid_of 0 k keys) = ap length e ∙ sym ek ∙ sym (length-take-le k keys (omega arith)) in
    let count : 4 * (length key / 4) ≡ length key = sym h.whole in (
      same_len_mid 0 k keys head fits ∙ long,
      ap (λ (n : ℕ). take n (put_mid 0 k keys head)) count ∙ take_at head (post_of 0 k keys) (length key) (ap length e) ∙ e ∙ sym (expanded_none key _ none),
    )

pub expand_more : (keys key word : List ℕ) (i k m nk : ℕ) → IsKey key → nk ≡ word_count key → length keys ≡ 240 → 4 * i + 4 ≤ 240 → nk ≤ i
    → take (4 * i) keys ≡ expanded key (i - nk) → k ≡ 4 → m ≡ 4 * i → word ≡ next_word nk (take m keys) i
    → (length (put_mid (4 * i) k keys word) ≡ 240) × (take (4 * (i + 1)) (put_mid (4 * i) k keys word) ≡ expanded key (i + 1 - nk))
expand_more keys key word i k m nk h enk long room le at ek em ew =
    let w : List ℕ = expanded key (i - nk) in
    let t = expanded-is key (i - nk) h in
    let made : word ≡ next_word nk w i = ew ∙ ap (λ (n : ℕ). next_word nk (take n keys) i) em ∙ ap (λ (x : List ℕ). next_word nk x i) at in
    let lw : IsWord (next_word nk w i) = word_next nk w i t.bytes (omega (arith, h.some)) le (omega (arith, t.long)) in
    let four : length word ≡ 4 = ap length made ∙ lw.long in
    let mid : length (mid_of (4 * i) k keys) ≡ k = length-take-le k (drop (4 * i) keys) (omega (arith, length-drop (4 * i) keys)) in (
      same_len_mid (4 * i) k keys word (four ∙ sym ek ∙ sym mid) ∙ long,
      take-put_mid (4 * i) k keys word (4 * (i + 1)) (omega arith) (omega arith) ∙ ap₂ (λ (a b : List ℕ). a ++ b) at made ∙ sym (expanded_more key i nk enk le),
    )

-- ---- a key that is opened

at_most : (n : ℕ) → IsKeyLength n → n ≤ 240
at_most n (inl e) = omega arith
at_most n (inr (inl e)) = omega arith
at_most n (inr (inr e)) = omega arith

expanded_begins : (key : List ℕ) (n : ℕ) → IsKey key → take (length key) (expanded key n) ≡ key
unfolding expanded
expanded_begins key zero k = take_all (length key) key (omega arith)
expanded_begins key (suc n) k =
    let x : List ℕ = next_word (word_count key) (expanded key n) (word_count key + n) in
    let t = expanded-is key n k in
    take-append-le (length key) (expanded key n) x (omega (arith, t.long, k.whole)) ∙ expanded_begins key n k

pub begins : (keys key : List ℕ) → IsKey key → take (16 * (length key / 4 + 7)) keys ≡ schedule key → take (length key) keys ≡ key
begins keys key k e =
    sym (take-take (length key) (16 * (length key / 4 + 7)) keys (omega (arith, k.whole)))
    ∙ ap (take (length key)) e ∙ expanded_begins key _ k

pub ready : (keys key : List ℕ) → IsKeyLength (length key) → AreBytes key → take (16 * (length key / 4 + 7)) keys ≡ schedule key → IsKeySchedule keys (length key)
ready keys key h b e =
    let begun : take (length key) keys ≡ key = begins keys key (key_from key h b) e in
    record { key_length = h; bytes = λ i. rw begun (b i); rounds = e ∙ ap schedule (sym begun) }

pub opened_key : (keys : List ℕ) (n : ℕ) (key : List ℕ) → length keys ≡ 240 → IsKeySchedule keys n → take n keys ≡ key → IsKey key
opened_key keys n key long h v =
    let few : n ≤ 240 = at_most n h.key_length in
    let len : n ≡ length key = sym (length-take-le n keys (omega arith)) ∙ ap length v in
    key_from key (rw len at h.key_length) (rw v at h.bytes)

pub opened : (keys : List ℕ) (n m : ℕ) (key : List ℕ) → length keys ≡ 240 → IsKeySchedule keys n → m ≡ 16 * (n / 4 + 7) → take n keys ≡ key
    → (take m keys ≡ schedule key) × (n / 4 + 6 ≡ round_count key)
opened keys n m key long h e v =
    let few : n ≤ 240 = at_most n h.key_length in
    let len : n ≡ length key = sym (length-take-le n keys (omega arith)) ∙ ap length v in (
      ap (λ (k : ℕ). take k keys) e ∙ h.rounds ∙ ap schedule v,
      ap (λ (k : ℕ). k / 4 + 6) len,
    )

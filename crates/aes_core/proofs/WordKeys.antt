-- Keys as words.
use Rattle.std.proofs.Common.{◌≡◌, ℕ, zero, suc, ◌+◌, ◌-◌, ◌*◌, ◌/◌, ◌<◌, ◌≤◌, List, [], ◌∷◌, ◌++◌, length, take, drop, slice_index, set, refl, sym, ap, ap₂, ◌∙◌, arith, inl, inr, length-drop}
use Rattle.std.specs.Int.{from_le_bytes, to_le_bytes, w32}
use Rattle.std.proofs.lemmas.List.{append-nil, drop-take, length-take-le, take-take, take_more_set}
use Rattle.std.proofs.lemmas.List.Concat.{flat_map-append}
use Rattle.std.proofs.lemmas.Slice.{take-put_mid}
use Rattle.std.proofs.Math.Seq.{take-add}
use borrow.Rule.Slice.PartMut.{mid_of, put_mid, same_len_mid}
use Rattle.aes_core.specs.Cipher.{AreBytes, IsKeyLength, IsWordSchedule, bytes_of, round_count, round_key, schedule, state_of, inv_mix_columns}
use Rattle.aes_core.specs.Modes.{joined}
use Rattle.aes_core.proofs.BlockLoop.{AreBlocks, joined_more}
use Rattle.aes_core.proofs.ModeLaws.{block_of_joined}
use Rattle.aes_core.proofs.Schedule.{opened, word_four}
use Rattle.aes_core.proofs.WordsAt.{bytes_from, key_words}

pub length-bytes_of : (w : List ℕ) → length (bytes_of w) ≡ 4 * length w
length-bytes_of [] = refl
length-bytes_of (a ∷ w) = omega (arith, length-bytes_of w)

pub words_taken : (w : List ℕ) (n : ℕ) → bytes_of (take n w) ≡ take (4 * n) (bytes_of w)
words_taken w zero = refl
words_taken [] (suc n) =
    let f : 4 * suc n ≡ suc (suc (suc (suc (4 * n)))) = omega arith in
    ap (λ (k : ℕ). take k (bytes_of [])) (sym f)
words_taken (a ∷ w) (suc n) =
    let f : 4 * suc n ≡ suc (suc (suc (suc (4 * n)))) = omega arith in
    ap (λ (l : List ℕ). to_le_bytes w32 a ++ l) (words_taken w n) ∙ ap (λ (k : ℕ). take k (bytes_of (a ∷ w))) (sym f)

pub part_of_front : (xs : List ℕ) (a k n : ℕ) → a + k ≤ n → take k (drop a (take n xs)) ≡ take k (drop a xs)
part_of_front xs a k n h =
    let e : n ≡ a + (n - a) = omega arith in
    ap (λ (m : ℕ). take k (drop a (take m xs))) e ∙ ap (take k) (drop-take a (n - a) xs) ∙ take-take k (n - a) (drop a xs) (omega arith)

few : (n : ℕ) → IsKeyLength n → n ≤ 32
few n (inl e) = omega arith
few n (inr (inl e)) = omega arith
few n (inr (inr e)) = omega arith

pub opened_words : (words back : List ℕ) (n m : ℕ) (key : List ℕ) → IsWordSchedule words back n → m ≡ 4 * (n / 4 + 6 + 1) → take n (bytes_of words) ≡ key
    → (bytes_of (take m words) ≡ schedule key) × (n / 4 + 6 ≡ round_count key)
opened_words words back n m key h e v =
    let long : length (bytes_of words) ≡ 240 = omega (arith, length-bytes_of words, h.words_long) in
    let o = opened (bytes_of words) n (4 * m) key long h.ready (omega arith) v in
    (words_taken words m ∙ o.0, o.1)

-- how many rounds a key that was opened has
pub opened_count : (words back : List ℕ) (n : ℕ) (key : List ℕ) → IsWordSchedule words back n → take n (bytes_of words) ≡ key → n / 4 + 6 ≡ round_count key
opened_count words back n key h v = (opened_words words back n (4 * (n / 4 + 6 + 1)) key h refl v).1

pub opened_back : (words back : List ℕ) (n m : ℕ) → IsWordSchedule words back n → m ≡ 4 * (n / 4 + 6 + 1) → (r : ℕ) → r ≤ n / 4 + 6
    → state_of (take 4 (drop (4 * r) (take m back))) ≡ inv_mix_columns (round_key (bytes_of (take m words)) r)
opened_back words back n m h e r le =
    let short : n ≤ 32 = few n h.ready.key_length in
    let keys : round_key (bytes_of (take m words)) r ≡ round_key (bytes_of words) r =
    ap (λ (l : List ℕ). take 16 (drop (16 * r) l)) (words_taken words m) ∙ part_of_front (bytes_of words) (16 * r) 16 (4 * m) (omega arith) in
    ap state_of (part_of_front back (4 * r) 4 m (omega arith)) ∙ h.turned r (omega arith) ∙ ap inv_mix_columns (sym keys)

-- ---- the loops that make them

pub word_more : (keys out : List ℕ) (i n : ℕ) → AreBytes keys → i < length out → 4 * i + 4 ≤ length keys
    → bytes_of (take i out) ≡ take (4 * i) keys
    → n ≡ from_le_bytes w32 (slice_index keys (4 * i) ∷ slice_index keys (4 * i + 1) ∷ slice_index keys (4 * i + 2) ∷ slice_index keys (4 * i + 3) ∷ [])
    → bytes_of (take (i + 1) (set out i n)) ≡ take (4 * (i + 1)) keys
word_more keys out i n b lt room held made =
    let e : 4 * i + 4 ≡ 4 * (i + 1) = omega arith in
    ap bytes_of (take_more_set out i n lt) ∙ flat_map-append (to_le_bytes w32) (take i out) (n ∷ [])
    ∙ ap₂ (λ (x y : List ℕ). x ++ y) held
    (append-nil (to_le_bytes w32 n) ∙ bytes_from _ _ _ _ n (b (4 * i)) (b (4 * i + 1)) (b (4 * i + 2)) (b (4 * i + 3)) made ∙ sym (word_four keys (4 * i) room))
    ∙ sym (take-add (4 * i) 4 keys) ∙ ap (λ (k : ℕ). take k keys) e

four_of : (t : List ℕ) → length t ≡ 4 → bytes_of t ≡ state_of t
four_of (a ∷ b ∷ c ∷ d ∷ []) long = refl
four_of _ long = absurd (omega arith)

pub turned_more : (f : ℕ → List ℕ) (out w : List ℕ) (r k : ℕ) → length out ≡ 60 → r < 15 → k ≡ 4 → length w ≡ 4
    → bytes_of (take (4 * r) out) ≡ joined f r → state_of w ≡ f r
    → (length (put_mid (4 * r) k out w) ≡ 60) × (bytes_of (take (4 * (r + 1)) (put_mid (4 * r) k out w)) ≡ joined f (r + 1))
turned_more f out w r k long lt ek lw held made =
    let mid : length (mid_of (4 * r) k out) ≡ k = length-take-le k (drop (4 * r) out) (omega (arith, length-drop (4 * r) out)) in (
      same_len_mid (4 * r) k out w (lw ∙ sym ek ∙ sym mid) ∙ long,
      ap bytes_of (take-put_mid (4 * r) k out w (4 * (r + 1)) (omega arith) (omega arith)) ∙ flat_map-append (to_le_bytes w32) (take (4 * r) out) w
          ∙ ap₂ (λ (x y : List ℕ). x ++ y) held (four_of w lw ∙ made) ∙ sym (joined_more f r),
    )

pub turned_at : (f : ℕ → List ℕ) (back : List ℕ) (r : ℕ) → length back ≡ 60 → r < 15 → AreBlocks f 15 → bytes_of back ≡ joined f 15 → state_of (take 4 (drop (4 * r) back)) ≡ f r
turned_at f back r long lt blocks e =
    key_words back r (omega arith) ∙ ap (λ (l : List ℕ). take 16 (drop (16 * r) l)) (e ∙ sym (append-nil (joined f 15))) ∙ block_of_joined f [] 15 r blocks lt

-- Eight planes, their lanes and the bits in them; and the planes of keys.
use Rattle.std.proofs.Common.{◌≡◌, ℕ, zero, suc, ◌+◌, ◌*◌, ◌/◌, ◌%◌, ◌^◌, ◌<◌, ◌≤◌, ◌⊎◌, inl, inr, List, [], ◌∷◌, length, map, get_or, slice_index, take, drop, bit_xor, refl, sym, subst, ap, ◌∙◌, arith}
use Rattle.std.specs.Int.{bit_at, byte_at}
use Rattle.std.specs.List.{range_with_len}
use Rattle.std.proofs.lemmas.Bool.{cases_lt}
use Rattle.std.proofs.lemmas.List.{drop-take, drop_at, get_or_past, length-map, length-take-le, take_all}
use Rattle.std.proofs.lemmas.List.FromFn.{get_or-map-range_with_len, get_or-range_with_len}
use Rattle.std.proofs.lemmas.Nat.{xor_mod, xor_shr}
use Rattle.std.proofs.lemmas.Nat.Bits.{bit_at-lt, bit_at-suc, bit_at-zero, bit_at_lowest}
use Rattle.std.proofs.lemmas.Simd.{Each1-from_get_or, Each1-get_or, get_or-zip2, get_or_wider, pick_l_whole, zip2-map}
use Rattle.std.proofs.lemmas.Slice.{take-put_mid, take-put_mid_below}
use borrow.Rule.Slice.PartMut.{put_mid}
use lib.Lanes.{Each1, number_l, zip2}
use Rattle.aes_core.specs.Cipher.{IsCipherBlock, round_key, state_of}
use Rattle.aes_core.specs.Planes.{AreKeyPlanes, ArePlanes, bits_in, block_in, bits_of_byte, round_planes}
use Rattle.aes_core.proofs.ByTable.{everywhere}
use Rattle.aes_core.proofs.Inverse.{byte_at-lt}
use Rattle.byte_list.proofs.ByteLaws.{bytes_made}

-- ---- eight of anything

abbrev pub eight : {X : Type 0} → (ℕ → X) → List X
eight f = map f (range_with_len 0 8)

pub all_eight : {X : Type 0} (P : X → Type 0) {a b c d e f g h : X} → P a → P b → P c → P d → P e → P f → P g → P h → Each1 P (a ∷ b ∷ c ∷ d ∷ e ∷ f ∷ g ∷ h ∷ [])
all_eight P a b c d e f g h = (a, (b, (c, (d, (e, (f, (g, (h, tt))))))))

pub each_of_eight : (P : ℕ → Type 0) → P 0 → P 1 → P 2 → P 3 → P 4 → P 5 → P 6 → P 7 → (i : ℕ) → i < 8 → P i
each_of_eight P p0 p1 p2 p3 p4 p5 p6 p7 i lt =
    let e : get_or (range_with_len 0 8) i 0 ≡ i = omega (arith, get_or-range_with_len 0 8 i 0 lt) in
    subst P e (Each1-get_or P (range_with_len 0 8) i 0 lt (all_eight P p0 p1 p2 p3 p4 p5 p6 p7))

-- two functions that agree on a range
pub same_on_range : {X : Type 0} (f g : ℕ → X) (a n : ℕ) → ((k : ℕ) → k < a + n → f k ≡ g k) → map f (range_with_len a n) ≡ map g (range_with_len a n)
same_on_range f g a zero same = refl
same_on_range f g a (suc n) same = (λ t. same a (omega arith) t ∷ same_on_range f g (a + 1) n (λ k lt. same k (omega arith)) t)

-- ---- eight planes

abbrev pub plane_at : List (List ℕ) → ℕ → List ℕ
plane_at planes i = get_or planes i []

pub eight_of : (planes : List (List ℕ)) → length planes ≡ 8 → planes ≡ eight (plane_at planes)
eight_of planes count = sym (pick_l_whole [] planes 8 count)

pub plane_is : (planes : List (List ℕ)) → ArePlanes planes → (i : ℕ) → i < 8 → IsCipherBlock (plane_at planes i)
plane_is planes are i lt = record { long = are.long i lt; bytes = are.bytes i }

pub are_planes : (planes : List (List ℕ)) → length planes ≡ 8 → Each1 IsCipherBlock planes → ArePlanes planes
are_planes planes count each = record { count = count; long = λ i lt. (is i (omega (arith, count))).long; bytes = λ i. bytes i (cases_lt i (length planes)) }
  where
    is : (i : ℕ) → i < length planes → IsCipherBlock (plane_at planes i)
    is i lt = Each1-get_or IsCipherBlock planes i [] lt each

    bytes : (i : ℕ) → (i < length planes) ⊎ (length planes ≤ i) → (j : ℕ) → slice_index (plane_at planes i) j < 256
    bytes i (inl lt) j = (is i lt).bytes j
    bytes i (inr le) j = rw (get_or_past planes i [] le) (omega arith)

pub eight_planes : (f : ℕ → List ℕ) → ((i : ℕ) → i < 8 → IsCipherBlock (f i)) → ArePlanes (eight f)
eight_planes f each =
    are_planes (eight f) refl (Each1-from_get_or IsCipherBlock (eight f) [] (λ i lt. rw (get_or-map-range_with_len f 0 8 i i [] lt (omega arith)) (each i lt)))

-- ---- lanes

pub zip2_at : (f : ℕ → ℕ → ℕ) (xs ys : List ℕ) (j : ℕ) → length xs ≡ 16 → length ys ≡ 16 → j < 16 → slice_index (zip2 f xs ys) j ≡ f (slice_index xs j) (slice_index ys j)
zip2_at f xs ys j long_x long_y lt = get_or-zip2 f xs ys j 0 0 0 (omega arith) (omega arith)

-- ---- the bits of a byte

pub bit_of_xor : (x y i : ℕ) → bit_at (bit_xor x y) i ≡ bit_xor (bit_at x i) (bit_at y i)
bit_of_xor x y i = ap (λ (n : ℕ). n % 2) (xor_shr x y i) ∙ xor_mod (x / 2 ^ i) (y / 2 ^ i) 1

pub bits_of_xor : (x y : ℕ) → bits_of_byte (bit_xor x y) ≡ zip2 bit_xor (bits_of_byte x) (bits_of_byte y)
bits_of_xor x y =
    (λ t. map (λ i. bit_of_xor x y i t) (range_with_len 0 8))
    ∙ sym (zip2-map bit_xor (bit_at x) (bit_at y) (range_with_len 0 8))

pub number_of_bits : (x : ℕ) → x < 256 → number_l 2 (bits_of_byte x) ≡ x
number_of_bits x lt = everywhere (λ x. number_l 2 (bits_of_byte x)) (λ x. x) refl x lt

bit_of_number : (bits : List ℕ) → Each1 (λ n. n < 2) bits → (i : ℕ) → bit_at (number_l 2 bits) i ≡ slice_index bits i
bit_of_number [] each i = bit_at-zero i
bit_of_number (n ∷ bits) each zero =
    let low : (n + 2 * number_l 2 bits) % 2 ≡ n = omega (arith, each.0) in
    bit_at_lowest (n + 2 * number_l 2 bits) ∙ low
bit_of_number (n ∷ bits) each (suc i) =
    let high : (n + 2 * number_l 2 bits) / 2 ≡ number_l 2 bits = omega (arith, each.0) in
    bit_at-suc (n + 2 * number_l 2 bits) i ∙ ap (λ (m : ℕ). bit_at m i) high ∙ bit_of_number bits each.1 i

-- ---- byte j of block b, out of planes

abbrev pub byte_in : List (List ℕ) → ℕ → ℕ → ℕ
byte_in planes j b = number_l 2 (bits_in planes j b)

bits_in-lt : (planes : List (List ℕ)) (j b : ℕ) → Each1 (λ n. n < 2) (bits_in planes j b)
bits_in-lt [] j b = tt
bits_in-lt (plane ∷ planes) j b = (bit_at-lt (slice_index plane j) b, bits_in-lt planes j b)

length-bits_in : (planes : List (List ℕ)) → length planes ≡ 8 → (j b : ℕ) → length (bits_in planes j b) ≡ 8
length-bits_in planes count j b = length-map planes (λ plane. bit_at (slice_index plane j) b) ∙ count

pub byte_in-lt : (planes : List (List ℕ)) → length planes ≡ 8 → (j b : ℕ) → byte_in planes j b < 256
byte_in-lt planes count j b =
    let bits = bits_in planes j b in
    let long = length-bits_in planes count j b in
    let e : byte_in planes j b % 256 ≡ byte_in planes j b =
    get_or_wider 2 8 256 1 bits 0 refl (bits_in-lt planes j b) (omega arith) ∙ ap (number_l 2) (take_all 8 bits (omega arith)) in
    omega arith

pub byte_in-bits : (planes : List (List ℕ)) → length planes ≡ 8 → (j b : ℕ) → bits_of_byte (byte_in planes j b) ≡ bits_in planes j b
byte_in-bits planes count j b =
    let bits = bits_in planes j b in
    (λ t. map (λ i. bit_of_number bits (bits_in-lt planes j b) i t) (range_with_len 0 8)) ∙ pick_l_whole 0 bits 8 (length-bits_in planes count j b)

-- what holds of the bits of each byte, by computing it 256 times, holds of those
pub everywhere_in : (f : List ℕ → ℕ) (g : ℕ → ℕ) → map (λ n. f (bits_of_byte n)) (range_with_len 0 256) ≡ map g (range_with_len 0 256)
    → (planes : List (List ℕ)) → length planes ≡ 8 → (j b : ℕ) → f (bits_in planes j b) ≡ g (byte_in planes j b)
everywhere_in f g same planes count j b =
    ap f (sym (byte_in-bits planes count j b)) ∙ everywhere (λ n. f (bits_of_byte n)) g same (byte_in planes j b) (byte_in-lt planes count j b)

-- a block out of planes is sixteen bytes
pub block_is : (planes : List (List ℕ)) → length planes ≡ 8 → (b : ℕ) → IsCipherBlock (block_in planes b)
block_is planes count b = record { long = refl; bytes = bytes_made (λ j. byte_in planes j b) (λ j. byte_in-lt planes count j b) (range_with_len 0 16) }

-- ---- planes of keys

-- a state of words is sixteen bytes
pub state_is : (w : List ℕ) → IsCipherBlock (state_of w)
state_is w = record { long = refl; bytes = bytes_made (λ k. byte_at (k % 4) (slice_index w (k / 4))) (λ k. byte_at-lt (k % 4) (slice_index w (k / 4))) (range_with_len 0 16) }

-- planes that hold the key of round q in each block
pub record HoldsKey (planes : List (List ℕ)) (w : List ℕ) (q : ℕ) : Type 0 where
  pub whole : ArePlanes planes
  pub keys : (b : ℕ) → b < 8 → block_in planes b ≡ round_key w q

-- what is written at round r leaves the rounds before as they were
pub rounds_kept : (xs ys : List (List ℕ)) (r k q : ℕ) → 8 * r ≤ length xs → q < r → round_planes (put_mid (8 * r) k xs ys) q ≡ round_planes xs q
rounds_kept xs ys r k q le lt =
    sym (drop-take (8 * q) 8 (put_mid (8 * r) k xs ys))
    ∙ ap (drop (8 * q)) (take-put_mid_below (8 * r) k xs ys (8 * q + 8) (omega arith) le)
    ∙ drop-take (8 * q) 8 xs

pub round_put : (xs ys : List (List ℕ)) (r k : ℕ) → 8 * r ≤ length xs → length ys ≡ 8 → round_planes (put_mid (8 * r) k xs ys) r ≡ ys
round_put xs ys r k le long =
    sym (drop-take (8 * r) 8 (put_mid (8 * r) k xs ys))
    ∙ ap (drop (8 * r)) (take-put_mid (8 * r) k xs ys (8 * r + 8) (omega arith) le)
    ∙ drop_at (take (8 * r) xs) ys (8 * r) (length-take-le (8 * r) xs le)

-- the planes that are read at round r
pub held : (keys : List (List ℕ)) (rounds r : ℕ) (at : List (List ℕ)) → ((r : ℕ) → r ≤ rounds → ArePlanes (round_planes keys r)) → r ≤ rounds
    → at ≡ round_planes keys r → ArePlanes at
held keys rounds r at h le e = rw e (h r le)

pub keyed : (keys : List (List ℕ)) (rounds r : ℕ) (at : List (List ℕ)) (w : List ℕ) → AreKeyPlanes keys w rounds → r ≤ rounds
    → at ≡ round_planes keys r → (b : ℕ) → b < 8 → block_in at b ≡ round_key w r
keyed keys rounds r at w k le e b lt = ap (λ (p : List (List ℕ)). block_in p b) e ∙ k.blocks r b le lt

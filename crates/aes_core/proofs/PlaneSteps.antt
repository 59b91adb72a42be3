-- Steps on planes of bits are steps on the blocks.
use Rattle.std.proofs.Common.{◌≡◌, ℕ, ◌+◌, ◌*◌, ◌/◌, ◌%◌, ◌<◌, List, [], ◌∷◌, ◌++◌, length, map, slice_index, bit_xor, refl, sym, ap, ap₂, ◌∙◌, arith}
use Rattle.std.specs.Int.{bit_at}
use Rattle.std.specs.List.{range_with_len}
use Rattle.std.proofs.lemmas.Nat.{xor_comm, xor_lt}
use lib.Bits.{xor_assoc}
use lib.Lanes.{number_l, zip2}
use Rattle.aes_core.specs.Field.{product_of, times}
use Rattle.aes_core.specs.Cipher.{IsCipherBlock, circulant_times, inv_mix_columns, inv_shift_rows, mix_columns, row_times, shift_rows, xored}
use Rattle.aes_core.specs.Planes.{ArePlanes, bits_in, block_in, bits_of_byte}
use Rattle.aes_core.proofs.ByTable.{everywhere, times_1, times_2, times_3}
use Rattle.aes_core.proofs.Inverse.{block_inv_shift, block_shift, block_xored, sixteen_of}
use Rattle.aes_core.proofs.Linear.{row_times-xor, sum_four, times-xor}
use Rattle.aes_core.proofs.PlaneLists.{all_eight, are_planes, bit_of_xor, bits_of_xor, byte_in, byte_in-bits, byte_in-lt, eight, eight_of, eight_planes, everywhere_in, number_of_bits, plane_at, plane_is, same_on_range, zip2_at}
use Rattle.byte_list.proofs.ByteLaws.{bytes_made}

-- ---- lanes moved are bytes moved

-- each column with its rows n up
abbrev pub rows_up : ℕ → List ℕ → List ℕ
rows_up n s = map (λ k. slice_index s (4 * (k / 4) + (k + n) % 4)) (range_with_len 0 16)

pub shifted_planes : (planes : List (List ℕ)) → ArePlanes planes → ArePlanes (eight (λ i. shift_rows (plane_at planes i)))
shifted_planes planes are = eight_planes (λ i. shift_rows (plane_at planes i)) (λ i lt. block_shift (plane_at planes i) (plane_is planes are i lt))

pub shifted_blocks : (planes : List (List ℕ)) → ArePlanes planes → (b : ℕ) → block_in (eight (λ i. shift_rows (plane_at planes i))) b ≡ shift_rows (block_in planes b)
shifted_blocks planes are b = ap (λ (ps : List (List ℕ)). shift_rows (block_in ps b)) (sym (eight_of planes are.count))

pub inv_shifted_planes : (planes : List (List ℕ)) → ArePlanes planes → ArePlanes (eight (λ i. inv_shift_rows (plane_at planes i)))
inv_shifted_planes planes are = eight_planes (λ i. inv_shift_rows (plane_at planes i)) (λ i lt. block_inv_shift (plane_at planes i) (plane_is planes are i lt))

pub inv_shifted_blocks : (planes : List (List ℕ)) → ArePlanes planes → (b : ℕ) → block_in (eight (λ i. inv_shift_rows (plane_at planes i))) b ≡ inv_shift_rows (block_in planes b)
inv_shifted_blocks planes are b = ap (λ (ps : List (List ℕ)). inv_shift_rows (block_in ps b)) (sym (eight_of planes are.count))

pub up_planes : (n : ℕ) (planes : List (List ℕ)) → ArePlanes planes → ArePlanes (eight (λ i. rows_up n (plane_at planes i)))
up_planes n planes are =
    eight_planes (λ i. rows_up n (plane_at planes i)) (λ i lt.
    let s = plane_at planes i in
    record { long = refl; bytes = bytes_made (λ k. slice_index s (4 * (k / 4) + (k + n) % 4)) (λ k. are.bytes i (4 * (k / 4) + (k + n) % 4)) (range_with_len 0 16) })

pub up_one_blocks : (planes : List (List ℕ)) → ArePlanes planes → (b : ℕ) → block_in (eight (λ i. rows_up 1 (plane_at planes i))) b ≡ rows_up 1 (block_in planes b)
up_one_blocks planes are b = ap (λ (ps : List (List ℕ)). rows_up 1 (block_in ps b)) (sym (eight_of planes are.count))

pub up_two_blocks : (planes : List (List ℕ)) → ArePlanes planes → (b : ℕ) → block_in (eight (λ i. rows_up 2 (plane_at planes i))) b ≡ rows_up 2 (block_in planes b)
up_two_blocks planes are b = ap (λ (ps : List (List ℕ)). rows_up 2 (block_in ps b)) (sym (eight_of planes are.count))

-- ---- an XOR of planes is an XOR of bytes

-- a bit of it
bit_xored : (xs ys : List ℕ) (j b : ℕ) → length xs ≡ 16 → length ys ≡ 16 → j < 16
    → bit_at (slice_index (xored xs ys) j) b ≡ bit_xor (bit_at (slice_index xs j) b) (bit_at (slice_index ys j) b)
bit_xored xs ys j b hx hy lt = ap (λ (n : ℕ). bit_at n b) (zip2_at bit_xor xs ys j hx hy lt) ∙ bit_of_xor (slice_index xs j) (slice_index ys j) b

-- a byte of it
byte_xored : (planes other : List (List ℕ)) → length planes ≡ 8 → length other ≡ 8 → (j b : ℕ)
    → number_l 2 (zip2 bit_xor (bits_in planes j b) (bits_in other j b)) ≡ bit_xor (byte_in planes j b) (byte_in other j b)
byte_xored planes other count also j b =
    let x = byte_in planes j b in
    let y = byte_in other j b in
    ap (number_l 2) (ap₂ (zip2 bit_xor) (sym (byte_in-bits planes count j b)) (sym (byte_in-bits other also j b)) ∙ sym (bits_of_xor x y))
    ∙ number_of_bits (bit_xor x y) (xor_lt 8 x y (byte_in-lt planes count j b) (byte_in-lt other also j b))

pub xored_planes : (planes other : List (List ℕ)) → ArePlanes planes → ArePlanes other → ArePlanes (eight (λ i. xored (plane_at planes i) (plane_at other i)))
xored_planes planes other are also =
    eight_planes (λ i. xored (plane_at planes i) (plane_at other i)) (λ i lt. block_xored _ _ (plane_is planes are i lt) (plane_is other also i lt))

pub xored_blocks : (planes other : List (List ℕ)) → ArePlanes planes → ArePlanes other → (b : ℕ)
    → block_in (eight (λ i. xored (plane_at planes i) (plane_at other i))) b ≡ xored (block_in planes b) (block_in other b)
xored_blocks planes other are also b =
    let ps = eight (plane_at planes) in
    let qs = eight (plane_at other) in
    let sums = eight (λ i. xored (plane_at planes i) (plane_at other i)) in
    let byte : (j : ℕ) → j < 16 → byte_in sums j b ≡ bit_xor (byte_in ps j b) (byte_in qs j b) =
    λ j lt.
    ap (number_l 2) (same_on_range (λ i. bit_at (slice_index (xored (plane_at planes i) (plane_at other i)) j) b)
    (λ i. bit_xor (bit_at (slice_index (plane_at planes i) j) b) (bit_at (slice_index (plane_at other i) j) b)) 0 8
    (λ i le. bit_xored (plane_at planes i) (plane_at other i) j b (are.long i le) (also.long i le) lt))
    ∙ byte_xored ps qs refl refl j b in
    same_on_range (λ j. byte_in sums j b) (λ j. bit_xor (byte_in ps j b) (byte_in qs j b)) 0 16 byte
    ∙ ap₂ (λ (ps qs : List (List ℕ)). xored (block_in ps b) (block_in qs b)) (sym (eight_of planes are.count)) (sym (eight_of other also.count))

-- ---- a byte doubled by its bits

-- what each place of eight becomes when the whole is doubled: the one below, and the highest where x ^ 8 comes back in
abbrev pub doubled_of : {X : Type 0} → (X → X → X) → (ℕ → X) → List X
doubled_of add f = f 7 ∷ add (f 0) (f 7) ∷ f 1 ∷ add (f 2) (f 7) ∷ add (f 3) (f 7) ∷ f 4 ∷ f 5 ∷ f 6 ∷ []

doubled_byte : map (λ n. number_l 2 (doubled_of bit_xor (slice_index (bits_of_byte n)))) (range_with_len 0 256) ≡ map (λ n. times 2 n) (range_with_len 0 256)
unfolding product_of
doubled_byte = refl

pub doubled_blocks : (planes : List (List ℕ)) → ArePlanes planes → (b : ℕ) → block_in (doubled_of xored (plane_at planes)) b ≡ map (times 2) (block_in planes b)
doubled_blocks planes are b =
    let ps = eight (plane_at planes) in
    let y = λ (j i : ℕ). bit_at (slice_index (plane_at planes i) j) b in
    let sum : (j : ℕ) → j < 16 → (i : ℕ) → i < 8 → bit_at (slice_index (xored (plane_at planes i) (plane_at planes 7)) j) b ≡ bit_xor (y j i) (y j 7) =
    λ j lt i le. bit_xored (plane_at planes i) (plane_at planes 7) j b (are.long i le) (are.long 7 (omega arith)) lt in
    let byte : (j : ℕ) → j < 16 → byte_in (doubled_of xored (plane_at planes)) j b ≡ times 2 (byte_in ps j b) =
    λ j lt.
    let s0 = sum j lt 0 (omega arith) in
    let s2 = sum j lt 2 (omega arith) in
    let s3 = sum j lt 3 (omega arith) in
    (λ t. number_l 2 (y j 7 ∷ s0 t ∷ y j 1 ∷ s2 t ∷ s3 t ∷ y j 4 ∷ y j 5 ∷ y j 6 ∷ []))
    ∙ everywhere_in (λ l. number_l 2 (doubled_of bit_xor (slice_index l))) (λ n. times 2 n) doubled_byte ps refl j b in
    same_on_range (λ j. byte_in (doubled_of xored (plane_at planes)) j b) (λ j. times 2 (byte_in ps j b)) 0 16 byte
    ∙ ap (λ (ps : List (List ℕ)). map (times 2) (block_in ps b)) (sym (eight_of planes are.count))

pub doubled_planes : (planes : List (List ℕ)) → ArePlanes planes → ArePlanes (doubled_of xored (plane_at planes))
doubled_planes planes are =
    let p = plane_is planes are in
    let top = p 7 (omega arith) in
    are_planes (doubled_of xored (plane_at planes)) refl
    (all_eight IsCipherBlock top (block_xored _ _ (p 0 (omega arith)) top) (p 1 (omega arith)) (block_xored _ _ (p 2 (omega arith)) top)
    (block_xored _ _ (p 3 (omega arith)) top) (p 4 (omega arith)) (p 5 (omega arith)) (p 6 (omega arith)))

-- ---- MixColumns by sums of rows

-- the last of four goes first
turned : (x y z w : ℕ) → bit_xor (bit_xor (bit_xor x y) z) w ≡ bit_xor (bit_xor (bit_xor w x) y) z
turned x y z w = xor_comm (bit_xor (bit_xor x y) z) w ∙ sym (xor_assoc w (bit_xor x y) z) ∙ ap (λ (n : ℕ). bit_xor n z) (sym (xor_assoc w x y))

-- a row from twice its sum with the next, the next, and the sum of the two after
abbrev sums : ℕ → ℕ → ℕ → ℕ → ℕ
sums a b c d = bit_xor (bit_xor (times 2 (bit_xor a b)) b) (bit_xor c d)

row : (a b c d : ℕ) → b < 256 → c < 256 → d < 256 → sums a b c d ≡ bit_xor (bit_xor (bit_xor (times 2 a) (times 3 b)) (times 1 c)) (times 1 d)
row a b c d hb hc hd =
    let next : bit_xor (times 2 b) b ≡ times 3 b = ap (λ (n : ℕ). bit_xor n b) (times_2 b hb) ∙ sym (times_3 b hb) in
    let start : bit_xor (times 2 (bit_xor a b)) b ≡ bit_xor (times 2 a) (times 3 b) =
    ap (λ (n : ℕ). bit_xor n b) (times-xor 2 a b) ∙ xor_assoc (times 2 a) (times 2 b) b ∙ ap (bit_xor (times 2 a)) next in
    ap₂ bit_xor start (ap₂ bit_xor (sym (times_1 c hc)) (sym (times_1 d hd))) ∙ sym (xor_assoc (bit_xor (times 2 a) (times 3 b)) (times 1 c) (times 1 d))

column : (a b c d : ℕ) → a < 256 → b < 256 → c < 256 → d < 256
    → sums a b c d ∷ sums b c d a ∷ sums c d a b ∷ sums d a b c ∷ [] ≡ circulant_times 2 3 1 1 a b c d
column a b c d ha hb hc hd =
    let e0 = row a b c d hb hc hd in
    let e1 = row b c d a hc hd ha ∙ turned (times 2 b) (times 3 c) (times 1 d) (times 1 a) in
    let e2 = row c d a b hd ha hb ∙ turned (times 2 c) (times 3 d) (times 1 a) (times 1 b) ∙ turned (times 1 b) (times 2 c) (times 3 d) (times 1 a) in
    let e3 = row d a b c ha hb hc ∙ turned (times 2 d) (times 3 a) (times 1 b) (times 1 c) ∙ turned (times 1 c) (times 2 d) (times 3 a) (times 1 b)
    ∙ turned (times 1 b) (times 1 c) (times 2 d) (times 3 a) in
    (λ t. e0 t ∷ e1 t ∷ e2 t ∷ e3 t ∷ [])

-- MixColumns as the planes have it
abbrev by_sums : List ℕ → List ℕ
by_sums s = xored (xored (map (times 2) (xored s (rows_up 1 s))) (rows_up 1 s)) (rows_up 2 (xored s (rows_up 1 s)))

pub mixed : (s : List ℕ) → IsCipherBlock s → by_sums s ≡ mix_columns s
mixed s is =
    let x = slice_index s in
    let each = λ (k : ℕ). column (x k) (x (k + 1)) (x (k + 2)) (x (k + 3)) (is.bytes k) (is.bytes (k + 1)) (is.bytes (k + 2)) (is.bytes (k + 3)) in
    let e0 = each 0 in
    let e4 = each 4 in
    let e8 = each 8 in
    let e12 = each 12 in
    ap by_sums (sixteen_of s is.long) ∙ (λ t. e0 t ++ e4 t ++ e8 t ++ e12 t)

-- ---- InvMixColumns by MixColumns

abbrev four_times : ℕ → ℕ
four_times x = times 2 (times 2 x)

-- a row that has taken four times its sum with another
abbrev taken : ℕ → ℕ → ℕ
taken a c = bit_xor a (four_times (bit_xor a c))

taken_apart : (a c : ℕ) → taken a c ≡ bit_xor (bit_xor a (four_times a)) (four_times c)
taken_apart a c = ap (bit_xor a) (ap (times 2) (times-xor 2 a c) ∙ times-xor 2 (times 2 a) (times 2 c)) ∙ sym (xor_assoc a (four_times a) (four_times c))

-- what comes of one byte, m being what its own row is multiplied by and o the row two on
abbrev part : ℕ → ℕ → ℕ → ℕ
part m o a = bit_xor (times m (bit_xor a (four_times a))) (times o (four_times a))

-- a row of a matrix times a column whose rows have taken: each byte apart
row_of_taken : (m n o p a b c d : ℕ)
    → row_times m n o p (taken a c) (taken b d) (taken c a) (taken d b) ≡ bit_xor (bit_xor (bit_xor (part m o a) (part n p b)) (part o m c)) (part p n d)
row_of_taken m n o p a b c d =
    let f = four_times in
    let g = λ (x : ℕ). bit_xor x (four_times x) in
    (λ t. row_times m n o p (taken_apart a c t) (taken_apart b d t) (taken_apart c a t) (taken_apart d b t))
    ∙ row_times-xor m n o p (g a) (g b) (g c) (g d) (f c) (f d) (f a) (f b)
    ∙ ap (bit_xor (row_times m n o p (g a) (g b) (g c) (g d)))
    (turned (times m (f c)) (times n (f d)) (times o (f a)) (times p (f b)) ∙ turned (times p (f b)) (times m (f c)) (times n (f d)) (times o (f a)))
    ∙ sym (sum_four (times m (g a)) (times n (g b)) (times o (g c)) (times p (g d)) (times o (f a)) (times p (f b)) (times m (f c)) (times n (f d)))

part_14 : map (λ a. part 2 1 a) (range_with_len 0 256) ≡ map (λ a. times 14 a) (range_with_len 0 256)
unfolding product_of
part_14 = refl

part_11 : map (λ a. part 3 1 a) (range_with_len 0 256) ≡ map (λ a. times 11 a) (range_with_len 0 256)
unfolding product_of
part_11 = refl

part_13 : map (λ a. part 1 2 a) (range_with_len 0 256) ≡ map (λ a. times 13 a) (range_with_len 0 256)
unfolding product_of
part_13 = refl

part_9 : map (λ a. part 1 3 a) (range_with_len 0 256) ≡ map (λ a. times 9 a) (range_with_len 0 256)
unfolding product_of
part_9 = refl

taken_column : (a b c d : ℕ) → a < 256 → b < 256 → c < 256 → d < 256
    → circulant_times 2 3 1 1 (taken a c) (taken b d) (taken c a) (taken d b) ≡ circulant_times 14 11 13 9 a b c d
taken_column a b c d ha hb hc hd =
    let by_14 = everywhere (λ a. part 2 1 a) (λ a. times 14 a) part_14 in
    let by_11 = everywhere (λ a. part 3 1 a) (λ a. times 11 a) part_11 in
    let by_13 = everywhere (λ a. part 1 2 a) (λ a. times 13 a) part_13 in
    let by_9 = everywhere (λ a. part 1 3 a) (λ a. times 9 a) part_9 in
    let e0 = row_of_taken 2 3 1 1 a b c d ∙ (λ t. bit_xor (bit_xor (bit_xor (by_14 a ha t) (by_11 b hb t)) (by_13 c hc t)) (by_9 d hd t)) in
    let e1 = row_of_taken 1 2 3 1 a b c d ∙ (λ t. bit_xor (bit_xor (bit_xor (by_9 a ha t) (by_14 b hb t)) (by_11 c hc t)) (by_13 d hd t)) in
    let e2 = row_of_taken 1 1 2 3 a b c d ∙ (λ t. bit_xor (bit_xor (bit_xor (by_13 a ha t) (by_9 b hb t)) (by_14 c hc t)) (by_11 d hd t)) in
    let e3 = row_of_taken 3 1 1 2 a b c d ∙ (λ t. bit_xor (bit_xor (bit_xor (by_11 a ha t) (by_13 b hb t)) (by_9 c hc t)) (by_14 d hd t)) in
    (λ t. e0 t ∷ e1 t ∷ e2 t ∷ e3 t ∷ [])

-- InvMixColumns as the planes have it
abbrev by_mixing : List ℕ → List ℕ
by_mixing s = mix_columns (xored s (map (times 2) (map (times 2) (xored s (rows_up 2 s)))))

pub inv_mixed : (s : List ℕ) → IsCipherBlock s → by_mixing s ≡ inv_mix_columns s
inv_mixed s is =
    let x = slice_index s in
    let each = λ (k : ℕ). taken_column (x k) (x (k + 1)) (x (k + 2)) (x (k + 3)) (is.bytes k) (is.bytes (k + 1)) (is.bytes (k + 2)) (is.bytes (k + 3)) in
    let e0 = each 0 in
    let e4 = each 4 in
    let e8 = each 8 in
    let e12 = each 12 in
    ap by_mixing (sixteen_of s is.long) ∙ (λ t. e0 t ++ e4 t ++ e8 t ++ e12 t)

-- What a circuit makes of planes, byte by byte and bit by bit, and that those of SubBytes and InvSubBytes make
-- sub_byte and inv_sub_byte.
use Rattle.std.proofs.Common.{◌≡◌, ℕ, zero, suc, ◌+◌, ◌*◌, ◌%◌, ◌<◌, Bool, true, ◌&&◌, nat_lt, List, [], ◌∷◌, ◌++◌, length, map, get_or, replicate, slice_index, bit_xor, bit_and, min, refl, sym, ap, ap₂, ◌∙◌, arith}
use Rattle.std.specs.Int.{bit_at}
use Rattle.std.specs.List.{range_with_len}
use lib.Lanes.{Each1, number_l}
use Rattle.std.proofs.lemmas.Bool.{and_parts, ltb-true}
use Rattle.std.proofs.lemmas.Nat.{and_le_l}
use Rattle.std.proofs.lemmas.Nat.Bits.{bit_at_xor, bit_at_and, bit_at-lt, bit_at_ones}
use Rattle.std.proofs.lemmas.List.{get_or-map, length-map, length-append, map-append}
use Rattle.std.proofs.lemmas.Simd.{map-map, get_or-replicate, Each1-get_or, Each1-from_get_or}
use Rattle.aes_core.specs.Cipher.{IsCipherBlock, sub_bytes, inv_sub_bytes}
use Rattle.aes_core.specs.Circuit.{Wire, input, ones, ◌⊕◌, ◌⊗◌, plane_of, bit_of, planes_of, bits_of, SUMS_IN, TO_INVERT, INVERTED, PRODUCTS, SUMS_OUT, INV_SUMS_IN, INV_TO_INVERT, INV_PRODUCTS, INV_SUMS_OUT}
use Rattle.aes_core.specs.Field.{sub_byte, inv_sub_byte}
use Rattle.aes_core.specs.Planes.{bits_in, block_in, bits_of_byte, ArePlanes}
use Rattle.aes_core.specs.declared.tables.TheConstants.{SUB, INV_SUB}
use Rattle.aes_core.proofs.ByTable.{sub_at, inv_sub_at}
use Rattle.aes_core.proofs.Inverse.{block_xored, block_zip2}
use Rattle.aes_core.proofs.PlaneLists.{are_planes, byte_in, byte_in-lt, everywhere_in, plane_is, same_on_range, zip2_at}
use Rattle.byte_list.proofs.ByteLaws.{bytes_made}

-- ---- one gate

ones_at : (j : ℕ) → j < 16 → slice_index (replicate 16 0xFF) j ≡ 0xFF
ones_at j h = get_or-replicate 16 j 0xFF 0 h

ones_is : IsCipherBlock (replicate 16 0xFF)
ones_is = record { long = refl; bytes = bytes_made (λ _. 0xFF) (λ _. omega arith) (range_with_len 0 16) }

-- bit_at_and gives the smaller of two bits
bit_product : (a b : ℕ) → a < 2 → b < 2 → min a b ≡ a * b
bit_product zero zero ha hb = refl
bit_product zero (suc zero) ha hb = refl
bit_product (suc zero) zero ha hb = refl
bit_product (suc zero) (suc zero) ha hb = refl
bit_product (suc (suc a)) b ha hb = absurd (omega arith)
bit_product a (suc (suc b)) ha hb = absurd (omega arith)

-- ---- one wire

-- whether all its inputs are among the first n
abbrev is_within : ℕ → Wire → Bool
is_within n (input i) = nat_lt i n
is_within n ones = true
is_within n (v ⊕ w) = is_within n v && is_within n w
is_within n (v ⊗ w) = is_within n v && is_within n w

plane_of-is : (planes : List (List ℕ)) → Each1 IsCipherBlock planes → (w : Wire) → is_within (length planes) w ≡ true → IsCipherBlock (plane_of planes w)
plane_of-is planes each (input i) h = Each1-get_or IsCipherBlock planes i [] (ltb-true i (length planes) h) each
plane_of-is planes each ones h = ones_is
plane_of-is planes each (v ⊕ w) h =
    let both = and_parts (is_within (length planes) v) (is_within (length planes) w) h in
    block_xored (plane_of planes v) (plane_of planes w) (plane_of-is planes each v both.0) (plane_of-is planes each w both.1)
plane_of-is planes each (v ⊗ w) h =
    let both = and_parts (is_within (length planes) v) (is_within (length planes) w) h in
    block_zip2 bit_and (λ a b ha hb. omega (arith, and_le_l a b)) (plane_of planes v) (plane_of planes w) (plane_of-is planes each v both.0) (plane_of-is planes each w both.1)

bit_of-is : (planes : List (List ℕ)) → Each1 IsCipherBlock planes → (j b : ℕ) → j < 16 → b < 8 → (w : Wire) → is_within (length planes) w ≡ true → bit_at (slice_index (plane_of planes w) j) b ≡ bit_of (bits_in planes j b) w
bit_of-is planes each j b hj hb (input i) h = sym (get_or-map (λ plane. bit_at (slice_index plane j) b) planes i [] 0 (ltb-true i (length planes) h))
bit_of-is planes each j b hj hb ones h = ap (λ n. bit_at n b) (ones_at j hj) ∙ bit_at_ones 8 b hb
bit_of-is planes each j b hj hb (v ⊕ w) h =
    let both = and_parts (is_within (length planes) v) (is_within (length planes) w) h in
    let left = plane_of planes v in
    let right = plane_of planes w in
    ap (λ n. bit_at n b) (zip2_at bit_xor left right j (plane_of-is planes each v both.0).long (plane_of-is planes each w both.1).long hj)
    ∙ bit_at_xor (slice_index left j) (slice_index right j) b
    ∙ ap₂ (λ m n. (m + n) % 2) (bit_of-is planes each j b hj hb v both.0) (bit_of-is planes each j b hj hb w both.1)
bit_of-is planes each j b hj hb (v ⊗ w) h =
    let both = and_parts (is_within (length planes) v) (is_within (length planes) w) h in
    let left = plane_of planes v in
    let right = plane_of planes w in
    ap (λ n. bit_at n b) (zip2_at bit_and left right j (plane_of-is planes each v both.0).long (plane_of-is planes each w both.1).long hj)
    ∙ bit_at_and (slice_index left j) (slice_index right j) b
    ∙ bit_product (bit_at (slice_index left j) b) (bit_at (slice_index right j) b) (bit_at-lt (slice_index left j) b) (bit_at-lt (slice_index right j) b)
    ∙ ap₂ (λ m n. m * n) (bit_of-is planes each j b hj hb v both.0) (bit_of-is planes each j b hj hb w both.1)

-- ---- one stage

abbrev are_within : ℕ → List Wire → Bool
are_within n [] = true
are_within n (w ∷ ws) = is_within n w && are_within n ws

-- n planes
record HasPlanes (n : ℕ) (planes : List (List ℕ)) : Type 0 where
  count : length planes ≡ n
  each : Each1 IsCipherBlock planes

planes_of-each : (planes : List (List ℕ)) → Each1 IsCipherBlock planes → (ws : List Wire) → are_within (length planes) ws ≡ true → Each1 IsCipherBlock (planes_of ws planes)
planes_of-each planes each [] h = tt
planes_of-each planes each (w ∷ ws) h =
    let both = and_parts (is_within (length planes) w) (are_within (length planes) ws) h in
    (plane_of-is planes each w both.0, planes_of-each planes each ws both.1)

stage_planes : (n : ℕ) (planes : List (List ℕ)) (ws : List Wire) → HasPlanes n planes → are_within n ws ≡ true → HasPlanes (length ws) (planes_of ws planes)
stage_planes n planes ws has h = record {
  count = length-map ws (plane_of planes);
  each = planes_of-each planes has.each ws (ap (λ m. are_within m ws) has.count ∙ h);
}

bits_of-each : (planes : List (List ℕ)) → Each1 IsCipherBlock planes → (j b : ℕ) → j < 16 → b < 8 → (ws : List Wire) → are_within (length planes) ws ≡ true → bits_in (planes_of ws planes) j b ≡ bits_of ws (bits_in planes j b)
bits_of-each planes each j b hj hb [] h = refl
bits_of-each planes each j b hj hb (w ∷ ws) h =
    let both = and_parts (is_within (length planes) w) (are_within (length planes) ws) h in
    ap₂ (λ (n : ℕ) (l : List ℕ). n ∷ l) (bit_of-is planes each j b hj hb w both.0) (bits_of-each planes each j b hj hb ws both.1)

stage_bits : (n : ℕ) (planes : List (List ℕ)) (ws : List Wire) → HasPlanes n planes → are_within n ws ≡ true → (j b : ℕ) → j < 16 → b < 8 → bits_in (planes_of ws planes) j b ≡ bits_of ws (bits_in planes j b)
stage_bits n planes ws has h j b hj hb = bits_of-each planes has.each j b hj hb ws (ap (λ m. are_within m ws) has.count ∙ h)

-- ---- the stages in a row

has_planes : (planes : List (List ℕ)) → ArePlanes planes → HasPlanes 8 planes
has_planes planes are = record {
  count = are.count;
  each = Each1-from_get_or IsCipherBlock planes [] (λ i h. plane_is planes are i (omega (arith, are.count)));
}

Each1-append : (P : List ℕ → Type 0) (xs ys : List (List ℕ)) → Each1 P xs → Each1 P ys → Each1 P (xs ++ ys)
Each1-append P [] ys x y = y
Each1-append P (l ∷ xs) ys x y = (x.0, Each1-append P xs ys x.1 y)

has_both : (m n : ℕ) (xs ys : List (List ℕ)) → HasPlanes m xs → HasPlanes n ys → HasPlanes (m + n) (xs ++ ys)
has_both m n xs ys x y = record {
  count = length-append xs ys ∙ ap₂ (λ a b. a + b) x.count y.count;
  each = Each1-append IsCipherBlock xs ys x.each y.each;
}

-- a circuit with `INVERTED` in the middle, by its other stages
pub record Circuit : Type 0 where
  pub sums_in : List Wire
  pub to_invert : List Wire
  pub products : List Wire
  pub sums_out : List Wire

-- what it makes of planes, and of bits
abbrev pub circuit_planes : Circuit → List (List ℕ) → List (List ℕ)
circuit_planes c planes =
    let y = planes_of c.sums_in planes in
    planes_of c.sums_out (planes_of c.products (y ++ planes_of INVERTED (planes_of c.to_invert y)))

abbrev circuit_bits : Circuit → List ℕ → List ℕ
circuit_bits c bits =
    let y = bits_of c.sums_in bits in
    bits_of c.sums_out (bits_of c.products (y ++ bits_of INVERTED (bits_of c.to_invert y)))

-- it makes eight bits of eight, and each stage finds its inputs among the wires before it
record IsWhole (c : Circuit) : Type 0 where
  sums_in : are_within 8 c.sums_in ≡ true
  to_invert : are_within (length c.sums_in) c.to_invert ≡ true
  inverted : are_within (length c.to_invert) INVERTED ≡ true
  products : are_within (length c.sums_in + length INVERTED) c.products ≡ true
  sums_out : are_within (length c.products) c.sums_out ≡ true
  count : length c.sums_out ≡ 8

stages : (c : Circuit) → IsWhole c → (planes : List (List ℕ)) → HasPlanes 8 planes → HasPlanes (length c.sums_out) (circuit_planes c planes) × ((j b : ℕ) → j < 16 → b < 8 → bits_in (circuit_planes c planes) j b ≡ circuit_bits c (bits_in planes j b))
stages c whole planes has =
    let y = planes_of c.sums_in planes in
    let d = planes_of c.to_invert y in
    let t = planes_of INVERTED d in
    let z = planes_of c.products (y ++ t) in
    let has_y = stage_planes 8 planes c.sums_in has whole.sums_in in
    let has_d = stage_planes _ y c.to_invert has_y whole.to_invert in
    let has_t = stage_planes _ d INVERTED has_d whole.inverted in
    let has_y_t = has_both _ _ y t has_y has_t in
    let has_z = stage_planes _ (y ++ t) c.products has_y_t whole.products in (
      stage_planes _ z c.sums_out has_z whole.sums_out,
      λ j b hj hb.
          let bit = λ (plane : List ℕ). bit_at (slice_index plane j) b in
          let bits_y = stage_bits 8 planes c.sums_in has whole.sums_in j b hj hb in
          let bits_d = stage_bits _ y c.to_invert has_y whole.to_invert j b hj hb ∙ ap (bits_of c.to_invert) bits_y in
          let bits_t = stage_bits _ d INVERTED has_d whole.inverted j b hj hb ∙ ap (bits_of INVERTED) bits_d in
          let bits_y_t = map-append bit y t ∙ ap₂ (λ k l. k ++ l) bits_y bits_t in
          let bits_z = stage_bits _ (y ++ t) c.products has_y_t whole.products j b hj hb ∙ ap (bits_of c.products) bits_y_t in
          stage_bits _ z c.sums_out has_z whole.sums_out j b hj hb ∙ ap (bits_of c.sums_out) bits_z,
    )

circuit-are : (c : Circuit) → IsWhole c → (planes : List (List ℕ)) → ArePlanes planes → ArePlanes (circuit_planes c planes)
circuit-are c whole planes are =
    let has = (stages c whole planes (has_planes planes are)).0 in
    are_planes (circuit_planes c planes) (has.count ∙ whole.count) has.each

-- what it makes of each byte is in the table of g, by computing it 256 times, so it makes g of each byte of a block
circuit-block : (c : Circuit) → IsWhole c → (table : List ℕ) (g : ℕ → ℕ)
    → map (λ a. number_l 2 (circuit_bits c (bits_of_byte a))) (range_with_len 0 256) ≡ map (λ a. get_or table a 0) (range_with_len 0 256)
    → ((a : ℕ) → a < 256 → get_or table a 0 ≡ g a)
    → (planes : List (List ℕ)) (b : ℕ) → ArePlanes planes → b < 8 → block_in (circuit_planes c planes) b ≡ map g (block_in planes b)
circuit-block c whole table g same at planes b are hb =
    let bits = (stages c whole planes (has_planes planes are)).1 in
    same_on_range (λ j. byte_in (circuit_planes c planes) j b) (λ j. g (byte_in planes j b)) 0 16
    (λ j hj.
    ap (number_l 2) (bits j b hj hb)
    ∙ everywhere_in (λ l. number_l 2 (circuit_bits c l)) (λ a. get_or table a 0) same planes are.count j b
    ∙ at (byte_in planes j b) (byte_in-lt planes are.count j b))
    ∙ sym (map-map g (λ j. byte_in planes j b) (range_with_len 0 16))

-- ---- the circuit of SubBytes

abbrev pub sub_circuit : Circuit
sub_circuit = record { sums_in = SUMS_IN; to_invert = TO_INVERT; products = PRODUCTS; sums_out = SUMS_OUT }

sub_whole : IsWhole sub_circuit
unfolding SUMS_IN TO_INVERT INVERTED PRODUCTS SUMS_OUT
sub_whole = record { sums_in = refl; to_invert = refl; inverted = refl; products = refl; sums_out = refl; count = refl }

sub_table : map (λ a. number_l 2 (circuit_bits sub_circuit (bits_of_byte a))) (range_with_len 0 256) ≡ map (λ a. get_or SUB a 0) (range_with_len 0 256)
unfolding SUMS_IN TO_INVERT INVERTED PRODUCTS SUMS_OUT
sub_table = refl

pub sub_planes-are : (planes : List (List ℕ)) → ArePlanes planes → ArePlanes (circuit_planes sub_circuit planes)
sub_planes-are = circuit-are sub_circuit sub_whole

pub sub_planes-block : (planes : List (List ℕ)) (b : ℕ) → ArePlanes planes → b < 8 → block_in (circuit_planes sub_circuit planes) b ≡ sub_bytes (block_in planes b)
sub_planes-block = circuit-block sub_circuit sub_whole SUB sub_byte sub_table sub_at

-- ---- the circuit of InvSubBytes

abbrev pub inv_sub_circuit : Circuit
inv_sub_circuit = record { sums_in = INV_SUMS_IN; to_invert = INV_TO_INVERT; products = INV_PRODUCTS; sums_out = INV_SUMS_OUT }

inv_sub_whole : IsWhole inv_sub_circuit
unfolding INV_SUMS_IN INV_TO_INVERT INVERTED INV_PRODUCTS INV_SUMS_OUT
inv_sub_whole = record { sums_in = refl; to_invert = refl; inverted = refl; products = refl; sums_out = refl; count = refl }

inv_sub_table : map (λ a. number_l 2 (circuit_bits inv_sub_circuit (bits_of_byte a))) (range_with_len 0 256) ≡ map (λ a. get_or INV_SUB a 0) (range_with_len 0 256)
unfolding INV_SUMS_IN INV_TO_INVERT INVERTED INV_PRODUCTS INV_SUMS_OUT
inv_sub_table = refl

pub inv_sub_planes-are : (planes : List (List ℕ)) → ArePlanes planes → ArePlanes (circuit_planes inv_sub_circuit planes)
inv_sub_planes-are = circuit-are inv_sub_circuit inv_sub_whole

pub inv_sub_planes-block : (planes : List (List ℕ)) (b : ℕ) → ArePlanes planes → b < 8 → block_in (circuit_planes inv_sub_circuit planes) b ≡ inv_sub_bytes (block_in planes b)
inv_sub_planes-block = circuit-block inv_sub_circuit inv_sub_whole INV_SUB inv_sub_byte inv_sub_table inv_sub_at

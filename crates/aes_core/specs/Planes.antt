-- Eight blocks as eight planes of bits (this project's own): bit b of byte j of plane i is bit i of byte j of block b.
-- So an XOR or an AND of two planes is that of 128 bits, one of each byte of each block.
use Rattle.std.specs.Prelude.{◌≡◌, ◌<◌, ◌≤◌, ◌+◌, ◌-◌, ◌*◌, ◌/◌, ◌%◌, ◌==◌, ℕ, List, [], length, map, get_or, slice_index, take, drop, if◌then◌else◌}
use Rattle.std.specs.Int.{bit_at}
use Rattle.std.specs.List.{range_with_len}
use lib.Lanes.{number_l}
use Rattle.aes_core.specs.Cipher.{round_key}

-- the bits of byte j of block b, one of each plane, the lowest first
abbrev pub bits_in : List (List ℕ) → ℕ → ℕ → List ℕ
bits_in planes j b = map (λ plane. bit_at (slice_index plane j) b) planes

-- block b
abbrev pub block_in : List (List ℕ) → ℕ → List ℕ
block_in planes b = map (λ j. number_l 2 (bits_in planes j b)) (range_with_len 0 16)

-- eight lists of sixteen bytes
pub record ArePlanes (planes : List (List ℕ)) : Type 0 where
  pub count : length planes ≡ 8
  pub long : (i : ℕ) → i < 8 → length (get_or planes i []) ≡ 16
  pub bytes : (i j : ℕ) → slice_index (get_or planes i []) j < 256

-- ---- exchanges of bits between two bytes

-- the bits of a byte, the lowest first
abbrev pub bits_of_byte : ℕ → List ℕ
bits_of_byte x = map (bit_at x) (range_with_len 0 8)

-- For each place i with i / k even, bit i + k of one byte and bit i of another change places. The first byte's bits
-- after it, by the bits of both before it
abbrev pub exchanged_low : ℕ → List ℕ → List ℕ → List ℕ
exchanged_low k xs ys = map (λ i. if i / k % 2 == 0 then slice_index xs i else slice_index ys (i - k)) (range_with_len 0 8)

-- and the second byte's
abbrev pub exchanged_high : ℕ → List ℕ → List ℕ → List ℕ
exchanged_high k xs ys = map (λ i. if i / k % 2 == 0 then slice_index xs (i + k) else slice_index ys i) (range_with_len 0 8)

-- the bytes of a and b after it, in each of the sixteen places, are those of x and y
pub record AreExchanged (k : ℕ) (a b x y : List ℕ) : Type 0 where
  pub low : (j : ℕ) → j < 16 → bits_of_byte (slice_index x j) ≡ exchanged_low k (bits_of_byte (slice_index a j)) (bits_of_byte (slice_index b j))
  pub high : (j : ℕ) → j < 16 → bits_of_byte (slice_index y j) ≡ exchanged_high k (bits_of_byte (slice_index a j)) (bits_of_byte (slice_index b j))

-- ---- keys of rounds

-- the planes of round r
abbrev pub round_planes : List (List ℕ) → ℕ → List (List ℕ)
round_planes keys r = take 8 (drop (8 * r) keys)

-- planes of the rounds up to this one, that hold in each of their eight blocks the round's key, w being the keys of the
-- rounds
pub record AreKeyPlanes (keys : List (List ℕ)) (w : List ℕ) (rounds : ℕ) : Type 0 where
  pub planes : (r : ℕ) → r ≤ rounds → ArePlanes (round_planes keys r)
  pub blocks : (r b : ℕ) → r ≤ rounds → b < 8 → block_in (round_planes keys r) b ≡ round_key w r

-- AES (FIPS 197) on lists of bytes. The state is 16 bytes by columns: byte r + 4 * c is in row r and column c
-- (FIPS 197, 3.4).
use Rattle.std.specs.Prelude.{◌≡◌, ℕ, zero, suc, ◌+◌, ◌-◌, ◌*◌, ◌/◌, ◌%◌, ◌<◌, ◌≤◌, ◌==◌, ◌&&◌, ◌⊎◌, List, [], ◌∷◌, ◌++◌, length, take, drop, map, bit_xor, slice_index, if◌then◌else◌}
use Rattle.std.specs.Int.{to_le_bytes, w32}
use Rattle.std.specs.List.{flat_map, range_with_len}
pub use Rattle.byte_list.specs.Bytes.{AreBytes}
pub use Rattle.byte_list.specs.Xor.{xored}
use Rattle.aes_core.specs.Field.{times, power, sub_byte, inv_sub_byte}

-- ---- the steps of a round

-- SubBytes (FIPS 197, 5.1.1)
abbrev pub sub_bytes : List ℕ → List ℕ
sub_bytes s = map sub_byte s

-- ShiftRows (FIPS 197, 5.1.2): row r goes r places to the left
abbrev pub shift_rows : List ℕ → List ℕ
shift_rows s = map (λ k. slice_index s (k % 4 + 4 * ((k / 4 + k % 4) % 4))) (range_with_len 0 16)

-- a row of a matrix times a column
abbrev pub row_times : ℕ → ℕ → ℕ → ℕ → ℕ → ℕ → ℕ → ℕ → ℕ
row_times m n o p a b c d = bit_xor (bit_xor (bit_xor (times m a) (times n b)) (times o c)) (times p d)

-- the circulant matrix of a first row, times a column
abbrev pub circulant_times : ℕ → ℕ → ℕ → ℕ → ℕ → ℕ → ℕ → ℕ → List ℕ
circulant_times m n o p a b c d =
    row_times m n o p a b c d ∷ row_times p m n o a b c d ∷ row_times o p m n a b c d ∷ row_times n o p m a b c d ∷ []

-- the circulant matrix of a first row, times column c of the state
abbrev pub column_times : ℕ → ℕ → ℕ → ℕ → List ℕ → ℕ → List ℕ
column_times m n o p s c =
    circulant_times m n o p (slice_index s (4 * c)) (slice_index s (4 * c + 1)) (slice_index s (4 * c + 2)) (slice_index s (4 * c + 3))

-- and times each of the four columns
abbrev pub columns_times : ℕ → ℕ → ℕ → ℕ → List ℕ → List ℕ
columns_times m n o p s =
    column_times m n o p s 0 ++ column_times m n o p s 1 ++ column_times m n o p s 2 ++ column_times m n o p s 3

-- MixColumns (FIPS 197, 5.1.3)
abbrev pub mix_columns : List ℕ → List ℕ
mix_columns s = columns_times 2 3 1 1 s

-- ---- key expansion (FIPS 197, 5.2): the keys of the rounds, as one list of bytes

-- the number of words of a key: 4, 6 or 8
abbrev pub word_count : List ℕ → ℕ
word_count key = length key / 4

-- the number of its rounds: 10, 12 or 14
abbrev pub round_count : List ℕ → ℕ
round_count key = word_count key + 6

-- word i, of four bytes
abbrev pub word_at : List ℕ → ℕ → List ℕ
word_at w i = take 4 (drop (4 * i) w)

-- RotWord: the first byte goes last
abbrev pub rot_word : List ℕ → List ℕ
rot_word w = drop 1 w ++ take 1 w

-- what word i - 1, t, is changed to before it is added into word i, for a key of nk words
abbrev pub changed_word : ℕ → ℕ → List ℕ → List ℕ
changed_word nk i t =
    if i % nk == 0 then xored (sub_bytes (rot_word t)) (power (i / nk - 1) ∷ 0 ∷ 0 ∷ 0 ∷ [])
    else if nk == 8 && (i % 8 == 4) then sub_bytes t
    else t

-- word i, from the words before it
abbrev pub next_word : ℕ → List ℕ → ℕ → List ℕ
next_word nk w i = xored (word_at w (i - nk)) (changed_word nk i (word_at w (i - 1)))

-- the key, and n more words
unfoldable pub expanded : List ℕ → ℕ → List ℕ
expanded key zero = key
expanded key (suc n) = expanded key n ++ next_word (word_count key) (expanded key n) (word_count key + n)

-- the words of the first round key and of each round's
abbrev pub schedule : List ℕ → List ℕ
schedule key = expanded key (4 * (round_count key + 1) - word_count key)

-- the key of round r
abbrev pub round_key : List ℕ → ℕ → List ℕ
round_key w r = take 16 (drop (16 * r) w)

-- ---- one block enciphered (FIPS 197, 5.1)

-- the state after the first round key and n rounds, w being the keys of the rounds
unfoldable pub after_rounds : List ℕ → List ℕ → ℕ → List ℕ
after_rounds w s zero = xored s (round_key w 0)
after_rounds w s (suc n) = xored (mix_columns (shift_rows (sub_bytes (after_rounds w s n)))) (round_key w (suc n))

-- n rounds, the last without MixColumns
abbrev pub encrypted_by : List ℕ → ℕ → List ℕ → List ℕ
encrypted_by w n s = xored (shift_rows (sub_bytes (after_rounds w s (n - 1)))) (round_key w n)

-- what a block enciphers to under a key
abbrev pub encrypted : List ℕ → List ℕ → List ℕ
encrypted key s = encrypted_by (schedule key) (round_count key) s

-- ---- one block deciphered (FIPS 197, 5.3)

-- InvSubBytes (FIPS 197, 5.3.2)
abbrev pub inv_sub_bytes : List ℕ → List ℕ
inv_sub_bytes s = map inv_sub_byte s

-- InvShiftRows (FIPS 197, 5.3.1): row r goes r places to the right
abbrev pub inv_shift_rows : List ℕ → List ℕ
inv_shift_rows s = map (λ k. slice_index s (k % 4 + 4 * ((k / 4 + 4 - k % 4) % 4))) (range_with_len 0 16)

-- InvMixColumns (FIPS 197, 5.3.3)
abbrev pub inv_mix_columns : List ℕ → List ℕ
inv_mix_columns s = columns_times 14 11 13 9 s

-- the last round key and the last n rounds taken off, m being the number of rounds
unfoldable pub before_rounds : List ℕ → ℕ → List ℕ → ℕ → List ℕ
before_rounds w m s zero = xored s (round_key w m)
before_rounds w m s (suc n) = inv_mix_columns (xored (inv_sub_bytes (inv_shift_rows (before_rounds w m s n))) (round_key w (m - suc n)))

-- n rounds taken off
abbrev pub decrypted_by : List ℕ → ℕ → List ℕ → List ℕ
decrypted_by w n s = xored (inv_sub_bytes (inv_shift_rows (before_rounds w n s (n - 1)))) (round_key w 0)

-- what a block deciphers to under a key
abbrev pub decrypted : List ℕ → List ℕ → List ℕ
decrypted key s = decrypted_by (schedule key) (round_count key) s

-- ---- keys

-- the lengths of keys, in bytes
abbrev pub IsKeyLength : ℕ → Type 0
IsKeyLength n = (n ≡ 16) ⊎ (n ≡ 24) ⊎ (n ≡ 32)

-- sixteen bytes
pub record IsCipherBlock (s : List ℕ) : Type 0 where
  pub long : length s ≡ 16
  pub bytes : AreBytes s

-- the first n of the bytes are a key, and the keys of its rounds begin the bytes
pub record IsKeySchedule (keys : List ℕ) (n : ℕ) : Type 0 where
  pub key_length : IsKeyLength n
  pub bytes : AreBytes (take n keys)
  pub rounds : take (16 * (n / 4 + 7)) keys ≡ schedule (take n keys)

-- bytes of four whole words or more, as every key is
pub record IsKey (key : List ℕ) : Type 0 where
  pub whole : length key ≡ 4 * word_count key
  pub some : 4 ≤ word_count key
  pub bytes : AreBytes key

-- ---- four columns as words, each with its first row as the lowest byte

-- the state of four such words
abbrev pub state_of : List ℕ → List ℕ
state_of w =
    to_le_bytes w32 (slice_index w 0) ++ to_le_bytes w32 (slice_index w 1) ++ to_le_bytes w32 (slice_index w 2) ++ to_le_bytes w32 (slice_index w 3)

-- the bytes of any number of them
abbrev pub bytes_of : List ℕ → List ℕ
bytes_of w = flat_map (to_le_bytes w32) w

-- the keys of the rounds as words, of a key of n bytes; and in `back` each of them through InvMixColumns, which is
-- what a round on the way back adds after its own InvMixColumns
pub record IsWordSchedule (words back : List ℕ) (n : ℕ) : Type 0 where
  pub ready : IsKeySchedule (bytes_of words) n
  pub back_long : length back ≡ 60
  pub words_long : length words ≡ 60
  pub turned : (r : ℕ) → r < 15 → state_of (take 4 (drop (4 * r) back)) ≡ inv_mix_columns (round_key (bytes_of words) r)

-- The header of a store, block 0 of its log's file. What a valid header is stands here alone.
use Rattle.std.specs.Prelude.{◌≡◌, ℕ, zero, suc, ◌+◌, ◌-◌, ◌<◌, ◌^◌, Bool, true, nat_eq, nat_le, nat_lt, ◌&&◌, ◌||◌, if◌then◌else◌, List, [], ◌∷◌, ◌++◌, length, codes, Option, Some, None}
use Rattle.std.specs.Int.{to_be_bytes, w32}
use Rattle.std.specs.Str.{bytes_eq}
use Rattle.aes_core.specs.Cipher.{AreBytes}
use Rattle.aes_core.specs.declared.algorithm.Algorithm.{Algorithm}
use Rattle.aes_core.specs.declared.algorithm.Algorithm.TheVariants.{Cbc, Ctr}
use Rattle.bytes_core.specs.Crc.{crc32c}
use Rattle.byte_list.specs.Fields.{be32_at}
use Rattle.byte_list.specs.Bytes.{range, zeros}
use Rattle.page_places.specs.Texts.{ends_in_sum, page_bytes}
use Rattle.redo_text.specs.Block.{ring_sum_at}
use Rattle.store_image.specs.Ivs.{last_space}

-- a space, as the header names it: its id, its pages, and the id of its key
pub record HeldSpace : Type 0 where
  pub space : ℕ
  pub pages : ℕ
  pub key_id : ℕ

-- what a header says: the mode of the store, the number of ring blocks, the salt of the log's keys, and the spaces in order of id
pub record HeldHeader : Type 0 where
  pub algorithm : Algorithm
  pub blocks : ℕ
  pub salt : List ℕ
  pub spaces : List HeldSpace

-- ---- the limits of what a header says

-- the ring's blocks
abbrev pub least_ring_blocks : ℕ
least_ring_blocks = 32

abbrev pub most_ring_blocks : ℕ
most_ring_blocks = 4096

-- the spaces, and their pages together
abbrev pub most_spaces : ℕ
most_spaces = 16

abbrev pub most_store_pages : ℕ
most_store_pages = 16384

-- ---- where its fields stand, in bytes: the format, the page's size, the ring's blocks, how many spaces there are, the salt, the spaces, and the algorithm

abbrev pub header_format_at : ℕ
header_format_at = 8

abbrev pub header_page_at : ℕ
header_page_at = 12

abbrev pub header_blocks_at : ℕ
header_blocks_at = 16

abbrev pub header_count_at : ℕ
header_count_at = 20

abbrev pub header_salt_at : ℕ
header_salt_at = 24

abbrev pub header_spaces_at : ℕ
header_spaces_at = 40

abbrev pub header_algorithm_at : ℕ
header_algorithm_at = 240

-- the bytes of a space
abbrev pub held_space_bytes : ℕ
held_space_bytes = 12

-- n spaces from a byte on
unfoldable pub spaces_at : List ℕ → ℕ → ℕ → List HeldSpace
spaces_at b at zero = []
spaces_at b at (suc n) = record { space = be32_at b at; pages = be32_at b (at + 4); key_id = be32_at b (at + 8) } ∷ spaces_at b (at + held_space_bytes) n

-- each id is above the one before it, and ids, pages and key ids are within their limits
unfoldable pub are_in_order : ℕ → List HeldSpace → Bool
are_in_order id [] = true
are_in_order id (s ∷ ss) = nat_lt id s.space && (nat_le s.space last_space && (nat_le 2 s.pages && (nat_le 1 s.key_id && are_in_order s.space ss)))

-- the pages of all spaces together
unfoldable pub pages_together : List HeldSpace → ℕ
pages_together [] = 0
pages_together (s ∷ ss) = s.pages + pages_together ss

-- what a header says is within the limits: the ring's blocks, at least one space and at most so many, in order, and the pages
unfoldable pub are_allowed : HeldHeader → Bool
are_allowed h =
    nat_le least_ring_blocks h.blocks && (nat_le h.blocks most_ring_blocks && (nat_le 1 (length h.spaces) && (nat_le (length h.spaces) most_spaces
    && (are_in_order 0 h.spaces && nat_le (pages_together h.spaces) most_store_pages))))

-- AES_CBC has the number 1, AES_CTR the number 2
unfoldable pub algorithm_code : Algorithm → ℕ
algorithm_code Cbc = 1
algorithm_code Ctr = 2

-- what the bytes say, were they a header
unfoldable pub header_fields : List ℕ → HeldHeader
header_fields b = record {
  algorithm = if nat_eq (be32_at b header_algorithm_at) 1 then Cbc else Ctr;
  blocks = be32_at b header_blocks_at;
  salt = range header_salt_at 16 b;
  spaces = spaces_at b header_spaces_at (be32_at b header_count_at);
}

-- a valid header of format 2: its checksum, magic, format, page size and algorithm are right, and what it says is within the limits
unfoldable pub is_header : List ℕ → Bool
is_header b =
    ends_in_sum b && (bytes_eq (range 0 8 b) (codes "KEYSTOR1") && (nat_eq (be32_at b header_format_at) 2 && (nat_eq (be32_at b header_page_at) page_bytes
    && ((nat_eq (be32_at b header_algorithm_at) 1 || nat_eq (be32_at b header_algorithm_at) 2) && are_allowed (header_fields b)))))

-- the header in a block of the log's file, where it is valid
unfoldable pub header_in : List ℕ → Option HeldHeader
header_in b = if is_header b then Some (header_fields b) else None

-- the bytes of a header's spaces
unfoldable pub space_words : List HeldSpace → List ℕ
space_words [] = []
space_words (s ∷ ss) = (to_be_bytes w32 s.space ++ (to_be_bytes w32 s.pages ++ to_be_bytes w32 s.key_id)) ++ space_words ss

-- all bytes of a header before its spaces
unfoldable pub header_words : HeldHeader → List ℕ
header_words h =
    codes "KEYSTOR1" ++ (to_be_bytes w32 2 ++ (to_be_bytes w32 page_bytes ++ (to_be_bytes w32 h.blocks ++ (to_be_bytes w32 (length h.spaces) ++ h.salt))))

-- all bytes of a header before its checksum
unfoldable pub header_front : HeldHeader → List ℕ
header_front h =
    header_words h ++ ((space_words h.spaces ++ zeros (header_algorithm_at - header_spaces_at - length (space_words h.spaces))) ++ (to_be_bytes w32 (algorithm_code h.algorithm) ++ zeros (ring_sum_at - (header_algorithm_at + 4))))

-- the block of a header
unfoldable pub header_bytes : HeldHeader → List ℕ
header_bytes h = header_front h ++ to_be_bytes w32 (crc32c (header_front h))

-- each key id has four bytes
abbrev pub KeyIdsFit : List HeldSpace → Type 0
KeyIdsFit [] = Unit {0}
KeyIdsFit (s ∷ ss) = (s.key_id < 2 ^ 32) × KeyIdsFit ss

-- a header that can be written: within the limits, with a salt of 16 bytes and key ids of four bytes
pub record IsWritableHeader (h : HeldHeader) : Type 0 where
  pub allowed : are_allowed h ≡ true
  pub salt_long : length h.salt ≡ 16
  pub salt_bytes : AreBytes h.salt
  pub key_ids : KeyIdsFit h.spaces

-- The blocks of the log's file: header, checkpoints and ring blocks, each of 4096 bytes with a CRC-32C of its first 4092 bytes at its end.
use Rattle.std.specs.Prelude.{◌≡◌, ℕ, ◌+◌, ◌^◌, ◌<◌, ◌≤◌, Bool, true, false, nat_eq, ◌&&◌, List, [], ◌∷◌, ◌++◌, length, take, drop, replicate, codes}
use Rattle.std.specs.Int.{to_be_bytes, w16, w32, w64}
use Rattle.bytes_core.specs.Crc.{crc32c}
use Rattle.space_head.specs.declared.space.SpaceInfo.{SpaceInfo}

-- the bytes of the log's file: a header, two checkpoints and 256 ring blocks of 4096 bytes
abbrev pub log_bytes : ℕ
log_bytes = 1060864

-- the text with its checksum behind it
unfoldable pub plain_sealed : List ℕ → List ℕ
plain_sealed text = text ++ to_be_bytes w32 (crc32c text)

abbrev pub same_bytes : List ℕ → List ℕ → Bool
same_bytes [] [] = true
same_bytes (x ∷ xs) (y ∷ ys) = nat_eq x y && same_bytes xs ys
same_bytes _ _ = false

-- the checksum at the block's end is that of what stands before it
unfoldable pub sums_up : List ℕ → Bool
sums_up block = same_bytes (drop 4092 block) (to_be_bytes w32 (crc32c (take 4092 block)))

-- The first sixteen bytes of a ring block: its number, the key version, which is 0 since bodies are in clear, the used length, and the flags of the first and last block of a mini-transaction.
unfoldable pub block_head : ℕ → ℕ → List ℕ
block_head number used = to_be_bytes w64 number ++ to_be_bytes w32 0 ++ to_be_bytes w16 used ++ to_be_bytes w16 3

-- A valid ring block of this number with this text. What stands behind the text may be anything.
pub record IsLogBlock (number : ℕ) (text : List ℕ) (block : List ℕ) : Type 0 where
  pub small : number < 2 ^ 64
  pub some : 0 < length text
  pub rest : List ℕ
  pub size : length text + length rest ≡ 4076
  pub is : block ≡ plain_sealed (block_head number (length text) ++ text ++ rest)

-- the first bytes of a checkpoint: its sequence, and the number of the block from which the run begins
unfoldable pub checkpoint_head : ℕ → ℕ → List ℕ
checkpoint_head sequence from = codes "KEYCHK01" ++ to_be_bytes w64 sequence ++ to_be_bytes w64 from

-- a valid checkpoint
pub record IsCheckpoint (sequence from : ℕ) (block : List ℕ) : Type 0 where
  pub first : 0 < sequence
  pub order : sequence < from
  pub most : from ≤ 2 ^ 50
  pub rest : List ℕ
  pub size : length rest ≡ 4068
  pub is : block ≡ plain_sealed (checkpoint_head sequence from ++ rest)

-- what the header says of each space
unfoldable pub space_fields : SpaceInfo → List ℕ
space_fields s = to_be_bytes w32 s.space ++ to_be_bytes w32 s.pages ++ to_be_bytes w32 s.key_id

abbrev pub spaces_fields : List SpaceInfo → List ℕ
spaces_fields [] = []
spaces_fields (s ∷ ss) = space_fields s ++ spaces_fields ss

-- the first bytes of a header: format 1, pages of 16384 bytes, 256 ring blocks, the count of spaces, a salt of zero bytes, and the spaces
unfoldable pub header_head : List SpaceInfo → List ℕ
header_head spaces =
    codes "KEYSTOR1" ++ to_be_bytes w32 1 ++ to_be_bytes w32 16384 ++ to_be_bytes w32 256 ++ to_be_bytes w32 (length spaces) ++ replicate 16 0 ++ spaces_fields spaces

-- a valid header of a store with these spaces
pub record IsHeader (spaces : List SpaceInfo) (block : List ℕ) : Type 0 where
  pub rest : List ℕ
  pub size : length (header_head spaces) + length rest ≡ 4092
  pub is : block ≡ plain_sealed (header_head spaces ++ rest)

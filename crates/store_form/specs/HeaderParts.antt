-- The parts of a header's block, as they are written.
use Rattle.std.specs.Prelude.{ℕ, ◌-◌, List, ◌++◌, codes, length, take}
use Rattle.std.specs.Int.{to_be_bytes, w32}
use Rattle.bytes_core.specs.Crc.{crc32c}
use Rattle.byte_list.specs.Bytes.{put}
use Rattle.page_places.specs.Texts.{page_bytes}
use Rattle.store_files.specs.Header.{HeldSpace}

-- the first 24 bytes: magic, format, page size, ring blocks and spaces
unfoldable pub first_words : ℕ → ℕ → List ℕ
first_words blocks count = codes "KEYSTOR1" ++ (to_be_bytes w32 2 ++ (to_be_bytes w32 page_bytes ++ (to_be_bytes w32 blocks ++ to_be_bytes w32 count)))

-- the twelve bytes of a space
unfoldable pub space_part : HeldSpace → List ℕ
space_part s = to_be_bytes w32 s.space ++ (to_be_bytes w32 s.pages ++ to_be_bytes w32 s.key_id)

-- a block with the checksum of all before its last four bytes in these
abbrev pub with_checksum : List ℕ → List ℕ
with_checksum block = put (length block - 4) (to_be_bytes w32 (crc32c (take (length block - 4) block))) block

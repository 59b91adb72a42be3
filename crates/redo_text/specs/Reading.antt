-- What is looked at before a ring block is taken, in order, and what is read of it.
use Rattle.std.specs.Prelude.{ℕ, ◌/◌, ◌%◌, ◌==◌, ◌&&◌, ◌||◌, Bool, leb, not, List, if◌then◌else◌, Result, Ok, Err}
use Rattle.byte_list.specs.Bytes.{put, range}
use Rattle.byte_list.specs.Fields.{be16_at, be32_at, be64_at}
use Rattle.bytes_core.specs.Crc.{crc32c}
use Rattle.aes_core.specs.Algorithm.{deciphered}
use Rattle.redo_text.specs.declared.fault.BlockFault.{BlockFault}
use Rattle.redo_text.specs.declared.fault.BlockFault.TheVariants.{BadBlock, BadHead, WrongNumber}
use Rattle.redo_text.specs.declared.key.RedoKey.{RedoKey}
use Rattle.redo_text.specs.Block.{log_iv, ring_body_at, ring_body_size, ring_sum_at}

-- the fields of a block
abbrev pub number_of : List ℕ → ℕ
number_of block = be64_at block 0

abbrev pub block_version : List ℕ → ℕ
block_version block = be32_at block 8

abbrev pub used_of : List ℕ → ℕ
used_of block = be16_at block 12

abbrev pub block_flags : List ℕ → ℕ
block_flags block = be16_at block 14

abbrev pub block_body : List ℕ → List ℕ
block_body block = range ring_body_at ring_body_size block

abbrev pub stored_block_sum : List ℕ → ℕ
stored_block_sum block = be32_at block ring_sum_at

-- the checksum that the bytes before it have
abbrev pub computed_block_sum : List ℕ → ℕ
computed_block_sum block = crc32c (range 0 ring_sum_at block)

-- whether these flags say that the block is the first, or the last, of its mini-transaction
abbrev pub is_first : ℕ → Bool
is_first flags = flags % 2 == 1

abbrev pub is_last : ℕ → Bool
is_last flags = flags / 2 % 2 == 1

-- a used length that the flags allow: 1 to 4076, and 4076 in a block that isn't the last
unfoldable pub fits_used : ℕ → ℕ → Bool
fits_used used flags = leb 1 used && (leb used ring_body_size && (is_last flags || (used == ring_body_size)))

-- the first fault of a block that is wanted under a number, or none
unfoldable pub reading : ℕ → List ℕ → Result (Unit {0}) BlockFault
reading number block =
    if not (stored_block_sum block == computed_block_sum block) then Err (BadBlock (stored_block_sum block) (computed_block_sum block))
    else if not (number_of block == number) then Err (WrongNumber number (number_of block))
    else if block_version block == 0 then Err (BadHead 8)
    else if not (fits_used (used_of block) (block_flags block)) then Err (BadHead 12)
    else if not (leb (block_flags block) 3) then Err (BadHead 14)
    else Ok tt

-- the body in clear, and the block with it in place of its body
abbrev pub clear_body : RedoKey → List ℕ → List ℕ
clear_body key block = deciphered key.algorithm key.local (log_iv (number_of block)) (block_body block)

abbrev pub block_in_clear : RedoKey → List ℕ → List ℕ
block_in_clear key block = put ring_body_at (clear_body key block) block

-- A checkpoint, file block 1 or 2 of the log.
use Rattle.std.specs.Prelude.{◌≡◌, ℕ, ◌+◌, ◌-◌, ◌^◌, ◌≤◌, Bool, nat_eq, nat_le, ◌&&◌, if◌then◌else◌, List, ◌++◌, codes, Option, Some, None}
use Rattle.std.specs.Int.{to_be_bytes, w32, w64}
use Rattle.std.specs.Str.{bytes_eq}
use Rattle.bytes_core.specs.Crc.{crc32c}
use Rattle.places.specs.Places.{place}
use Rattle.byte_list.specs.Fields.{be64_at}
use Rattle.byte_list.specs.Bytes.{range, zeros}
use Rattle.page_places.specs.Texts.{ends_in_sum}
use Rattle.redo_text.specs.Block.{ring_sum_at}
use Rattle.store_image.specs.Checkpoint.{HeldCheckpoint, side_of}
use Rattle.store_image.specs.View.{block_bytes}

-- where its fields stand, in bytes: the sequence, the first block of the run, and zero bytes up to the checksum
abbrev pub checkpoint_sequence_at : ℕ
checkpoint_sequence_at = 8

abbrev pub checkpoint_from_at : ℕ
checkpoint_from_at = 16

abbrev pub checkpoint_zeros_at : ℕ
checkpoint_zeros_at = 24

-- A valid checkpoint in file block i: checksum and magic are right, the block is that of its sequence, and it says numbers that a checkpoint may say.
unfoldable pub is_checkpoint : ℕ → List ℕ → Bool
is_checkpoint i b =
    ends_in_sum b && (bytes_eq (range 0 8 b) (codes "KEYCHK01") && (nat_eq i (side_of (be64_at b checkpoint_sequence_at)) && (nat_le 1 (be64_at b checkpoint_sequence_at)
    && (nat_le (be64_at b checkpoint_sequence_at + 1) (be64_at b checkpoint_from_at) && nat_le (be64_at b checkpoint_from_at) (2 ^ 50)))))

-- the checkpoint in file block i, where it is valid
unfoldable pub checkpoint_in : ℕ → List ℕ → Option HeldCheckpoint
checkpoint_in i b = if is_checkpoint i b then Some (record { sequence = be64_at b checkpoint_sequence_at; from = be64_at b checkpoint_from_at }) else None

-- all bytes of a checkpoint before its checksum
unfoldable pub checkpoint_front : HeldCheckpoint → List ℕ
checkpoint_front c = codes "KEYCHK01" ++ (to_be_bytes w64 c.sequence ++ (to_be_bytes w64 c.from ++ zeros (ring_sum_at - checkpoint_zeros_at)))

-- the block of a checkpoint
unfoldable pub checkpoint_bytes : HeldCheckpoint → List ℕ
checkpoint_bytes c = checkpoint_front c ++ to_be_bytes w32 (crc32c (checkpoint_front c))

-- a checkpoint that can be written
pub record IsWritableCheckpoint (c : HeldCheckpoint) : Type 0 where
  pub some : 1 ≤ c.sequence
  pub below : c.sequence + 1 ≤ c.from
  pub within : c.from ≤ 2 ^ 50

-- the newest valid checkpoint of a log's file: that of greatest sequence
pub record IsNewestCheckpoint (file : List ℕ) (c : HeldCheckpoint) : Type 0 where
  pub is : checkpoint_in (side_of c.sequence) (place block_bytes (side_of c.sequence) file) ≡ Some c
  pub newest : (i : ℕ) (d : HeldCheckpoint) → checkpoint_in i (place block_bytes i file) ≡ Some d → d.sequence ≤ c.sequence

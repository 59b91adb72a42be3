-- What each stage of an opening refuses: the first of its conditions that holds of the disk as it reads.
use Rattle.std.specs.Prelude.{◌≡◌, ◌≢◌, ℕ, ◌+◌, ◌*◌, ◌<◌, ◌≤◌, ◌^◌, nat_lt, if◌then◌else◌, true, length, List, take, Option, Some, None}
use Rattle.bytes_core.specs.Crc.{crc32c}
use Rattle.byte_list.specs.Fields.{be32_at}
use Rattle.disk_model.specs.Event.{Event, is_there, reads}
use Rattle.disk_model.specs.Past.{Past, At}
use Rattle.disk_model.specs.declared.names.FileName.{FileName}
use Rattle.disk_model.specs.declared.names.FileName.TheVariants.{Log}
use Rattle.doublewrite.specs.declared.refuse.OpenRefuse.{OpenRefuse}
use Rattle.doublewrite.specs.declared.refuse.OpenRefuse.TheVariants.{NotFormatted, Mixed, Damaged, VersionBelowFloor, Spent, DiskFault, OutOfMemory}
use Rattle.places.specs.Places.{place}
use Rattle.redo_log.specs.declared.reading.Checkpoint.{Checkpoint}
use Rattle.space_head.specs.declared.space.SpaceInfo.{SpaceInfo}
use Rattle.store_files.specs.Checkpoint.{IsNewestCheckpoint}
use Rattle.store_files.specs.Header.{HeldHeader}
use Rattle.store_image.specs.Checkpoint.{HeldCheckpoint, front_blocks}
use Rattle.recovery.specs.Walks.{AllHave, FirstHas}
use Rattle.recovery.specs.Files.{IsFormatted, IsFirstMisfit, StoreFile, file_bytes_of, found_length}
use Rattle.store_image.specs.View.{block_bytes}
use Rattle.redo_text.specs.Block.{ring_sum_at}

-- the log isn't that of a store
abbrev pub IsHeaderRefusal : Past → OpenRefuse → Type 0
IsHeaderRefusal past NotFormatted = At (λ es. (h : HeldHeader) → IsFormatted h es → ⊥) past
IsHeaderRefusal past DiskFault = Unit {0}
IsHeaderRefusal past OutOfMemory = Unit {0}
IsHeaderRefusal past r = ⊥

-- this file has another length than this one
abbrev pub IsOtherLength : FileName → ℕ → Past → OpenRefuse → Type 0
IsOtherLength name bytes past (Mixed file at wanted found) = (file ≡ name) × (at ≡ 0) × (wanted ≡ bytes) × (found ≢ bytes) × At (λ es. found ≡ found_length name es) past
IsOtherLength name bytes past DiskFault = Unit {0}
IsOtherLength name bytes past OutOfMemory = Unit {0}
IsOtherLength name bytes past r = ⊥

-- one of these files has another length than it is to have
abbrev pub IsLengthRefusal : List StoreFile → Past → OpenRefuse → Type 0
IsLengthRefusal files past (Mixed file at wanted found) = (at ≡ 0) × (f : StoreFile) × (file ≡ f.name) × (wanted ≡ file_bytes_of f) × At (IsFirstMisfit files f found) past
IsLengthRefusal files past DiskFault = Unit {0}
IsLengthRefusal files past OutOfMemory = Unit {0}
IsLengthRefusal files past r = ⊥

abbrev pub checkpoint_said : Checkpoint → HeldCheckpoint
checkpoint_said c = record { sequence = c.sequence; from = c.from }

-- the log is there with room for a header and two checkpoints
pub record HasCheckpoints (es : List Event) : Type 0 where
  pub there : is_there Log es ≡ true
  pub long : front_blocks * block_bytes ≤ length (reads Log es)

-- of two checkpoints that of greater sequence
abbrev pub newer_of : Option Checkpoint → Option Checkpoint → Option Checkpoint
newer_of None second = second
newer_of (Some a) None = Some a
newer_of (Some a) (Some b) = if nat_lt a.sequence b.sequence then Some b else Some a

-- neither checkpoint is valid; the values are those of the first one's checksum
pub record HasNoCheckpoint (stored computed : ℕ) (es : List Event) : Type 0 where
  pub none : (c : HeldCheckpoint) → IsNewestCheckpoint (reads Log es) c → ⊥
  pub stored_is : stored ≡ be32_at (place block_bytes 1 (reads Log es)) ring_sum_at
  pub computed_is : computed ≡ crc32c (take ring_sum_at (place block_bytes 1 (reads Log es)))

abbrev pub IsCheckpointRefusal : Past → OpenRefuse → Type 0
IsCheckpointRefusal past (Damaged file at stored computed) = (file ≡ Log) × (at ≡ block_bytes) × At (HasNoCheckpoint stored computed) past
IsCheckpointRefusal past DiskFault = Unit {0}
IsCheckpointRefusal past OutOfMemory = Unit {0}
IsCheckpointRefusal past r = ⊥

-- the least version of each space is at most the active one
abbrev pub AreFloorsBelow : ℕ → List SpaceInfo → Type 0
AreFloorsBelow active spaces = AllHave (λ info. info.floor ≤ active) spaces

-- a space's least version is above the active one
pub record IsAbove (active space floor : ℕ) (info : SpaceInfo) : Type 0 where
  pub space_is : space ≡ info.space
  pub floor_is : floor ≡ info.floor
  pub above : active < info.floor

-- and it is the first of which this is so
abbrev pub IsFirstAbove : ℕ → List SpaceInfo → ℕ → ℕ → Type 0
IsFirstAbove active spaces space floor = FirstHas (λ info. info.floor ≤ active) (IsAbove active space floor) spaces

abbrev pub IsFloorRefusal : ℕ → List SpaceInfo → OpenRefuse → Type 0
IsFloorRefusal active spaces (VersionBelowFloor space floor version) = (version ≡ active) × IsFirstAbove active spaces space floor
IsFloorRefusal active spaces r = ⊥

-- a store that goes on behind this block has no numbers left
abbrev pub IsNumberRefusal : ℕ → ℕ → OpenRefuse → Type 0
IsNumberRefusal blocks last (Spent n) = (n ≡ last) × (2 ^ 35 < last + 1 + blocks)
IsNumberRefusal blocks last r = ⊥

-- What is known of the disk while the log is written, by the blocks of the journal.
use Rattle.std.specs.Prelude.{◌≡◌, ℕ, ◌+◌, ◌*◌, ◌<◌, ◌≤◌, true, false, List, [], length, slice_index_or}
use Rattle.disk_model.specs.Event.{Event, is_there, reads, marks}
use Rattle.disk_model.specs.Image.{Leaves, Image, IsImage, IsLucky, IsListed}
use Rattle.disk_model.specs.Crash.{unsynced_writes, other_writes, synced_bytes}
use Rattle.disk_model.specs.Marks.{acked as acked_of}
use Rattle.disk_model.specs.declared.names.FileName.TheVariants.{Log}
use Rattle.plain_engine.specs.Block.{log_bytes, IsLogBlock}
use Rattle.plain_engine.specs.Log.{log_block, ring_place, IsFramed}
use Rattle.plain_engine.specs.Stands.{passes, AreBlockWrites, AllRefusable}

-- the block of the i-th entry, whose number is i + 2
abbrev pub entry : List (List ℕ) → ℕ → List ℕ
entry blocks i = slice_index_or blocks i []

-- where it stands
abbrev pub entry_at : ℕ → List ℕ → List ℕ
entry_at i file = log_block (ring_place (i + 2)) file

abbrev pub HasNone : ℕ → List ℕ → Type 0
HasNone i file = (text : List ℕ) → IsLogBlock (i + 2) text (entry_at i file) → ⊥

-- a place behind the settled blocks: it holds its block, or no block of its number, or is torn
pub data PlainPlace (blocks : List (List ℕ)) (written i : ℕ) (file : List ℕ) (torn : List (ℕ × ℕ)) : Type 0 where
  Written : i < written → entry_at i file ≡ entry blocks i → PlainPlace blocks written i file torn
  NoBlock : HasNone i file → PlainPlace blocks written i file torn
  IsTorn : IsListed torn (ring_place (i + 2) * 4096) 4096 → PlainPlace blocks written i file torn

-- what a crash may leave of the log: the settled blocks stand, and of the written ones any
pub record Spaced (blocks : List (List ℕ)) (settled written : ℕ) (file : List ℕ) (torn : List (ℕ × ℕ)) : Type 0 where
  pub size : length file ≡ log_bytes
  pub framed : IsFramed file
  pub front : (i : ℕ) → i < settled → entry_at i file ≡ entry blocks i
  pub rest : (i : ℕ) → settled ≤ i → i < 256 → PlainPlace blocks written i file torn

-- a file with so many blocks, and none behind them
pub record IsLogFile (blocks : List (List ℕ)) (written : ℕ) (file : List ℕ) : Type 0 where
  pub size : length file ≡ log_bytes
  pub framed : IsFramed file
  pub whole : (i : ℕ) → i < written → entry_at i file ≡ entry blocks i
  pub fresh : (i : ℕ) → written ≤ i → i < 256 → HasNone i file

-- the blocks of the journal, each with its number
abbrev pub AreNumbered : List (List ℕ) → Type 0
AreNumbered blocks = (i : ℕ) → i < length blocks → (text : List ℕ) × IsLogBlock (i + 2) text (entry blocks i)

-- what holds of each image, and of the file at its last sync
pub record HoldsBlocks (blocks : List (List ℕ)) (settled written : ℕ) (es : List Event) : Type 0 where
  pub images : (file : List ℕ) (torn : List (ℕ × ℕ)) → Leaves Log es file torn → Spaced blocks settled written file torn
  pub synced : IsLogFile blocks settled (synced_bytes Log es)
  pub pending : AreBlockWrites (unsynced_writes es)
  pub acked : acked_of (marks es) ≤ settled
  pub order : settled ≤ written
  pub within : written ≤ length blocks
  pub room : length blocks ≤ 256
  pub numbered : AreNumbered blocks

-- between two calls: the file reads as the written blocks, and at least so many were acknowledged
pub record LogReady (blocks : List (List ℕ)) (settled written acked : ℕ) (es : List Event) : Type 0 where
  pub holds : HoldsBlocks blocks settled written es
  pub least : acked ≤ acked_of (marks es)
  pub there : is_there Log es ≡ true
  pub shows : IsLogFile blocks written (reads Log es)

-- an image whose run is the first so many blocks, and no more than these were acknowledged
pub record Runs (blocks : List (List ℕ)) (image : Image) : Type 0 where
  pub count : ℕ
  pub within : count ≤ length blocks
  pub size : length (image.bytes Log) ≡ log_bytes
  pub framed : IsFramed (image.bytes Log)
  pub whole : (i : ℕ) → i < count → entry_at i (image.bytes Log) ≡ entry blocks i
  pub ends : HasNone count (image.bytes Log)
  pub acked : acked_of image.told ≤ count

abbrev pub AllRun : List (List ℕ) → List Event → Type 0
AllRun blocks es = (image : Image) → IsImage es image → IsLucky passes image → Runs blocks image

-- at each moment: the run of each image, and that torn writes are refused
pub record IsCrashSafe (blocks : List (List ℕ)) (es : List Event) : Type 0 where
  pub runs : AllRun blocks es
  pub refusable : AllRefusable es

-- at each moment until the next sync: the run of each image, the file at its last sync, the unsynced writes, and how many were acknowledged
pub record PlainMoment (blocks : List (List ℕ)) (settled acked : ℕ) (es : List Event) : Type 0 where
  pub runs : AllRun blocks es
  pub synced : IsLogFile blocks settled (synced_bytes Log es)
  pub pending : AreBlockWrites (unsynced_writes es)
  pub least : acked ≤ acked_of (marks es)
  pub most : acked_of (marks es) ≤ settled

-- a disk with no log that was acknowledged nothing, and with no unsynced write to another file
pub record IsEmpty (es : List Event) : Type 0 where
  pub absent : is_there Log es ≡ false
  pub others : other_writes Log (unsynced_writes es) ≡ []
  pub untold : acked_of (marks es) ≡ 0

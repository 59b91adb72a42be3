-- An image of the disk stands for a beginning of the journal.
use Rattle.std.specs.Prelude.{◌≡◌, ℕ, ◌*◌, ◌<◌, ◌≤◌, Bool, false, List, [], ◌∷◌, length, map, take}
use Rattle.disk_model.specs.Event.{Event}
use Rattle.disk_model.specs.Image.{Image, IsImage, IsLucky}
use Rattle.disk_model.specs.Crash.{Pending, unsynced_writes, synced_bytes}
use Rattle.disk_model.specs.Lucky.{AreRefusable}
pub use Rattle.disk_model.specs.Marks.{acked as acked_of}
use Rattle.disk_model.specs.declared.names.FileName.{FileName}
use Rattle.disk_model.specs.declared.names.FileName.TheVariants.{Log}
use Rattle.bytes_core.specs.LastByte.{EndsInCrc32c}
use Rattle.redo_text.specs.declared.change.Change.{Change}
use Rattle.store_model.specs.declared.contents.SpaceContents.{SpaceContents}
use Rattle.store_model.specs.Fold.{fold}
use Rattle.plain_engine.specs.declared.journal.Entry.{Entry}
use Rattle.plain_engine.specs.Block.{sums_up}
use Rattle.plain_engine.specs.Log.{LogRecovers}

-- the mini-transactions of a journal
abbrev pub mtrs : List Entry → List (List Change)
mtrs journal = map (λ e. e.mtr) journal

-- the contents after the first so many entries
abbrev pub contents_after : ℕ → List Entry → List SpaceContents → List SpaceContents
contents_after count journal base = fold (take count (mtrs journal)) base

-- The image recovers to the first so many entries of the journal, and no more than these were acknowledged by then.
pub record LogStands (journal : List Entry) (image : Image) : Type 0 where
  pub count : ℕ
  pub within : count ≤ length journal
  pub recovers : LogRecovers (image.bytes Log) (take count (mtrs journal))
  pub acked : acked_of image.told ≤ count

-- The image recovers to exactly so many entries of the journal, and no more than these were acknowledged by then.
pub record LogKeeps (journal : List Entry) (image : Image) (kept : ℕ) : Type 0 where
  pub within : kept ≤ length journal
  pub recovers : LogRecovers (image.bytes Log) (take kept (mtrs journal))
  pub acked : acked_of image.told ≤ kept

-- whether a torn range passes for what it should hold: a block of the log whose checksum is right
abbrev pub passes : FileName → List ℕ → Bool
passes Log bytes = sums_up bytes
passes _ bytes = false

-- each image of this moment in which no torn range passes its checksum stands for a beginning of the journal
abbrev pub AllStand : List Entry → List Event → Type 0
AllStand journal es = (image : Image) → IsImage es image → IsLucky passes image → LogStands journal image

-- each image of this moment in which no torn range passes its checksum recovers to exactly the first so many entries
abbrev pub AllRecover : List Entry → ℕ → List Event → Type 0
AllRecover journal count es = (image : Image) → IsImage es image → IsLucky passes image → LogRecovers (image.bytes Log) (take count (mtrs journal))

-- a write of one of the log's 259 blocks: 4096 bytes at its place, which end in their checksum
pub record IsBlockWrite (w : Pending) : Type 0 where
  pub file : w.file ≡ Log
  pub place : ℕ
  pub within : place < 259
  pub at : w.at ≡ place * 4096
  pub size : length w.bytes ≡ 4096
  pub sum : EndsInCrc32c w.bytes

abbrev pub AreBlockWrites : List Pending → Type 0
AreBlockWrites [] = Unit {0}
AreBlockWrites (w ∷ ws) = IsBlockWrite w × AreBlockWrites ws

-- Each unsynced write lies within its file and is refused once its last byte is inverted, and two of them have the same range or are apart.
abbrev pub AllRefusable : List Event → Type 0
AllRefusable es = (f : FileName) → AreRefusable f (passes f) (length (synced_bytes f es)) (unsynced_writes es)

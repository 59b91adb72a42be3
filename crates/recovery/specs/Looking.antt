-- What an opening finds of a store before it writes anything, step by step; and what it is refused for, the first step that doesn't find what it looks for.
use Rattle.std.specs.Prelude.{◌≡◌, ℕ, ◌+◌, ◌≤◌, ◌^◌, true, List}
use Rattle.disk_model.specs.Event.{Event, reads}
use Rattle.disk_model.specs.Past.{Past, At}
use Rattle.disk_model.specs.declared.names.FileName.TheVariants.{Log}
use Rattle.doublewrite.specs.declared.refuse.OpenRefuse.{OpenRefuse}
use Rattle.doublewrite.specs.declared.refuse.OpenRefuse.TheVariants.{NotFormatted, Mixed, Damaged, BadRecord, DiskFault, OutOfMemory}
use Rattle.key_ring.specs.Ring.{RingEntry}
use Rattle.redo_log.specs.Blocks.{Keys, redo_form}
use Rattle.redo_log.specs.Runs.{AreVersions}
use Rattle.redo_text.specs.declared.change.Change.{Change}
use Rattle.ring_log.specs.Scans.{IsRingRun}
use Rattle.space_head.specs.declared.space.SpaceInfo.{SpaceInfo}
use Rattle.store_files.specs.Checkpoint.{IsNewestCheckpoint, IsWritableCheckpoint}
use Rattle.store_files.specs.Header.{HeldHeader, are_allowed, most_spaces, pages_together}
use Rattle.store_files.specs.Run.{block_at}
use Rattle.store_form.specs.Said.{header_said}
use Rattle.store_image.specs.Checkpoint.{HeldCheckpoint}
use Rattle.store_image.specs.Places.{LogView}
use Rattle.store_image.specs.View.{block_bytes, slot_count}
use Rattle.recovery.specs.Changes.{AreRunChanges, FitLast, HasBadMtr}
use Rattle.recovery.specs.Files.{HaveStoreFiles, IsFirstMisfit, IsFormatted, StoreFile, file_bytes_of, store_files_of}
use Rattle.recovery.specs.Heads.{AreInfosFor, HaveHeads, HaveWrongHead}
use Rattle.recovery.specs.Keys.{AreThere, IsMissingKey, NamedAt}
use Rattle.recovery.specs.Notes.{FitNotes, HaveNotes, HaveRefusedHome}
use Rattle.recovery.specs.Stages.{AreFloorsBelow, HasNoCheckpoint, IsFloorRefusal, IsNumberRefusal, checkpoint_said}
use Rattle.recovery.specs.declared.changes.RunChanges.{RunChanges}
use Rattle.recovery.specs.declared.looking.Analysis.{Analysis}
use Rattle.recovery.specs.declared.notes.PageNote.{PageNote}

-- ---- what was found

-- the header, and each file with its length
pub record FoundFiles (h : HeldHeader) (es : List Event) : Type 0 where
  pub formatted : IsFormatted h es
  pub have : HaveStoreFiles (store_files_of h) es

-- the newest checkpoint, and the run from its number on up to a last block
pub record FoundRun (h : HeldHeader) (c : HeldCheckpoint) (last : ℕ) (es : List Event) : Type 0 where
  pub files : FoundFiles h es
  pub newest : IsNewestCheckpoint (reads Log es) c
  pub run : (keys : Keys) → IsRingRun h.blocks (redo_form keys) (block_at h.blocks (reads Log es)) c.from (last + 1)

-- what each page is read from
pub record FoundPages (h : HeldHeader) (c : HeldCheckpoint) (last : ℕ) (notes : List (List PageNote)) (es : List Event) : Type 0 where
  pub run : FoundRun h c last es
  pub notes_of : HaveNotes h.spaces notes es

-- what page 0 of each space says
pub record FoundHeads (h : HeldHeader) (c : HeldCheckpoint) (last : ℕ) (notes : List (List PageNote)) (heads : List SpaceInfo) (es : List Event) : Type 0 where
  pub pages : FoundPages h c last notes es
  pub heads_of : HaveHeads h.spaces heads es

-- a log whose run has these bounds
abbrev pub IsLogFrom : HeldCheckpoint → ℕ → LogView (List Change) → Type 0
IsLogFrom c last log = (log.from ≡ c.from) × (log.end ≡ last + 1)

module _ (keys : List RingEntry) (active : ℕ) where
  -- each key that reading the store needs
  pub record FoundKeys (h : HeldHeader) (c : HeldCheckpoint) (last : ℕ) (notes : List (List PageNote)) (heads : List SpaceInfo) (es : List Event) : Type 0 where
    pub of_heads : FoundHeads h c last notes heads es
    pub there : (log : LogView (List Change)) → IsLogFrom c last log → AreThere keys (NamedAt h log active es)

  -- what the run changes
  pub record FoundChanges (h : HeldHeader) (c : HeldCheckpoint) (last : ℕ) (notes : List (List PageNote)) (heads : List SpaceInfo) (changes : RunChanges) (es : List Event) : Type 0 where
    pub keyed : FoundKeys h c last notes heads es
    pub fit : AreInfosFor h.spaces changes.spaces
    pub changes_of : AreRunChanges h keys c.from (last + 1) notes heads changes es

  -- ---- what is refused

  -- The first step that doesn't find what it looks for is refused so, and the steps before it have found theirs.
  pub data IsRefusedFor (why : OpenRefuse) (es : List Event) : Type 0 where
    ByHeader : why ≡ NotFormatted → ((h : HeldHeader) → IsFormatted h es → ⊥) → IsRefusedFor why es
    ByLength : (h : HeldHeader) (f : StoreFile) (found : ℕ) → IsFormatted h es → why ≡ Mixed f.name 0 (file_bytes_of f) found → IsFirstMisfit (store_files_of h) f found es → IsRefusedFor why es
    ByCheckpoint : (h : HeldHeader) (stored computed : ℕ) → FoundFiles h es → why ≡ Damaged Log block_bytes stored computed → HasNoCheckpoint stored computed es → IsRefusedFor why es
    ByHome : (h : HeldHeader) (c : HeldCheckpoint) (last : ℕ) → FoundRun h c last es → HaveRefusedHome h.spaces why es → IsRefusedFor why es
    ByHead : (h : HeldHeader) (c : HeldCheckpoint) (last : ℕ) (notes : List (List PageNote)) → FoundPages h c last notes es → HaveWrongHead h.spaces why es → IsRefusedFor why es
    ByKey : (h : HeldHeader) (c : HeldCheckpoint) (last : ℕ) (notes : List (List PageNote)) (heads : List SpaceInfo) → FoundHeads h c last notes heads es
        → ((log : LogView (List Change)) → IsLogFrom c last log → IsMissingKey keys (NamedAt h log active es) why) → IsRefusedFor why es
    ByRecord : (h : HeldHeader) (c : HeldCheckpoint) (last : ℕ) (notes : List (List PageNote)) (heads : List SpaceInfo) (number at : ℕ) → FoundKeys h c last notes heads es
        → why ≡ BadRecord number at → HasBadMtr h keys c.from (last + 1) number at es → IsRefusedFor why es
    ByFloor : (h : HeldHeader) (c : HeldCheckpoint) (last : ℕ) (notes : List (List PageNote)) (heads : List SpaceInfo) (changes : RunChanges) → FoundChanges h c last notes heads changes es
        → IsFloorRefusal active changes.spaces why → IsRefusedFor why es
    ByNumber : (h : HeldHeader) (c : HeldCheckpoint) (last : ℕ) (notes : List (List PageNote)) (heads : List SpaceInfo) (changes : RunChanges) → FoundChanges h c last notes heads changes es
        → AreFloorsBelow active changes.spaces → IsNumberRefusal h.blocks last why → IsRefusedFor why es

  -- an opening is refused for the first step, over the disk as it reads, or by the call that met a fault or want of memory
  abbrev pub IsOpenRefusal : Past → OpenRefuse → Type 0
  IsOpenRefusal past DiskFault = Unit {0}
  IsOpenRefusal past OutOfMemory = Unit {0}
  IsOpenRefusal past why = At (IsRefusedFor why) past

  -- ---- what is given

  -- Each step that looks at the disk found what it looks for, and this is told of it; and of the run the versions of its blocks.
  pub record IsAnalysis (found : Analysis) (es : List Event) : Type 0 where
    pub heads : List SpaceInfo
    pub changes : FoundChanges (header_said found.header) (checkpoint_said found.checkpoint) found.run.last found.notes heads found.changes es
    pub versions : AreVersions (block_at found.header.blocks (reads Log es)) found.checkpoint.from (found.run.last + 1) found.run.versions

-- What is told fits together, also where the disk doesn't tell what it reads as, and the steps that look at numbers alone found them right.
pub record FitsTogether (active : ℕ) (found : Analysis) : Type 0 where
  pub allowed : are_allowed (header_said found.header) ≡ true
  pub format : found.header.format ≡ 2
  pub count : found.header.count ≤ most_spaces
  pub checkpoint : IsWritableCheckpoint (checkpoint_said found.checkpoint)
  pub order : found.checkpoint.from ≤ found.run.last + 1
  pub noted : FitNotes (header_said found.header).spaces found.notes
  pub last : FitLast (header_said found.header).spaces found.changes.last
  pub infos : AreInfosFor (header_said found.header).spaces found.changes.spaces
  pub floors : AreFloorsBelow active found.changes.spaces
  pub numbers : found.run.last + 1 + found.header.blocks ≤ 2 ^ 35

-- ---- the calls of the disk that looking at a store takes at most

-- its header, the length of each file, two checkpoints, and each ring block once
abbrev pub log_calls : HeldHeader → ℕ
log_calls h = 2 + (2 + most_spaces) + 2 + h.blocks

-- each slot, each page and each page 0 once
abbrev pub page_calls : HeldHeader → ℕ
page_calls h = slot_count + pages_together h.spaces + most_spaces

-- and each ring block once more
abbrev pub look_calls : HeldHeader → ℕ
look_calls h = log_calls h + page_calls h + h.blocks

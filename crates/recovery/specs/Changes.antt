-- What the run of a log changes: the last change of each page, and what page 0 of each space says behind it; or the first mini-transaction that doesn't say changes of the store's pages.
use Rattle.std.specs.Prelude.{◌≡◌, ◌≢◌, ℕ, ◌+◌, ◌<◌, ◌≤◌, ◌^◌, nat_le, if◌then◌else◌, List, [], ◌++◌, length, slice_index_or, None}
use Rattle.key_ring.specs.Ring.{RingEntry, ring_key}
use Rattle.disk_model.specs.Event.{Event, reads}
use Rattle.disk_model.specs.Past.{Past, At}
use Rattle.disk_model.specs.declared.names.FileName.TheVariants.{Log}
use Rattle.doublewrite.specs.Restore.{space_at}
use Rattle.doublewrite.specs.declared.refuse.OpenRefuse.{OpenRefuse}
use Rattle.doublewrite.specs.declared.refuse.OpenRefuse.TheVariants.{Damaged, MissingKey, BadRecord, DiskFault, OutOfMemory}
use Rattle.redo_text.specs.Changes.{Begins}
use Rattle.redo_text.specs.Reading.{block_version}
use Rattle.redo_text.specs.Text.{text_of, AreAllowed}
use Rattle.redo_text.specs.declared.change.Change.{Change}
use Rattle.redo_text.specs.declared.change.Change.TheVariants.{Put, Kind, Touch, Floor, Encrypt}
use Rattle.space_head.specs.declared.space.SpaceInfo.{SpaceInfo}
use Rattle.store_image.specs.Recovers.{IsNamedBy, later_by}
use Rattle.store_image.specs.View.{Logged}
use Rattle.store_files.specs.Header.{HeldHeader, HeldSpace}
use Rattle.store_files.specs.Pages.{Head, mtr_acts, mtr_names}
use Rattle.store_files.specs.Run.{AreLogEntries, HasText, MakeWholeMtr, MakeWholeMtrs, block_at}
use Rattle.store_model.specs.Fold.{floor_set, made_ciphered}
use Rattle.crash_image.specs.Recovers.{IsOfStore, AreOfStore, RunIsOfStore}
use Rattle.recovery.specs.Notes.{no_note}
use Rattle.recovery.specs.SpaceList.{held_at}
use Rattle.recovery.specs.declared.changes.RunChanges.{RunChanges}
use Rattle.recovery.specs.declared.notes.PageNote.{PageNote}

-- the LSN that is listed for a page of the space at a place
abbrev pub lsn_at : List (List ℕ) → ℕ → ℕ → ℕ
lsn_at last i p = slice_index_or (slice_index_or last i []) p 0

-- for each page of each space there is one
pub record FitLast (hs : List HeldSpace) (last : List (List ℕ)) : Type 0 where
  pub long : length last ≡ length hs
  pub pages : (i : ℕ) → i < length hs → length (slice_index_or last i []) ≡ (held_at hs i).pages

-- and none has changed
pub record IsUnchanged (hs : List HeldSpace) (last : List (List ℕ)) : Type 0 where
  pub none : (i p : ℕ) → i < length hs → p < (held_at hs i).pages → lsn_at last i p ≡ 0

-- the LSN of the chosen text of page 0 of the space at a place
abbrev pub head_lsn : List (List PageNote) → ℕ → ℕ
head_lsn notes i = (slice_index_or (slice_index_or notes i []) 0 no_note).lsn

module _ (run : List (Logged (List Change))) where
  -- a mini-transaction of this LSN names the page
  abbrev pub IsNamedAt : ℕ → ℕ → ℕ → Type 0
  IsNamedAt s p lsn = IsNamedBy mtr_names run s p lsn

  -- the LSN of the last mini-transaction that names the page, or 0 where none does
  pub data IsLastChange (s p lsn : ℕ) : Type 0 where
    Never : lsn ≡ 0 → ((n : ℕ) → IsNamedAt s p n → ⊥) → IsLastChange s p lsn
    Last : IsNamedAt s p lsn → ((n : ℕ) → IsNamedAt s p n → n ≤ lsn) → IsLastChange s p lsn

  -- of each page of these spaces
  pub record AreLastChanges (hs : List HeldSpace) (last : List (List ℕ)) : Type 0 where
    pub each : (i p : ℕ) → i < length hs → p < (held_at hs i).pages → IsLastChange (held_at hs i).space p (lsn_at last i p)

  -- Each space with the later changes of its page 0, those whose LSN is above its chosen text's.
  pub record AreLaterHeads (hs : List HeldSpace) (notes : List (List PageNote)) (infos behind : List SpaceInfo) : Type 0 where
    pub each : (i : ℕ) → i < length hs → Head (space_at behind i) ≡ later_by mtr_acts (head_lsn notes i) run (held_at hs i).space 0 (Head (space_at infos i))

-- The text says changes of these spaces up to this byte, and there, before its end, none begins.
pub record HasNoStoreChangeAt (hs : List HeldSpace) (text : List ℕ) (at : ℕ) : Type 0 where
  pub before : List Change
  pub rest : List ℕ
  pub is : text ≡ text_of before ++ rest
  pub allowed : AreAllowed before
  pub of_store : AreOfStore hs before
  pub at_is : at ≡ length (text_of before)
  pub some : rest ≢ []
  pub none : (c : Change) (tail : List ℕ) → Begins rest c tail → IsOfStore hs c → ⊥

-- the blocks from one number up to another are whole mini-transactions
pub record IsWholeRun (blocks from end : ℕ) (es : List Event) : Type 0 where
  pub sizes : List ℕ
  pub whole : MakeWholeMtrs blocks (reads Log es) from sizes end
  pub most : end ≤ 2 ^ 51

module _ (header : HeldHeader) (keys : List RingEntry) (from end : ℕ) where
  -- The blocks from one number up to another are whole mini-transactions of changes of the store's pages, and this is what they change.
  pub record AreRunChanges (notes : List (List PageNote)) (infos : List SpaceInfo) (changes : RunChanges) (es : List Event) : Type 0 where
    pub run : List (Logged (List Change))
    pub entries : AreLogEntries header keys (reads Log es) from run end
    pub of_store : RunIsOfStore header.spaces run
    pub last : AreLastChanges run header.spaces changes.last
    pub heads : AreLaterHeads run header.spaces notes infos changes.spaces

  -- The mini-transaction that begins with this block doesn't say changes of the store's pages, and those before it do.
  pub record HasBadMtr (number at : ℕ) (es : List Event) : Type 0 where
    pub before : List (Logged (List Change))
    pub lead : AreLogEntries header keys (reads Log es) from before number
    pub of_store : RunIsOfStore header.spaces before
    pub count : ℕ
    pub whole : MakeWholeMtr header.blocks (reads Log es) number count
    pub within : number + count ≤ end
    pub text : List ℕ
    pub has : HasText header keys (reads Log es) number count text
    pub none : HasNoStoreChangeAt header.spaces text at

  -- the key of each of these blocks is there
  abbrev pub AreBlocksKeyed : List Event → Type 0
  AreBlocksKeyed es = (n : ℕ) → from ≤ n → n < end → ring_key keys 1 (block_version (block_at header.blocks (reads Log es) n)) ≢ None

  -- A refusal by a mini-transaction, or by the disk. A block that isn't valid, or whose key is missing, is met only where the disk doesn't tell its past.
  abbrev pub IsByRecord : Past → OpenRefuse → Type 0
  IsByRecord past (BadRecord number at) = At (HasBadMtr number at) past
  IsByRecord past (Damaged file at stored computed) = At (λ es. ⊥) past
  IsByRecord past (MissingKey id version) = At (λ es. ⊥) past
  IsByRecord past DiskFault = Unit {0}
  IsByRecord past OutOfMemory = Unit {0}
  IsByRecord past r = ⊥

-- ---- what one mini-transaction changes

-- the page that a change names; page 0 for one of the space itself
abbrev pub page_named : Change → ℕ
page_named (Put s page at bytes) = page
page_named (Kind s page kind) = page
page_named (Touch s page) = page
page_named (Floor s version) = 0
page_named (Encrypt s) = 0

-- a space as a change of it leaves it
abbrev pub info_after : Change → SpaceInfo → SpaceInfo
info_after (Put s page at bytes) info = info
info_after (Kind s page kind) info = info
info_after (Touch s page) info = info
info_after (Floor s version) info = floor_set version info
info_after (Encrypt s) info = made_ciphered info

-- The changes of a mini-transaction of this LSN are noted: it is the LSN of each page that they name, and page 0 is changed by them where it is above its chosen text's.
pub record NotesMtr (hs : List HeldSpace) (notes : List (List PageNote)) (lsn : ℕ) (cs : List Change) (old new : RunChanges) : Type 0 where
  pub last : (i p : ℕ) → i < length hs → p < (held_at hs i).pages → lsn_at new.last i p ≡ (if mtr_names cs (held_at hs i).space p then lsn else lsn_at old.last i p)
  pub heads : (i : ℕ) → i < length hs → Head (space_at new.spaces i) ≡ (if nat_le lsn (head_lsn notes i) then Head (space_at old.spaces i) else mtr_acts cs (held_at hs i).space 0 (Head (space_at old.spaces i)))

-- the text of the mini-transaction that begins with this block doesn't say changes of these spaces
abbrev pub IsTextRefusal : List HeldSpace → List ℕ → ℕ → OpenRefuse → Type 0
IsTextRefusal hs text first (BadRecord number at) = (number ≡ first) × HasNoStoreChangeAt hs text at
IsTextRefusal hs text first r = ⊥

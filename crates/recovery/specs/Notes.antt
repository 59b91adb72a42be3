-- What each page of a store is read from, and what is noted of it; and the first home that isn't taken.
use Rattle.std.specs.Prelude.{◌≡◌, ◌≢◌, ℕ, ◌+◌, ◌*◌, ◌<◌, false, List, [], length, take, slice_index_or, Option, Some, None}
use Rattle.bytes_core.specs.Crc.{crc32c}
use Rattle.byte_list.specs.Fields.{be32_at}
use Rattle.disk_model.specs.Event.{Event}
use Rattle.disk_model.specs.Past.{Past, At}
use Rattle.disk_model.specs.declared.names.FileName.TheVariants.{Space}
use Rattle.doublewrite.specs.declared.refuse.OpenRefuse.{OpenRefuse}
use Rattle.doublewrite.specs.declared.refuse.OpenRefuse.TheVariants.{Mixed, Damaged, DiskFault, OutOfMemory}
use Rattle.page_places.specs.Placed.{IsPlaced}
use Rattle.page_places.specs.Texts.{page_bytes, ends_in_sum, page_number_at, page_sum_at}
use Rattle.page_places.specs.Views.{view}
use Rattle.places.specs.Places.{shown}
use Rattle.store_image.specs.View.{Text, Holds, View, HasNoHome, IsChosen}
use Rattle.store_files.specs.Header.{HeldSpace}
use Rattle.crash_image.specs.Rest.{read_image}
use Rattle.recovery.specs.Walks.{FirstHas, PairsHave}
use Rattle.recovery.specs.declared.notes.PageNote.{PageNote}
use Rattle.recovery.specs.declared.notes.NoteSource.{NoteSource}
use Rattle.recovery.specs.declared.notes.NoteSource.TheVariants.{Unused, Home, Copy}

-- the homes and slots of a disk as it reads, whatever its log says
abbrev pub disk_view : List Event → View (Unit {0})
disk_view es = view (record { from = 0; end = 0; run = [] }) (read_image es)

-- what a page is read from: nothing, its home, or its newest copy; with the LSN and the version that its text names
abbrev pub IsSourceOf : List Event → ℕ → ℕ → ℕ → NoteSource → Type 0
IsSourceOf es s p lsn Unused = IsChosen (disk_view es) s p None × (lsn ≡ 0)
IsSourceOf es s p lsn (Home version) = (t : Text) × ((disk_view es).home s p ≡ Holds t) × IsChosen (disk_view es) s p (Some t) × (t.lsn ≡ lsn) × (t.version ≡ version)
IsSourceOf es s p lsn (Copy version) = (t : Text) × HasNoHome (disk_view es) s p × IsChosen (disk_view es) s p (Some t) × (t.lsn ≡ lsn) × (t.version ≡ version)

-- the page can be read, and the note says from what
pub record IsNoteOf (s p : ℕ) (note : PageNote) (es : List Event) : Type 0 where
  pub placed : IsPlaced p (shown (Space s) page_bytes p es)
  pub source : IsSourceOf es s p note.lsn note.source
  pub head : p ≡ 0 → note.source ≢ Unused

abbrev pub no_note : PageNote
no_note = record { source = Unused; lsn = 0 }

-- these are the notes of the first pages of a space
pub record AreNotesOf (s : ℕ) (notes : List PageNote) (es : List Event) : Type 0 where
  pub each : (p : ℕ) → p < length notes → IsNoteOf s p (slice_index_or notes p no_note) es

-- those of the pages of a space
pub record AreSpaceNotes (es : List Event) (h : HeldSpace) (notes : List PageNote) : Type 0 where
  pub long : length notes ≡ h.pages
  pub notes_of : AreNotesOf h.space notes es

-- for each page of these spaces there is one
abbrev pub FitNotes : List HeldSpace → List (List PageNote) → Type 0
FitNotes spaces notes = PairsHave (λ h n. length n ≡ h.pages) spaces notes

-- and says what the page is read from
abbrev pub HaveNotes : List HeldSpace → List (List PageNote) → List Event → Type 0
HaveNotes spaces notes es = PairsHave (AreSpaceNotes es) spaces notes

-- ---- why a home isn't taken

-- its checksum matches, and it has the number of another page
pub record HasOtherNumber (s p at wanted found : ℕ) (es : List Event) : Type 0 where
  pub at_is : at ≡ p * page_bytes + page_number_at
  pub wanted_is : wanted ≡ p
  pub found_is : found ≡ be32_at (shown (Space s) page_bytes p es) page_number_at
  pub other : IsPlaced p (shown (Space s) page_bytes p es) → ⊥

-- its checksum doesn't match, and the page can't be read from a slot, nor is it unused, but for a page 0, which can't be
pub record IsUnreadable (s p at stored computed : ℕ) (es : List Event) : Type 0 where
  pub at_is : at ≡ p * page_bytes
  pub stored_is : stored ≡ be32_at (shown (Space s) page_bytes p es) page_sum_at
  pub computed_is : computed ≡ crc32c (take page_sum_at (shown (Space s) page_bytes p es))
  pub unmatched : ends_in_sum (shown (Space s) page_bytes p es) ≡ false
  pub none : (o : Option Text) → IsChosen (disk_view es) s p o → (p ≡ 0) × (o ≡ None)

abbrev pub IsHomeRefusal : ℕ → ℕ → OpenRefuse → List Event → Type 0
IsHomeRefusal s p (Mixed file at wanted found) es = (file ≡ Space s) × HasOtherNumber s p at wanted found es
IsHomeRefusal s p (Damaged file at stored computed) es = (file ≡ Space s) × IsUnreadable s p at stored computed es
IsHomeRefusal s p r es = ⊥

-- a refusal by a home
abbrev pub IsHomeKind : OpenRefuse → Type 0
IsHomeKind (Mixed file at wanted found) = Unit {0}
IsHomeKind (Damaged file at stored computed) = Unit {0}
IsHomeKind r = ⊥

-- the first page of a space that isn't taken
pub record HasRefusedHome (h : HeldSpace) (why : OpenRefuse) (es : List Event) : Type 0 where
  pub page : ℕ
  pub within : page < h.pages
  pub notes : List PageNote
  pub before : length notes ≡ page
  pub taken : AreNotesOf h.space notes es
  pub is : IsHomeRefusal h.space page why es

-- a space of which each page is taken
abbrev pub HasNotes : List Event → HeldSpace → Type 0
HasNotes es h = (notes : List PageNote) × AreSpaceNotes es h notes

-- the first page of the first space that has one
abbrev pub HaveRefusedHome : List HeldSpace → OpenRefuse → List Event → Type 0
HaveRefusedHome spaces why es = FirstHas (HasNotes es) (λ h. HasRefusedHome h why es) spaces

-- a refusal by the home of a page, for whichever reason P, or by the disk
abbrev pub IsByHome : (OpenRefuse → List Event → Type 0) → Past → OpenRefuse → Type 0
IsByHome P past (Mixed file at wanted found) = At (P (Mixed file at wanted found)) past
IsByHome P past (Damaged file at stored computed) = At (P (Damaged file at stored computed)) past
IsByHome P past DiskFault = Unit {0}
IsByHome P past OutOfMemory = Unit {0}
IsByHome P past r = ⊥

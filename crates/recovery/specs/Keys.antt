-- The keys that reading a store needs, and the least of them that a ring lacks.
use Rattle.std.specs.Prelude.{◌≡◌, ◌≢◌, ◌⊎◌, ℕ, ◌<◌, ◌≤◌, List, [], length, slice_index_or, Option, Some, None}
use Rattle.key_ring.specs.Ring.{RingEntry, ring_key}
use Rattle.disk_model.specs.Event.{Event, reads}
use Rattle.disk_model.specs.declared.names.FileName.TheVariants.{Log}
use Rattle.doublewrite.specs.Copies.{copies_to}
use Rattle.doublewrite.specs.declared.listing.Copied.{Copied}
use Rattle.doublewrite.specs.declared.refuse.OpenRefuse.{OpenRefuse}
use Rattle.doublewrite.specs.declared.refuse.OpenRefuse.TheVariants.{MissingKey}
use Rattle.redo_log.specs.Runs.{AreVersions}
use Rattle.redo_text.specs.declared.change.Change.{Change}
use Rattle.store_image.specs.Places.{LogView}
use Rattle.store_files.specs.Header.{HeldHeader, HeldSpace}
use Rattle.store_files.specs.Run.{block_at}
use Rattle.crash_image.specs.Rest.{read_image}
use Rattle.crash_image.specs.Stands.{Named}
use Rattle.recovery.specs.Notes.{HaveNotes, no_note}
use Rattle.recovery.specs.SpaceList.{IsPlaceOf, held_at}
use Rattle.recovery.specs.declared.keys.KeyName.{KeyName}
use Rattle.recovery.specs.declared.notes.PageNote.{PageNote}
use Rattle.recovery.specs.declared.notes.NoteSource.{NoteSource}
use Rattle.recovery.specs.declared.notes.NoteSource.TheVariants.{Unused, Home, Copy}

abbrev pub key_named : ℕ → ℕ → KeyName
key_named id version = record { id = id; version = version }

-- the second doesn't come before the first: by id, then by version
abbrev pub IsNotBehind : KeyName → KeyName → Type 0
IsNotBehind a b = (a.id < b.id) ⊎ ((a.id ≡ b.id) × (a.version ≤ b.version))

abbrev pub Lacks : List RingEntry → KeyName → Type 0
Lacks ring x = ring_key ring x.id x.version ≡ None

-- no key of which P holds is lacking
abbrev pub AreThere : List RingEntry → (KeyName → Type 0) → Type 0
AreThere ring P = (x : KeyName) → P x → Lacks ring x → ⊥

-- of the keys of which P holds, the least that the ring lacks
pub record IsLeastLacking (ring : List RingEntry) (P : KeyName → Type 0) (x : KeyName) : Type 0 where
  pub needed : P x
  pub lacks : Lacks ring x
  pub least : (y : KeyName) → P y → Lacks ring y → IsNotBehind x y

-- ---- what is needed

-- the keys that the disk needs as it reads, with this run
abbrev pub NamedAt : HeldHeader → LogView (List Change) → ℕ → List Event → KeyName → Type 0
NamedAt header log active es x = Named (read_image es) header log active x.id x.version

-- What was found of it: the notes of its pages, its valid slots, and the versions of the blocks of this run.
pub record AreFound (header : HeldHeader) (versions : List ℕ) (notes : List (List PageNote)) (copies : List Copied) (log : LogView (List Change)) (es : List Event) : Type 0 where
  pub notes_of : HaveNotes header.spaces notes es
  pub copies_of : copies ≡ copies_to 64 es
  pub versions_of : AreVersions (block_at header.blocks (reads Log es)) log.from log.end versions

-- the ring lacks this one, the least
abbrev pub IsMissingKey : List RingEntry → (KeyName → Type 0) → OpenRefuse → Type 0
IsMissingKey ring P (MissingKey id version) = IsLeastLacking ring P (key_named id version)
IsMissingKey ring P r = ⊥

abbrev pub IsKeyKind : OpenRefuse → Type 0
IsKeyKind (MissingKey id version) = Unit {0}
IsKeyKind r = ⊥

-- ---- what is looked for

-- a key was found that doesn't come behind this one
abbrev pub HasUpTo : Option KeyName → KeyName → Type 0
HasUpTo None x = ⊥
HasUpTo (Some found) x = IsNotBehind found x

-- The keys of which P holds were looked for, and the least that is lacking was kept.
pub record LooksFor (ring : List RingEntry) (P : KeyName → Type 0) (old new : Option KeyName) : Type 0 where
  pub keeps : (x : KeyName) → HasUpTo old x → HasUpTo new x
  pub all : (x : KeyName) → P x → Lacks ring x → HasUpTo new x
  pub only : (x : KeyName) → new ≡ Some x → (old ≡ Some x) ⊎ (P x × Lacks ring x)

-- one of the first n
abbrev pub OneBelow : (ℕ → KeyName → Type 0) → ℕ → KeyName → Type 0
OneBelow P n x = (i : ℕ) × (i < n) × P i x

-- the version that a source names, 0 where there is no text
abbrev pub version_of : NoteSource → ℕ
version_of Unused = 0
version_of (Home version) = version
version_of (Copy version) = version

-- the key of a text, which one in clear has not
abbrev pub IsTextKey : ℕ → ℕ → KeyName → Type 0
IsTextKey id version x = (version ≢ 0) × (x ≡ key_named id version)

-- that of the text that a page is read from
abbrev pub IsNoteKey : ℕ → List PageNote → ℕ → KeyName → Type 0
IsNoteKey id notes p x = IsTextKey id (version_of (slice_index_or notes p no_note).source) x

abbrev pub notes_at : List (List PageNote) → ℕ → List PageNote
notes_at notes i = slice_index_or notes i []

-- that of the space at a place: the active one, or of one of its pages
abbrev pub IsSpaceKey : ℕ → List HeldSpace → List (List PageNote) → ℕ → KeyName → Type 0
IsSpaceKey active hs notes i x = (x ≡ key_named (held_at hs i).key_id active) ⊎ OneBelow (IsNoteKey (held_at hs i).key_id (notes_at notes i)) (length (notes_at notes i)) x

-- a copy of an LSN can be read from, beside a source of its own: it is above the home's text, or without one none is newer
abbrev pub IsLiveFrom : NoteSource → ℕ → ℕ → Type 0
IsLiveFrom Unused own lsn = own ≤ lsn
IsLiveFrom (Home version) own lsn = own < lsn
IsLiveFrom (Copy version) own lsn = own ≤ lsn

abbrev pub IsLiveBy : PageNote → ℕ → Type 0
IsLiveBy note lsn = IsLiveFrom note.source note.lsn lsn

-- that of a copy that can be read from
pub record IsCopyKey (hs : List HeldSpace) (notes : List (List PageNote)) (c : Copied) (x : KeyName) : Type 0 where
  pub place : ℕ
  pub is_place : IsPlaceOf hs c.space c.page place
  pub live : IsLiveBy (slice_index_or (notes_at notes place) c.page no_note) c.lsn
  pub key : IsTextKey (held_at hs place).key_id c.version x

abbrev pub no_copied : Copied
no_copied = record { index = 0; space = 0; page = 0; lsn = 0; version = 0; text = [] }

-- of the copy at a place among those that are listed
abbrev pub IsListedKey : List HeldSpace → List (List PageNote) → List Copied → ℕ → KeyName → Type 0
IsListedKey hs notes copies j x = IsCopyKey hs notes (slice_index_or copies j no_copied) x

-- of the version at a place
abbrev pub IsVersionKey : List ℕ → ℕ → KeyName → Type 0
IsVersionKey versions i x = x ≡ key_named 1 (slice_index_or versions i 0)

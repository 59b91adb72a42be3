-- The pages of a round as they are loaded from their homes into a pool, and why a home can't be taken apart.
use Rattle.std.specs.Prelude.{◌≡◌, ◌≢◌, ℕ, ◌-◌, ◌+◌, ◌*◌, ◌<◌, ◌≤◌, Bool, true, false, MatchBool, nat_eq, ◌||◌, if◌then◌else◌, List, [], length, slice_index_or, option_map, Option, Some, None, IsSome, Result, Ok, Err}
use Rattle.aes_core.specs.declared.algorithm.Algorithm.{Algorithm}
use Rattle.byte_list.specs.Fields.{be32_at, be64_at}
use Rattle.disk_model.specs.Event.{Event}
use Rattle.disk_model.specs.Past.{Past, At}
use Rattle.disk_model.specs.declared.names.FileName.TheVariants.{Space}
use Rattle.doublewrite.specs.declared.refuse.OpenRefuse.{OpenRefuse}
use Rattle.doublewrite.specs.declared.refuse.OpenRefuse.TheVariants.{Mixed, Damaged, MissingKey}
use Rattle.key_ring.specs.Local.{local_key}
use Rattle.key_ring.specs.Ring.{RingEntry}
use Rattle.page_places.specs.Texts.{page_bytes, page_lsn_at, page_number_at, page_type_at, page_version_at}
use Rattle.page_pool.specs.Pages.{PoolState, held_page, is_dirty, is_name}
use Rattle.page_pool.specs.declared.names.PageName.{PageName}
use Rattle.page_text.specs.Opening.{opening}
use Rattle.page_text.specs.Parts.{page_cipher_at, page_space_at}
use Rattle.page_text.specs.Text.{IsText, FitsPage}
use Rattle.page_text.specs.declared.fault.OpenFault.{OpenFault}
use Rattle.page_text.specs.declared.fault.OpenFault.TheVariants.{Checksum, WrongEnd, WrongFill, WrongKind, WrongPage, WrongSpace}
use Rattle.page_text.specs.declared.key.PageKey.{PageKey}
use Rattle.places.specs.Places.{shown}
use Rattle.redo_text.specs.Text.{page_body_end}
use Rattle.space_head.specs.declared.space.SpaceInfo.{SpaceInfo}
use Rattle.store_model.specs.Fold.{used}
use Rattle.store_model.specs.declared.contents.PlainPage.{PlainPage}
use Rattle.recovery.specs.Notes.{no_note}
use Rattle.recovery.specs.Rounds.{count_in}
use Rattle.recovery.specs.declared.notes.PageNote.{PageNote}
use Rattle.recovery.specs.declared.notes.NoteSource.{NoteSource}
use Rattle.recovery.specs.declared.notes.NoteSource.TheVariants as source

abbrev pub name_in : ℕ → ℕ → PageName
name_in s p = record { space = s; page = p }

-- the key of a space's pages at a version, where the ring has it
abbrev pub page_key_in : List RingEntry → Algorithm → SpaceInfo → ℕ → Option PageKey
page_key_in ring algorithm info version = option_map (λ local. record { local = local; algorithm = algorithm }) (local_key ring info.key_id version info.salt)

-- a fault of the text in a home, as the refusal of the store: the place in the file, and the two values
abbrev pub fault_refusal : ℕ → ℕ → OpenFault → OpenRefuse
fault_refusal s p (Checksum stored computed) = Damaged (Space s) (p * page_bytes) stored computed
fault_refusal s p (WrongPage wanted found) = Mixed (Space s) (p * page_bytes + page_number_at) wanted found
fault_refusal s p (WrongKind found version) = Mixed (Space s) (p * page_bytes + page_type_at) 0 found
fault_refusal s p (WrongSpace wanted found) = Mixed (Space s) (p * page_bytes + page_space_at) wanted found
fault_refusal s p (WrongEnd wanted found) = Mixed (Space s) (p * page_bytes + page_body_end) wanted found
fault_refusal s p (WrongFill at found) = Mixed (Space s) (p * page_bytes + at) (if nat_eq at page_cipher_at then 0 else 0xFFFFFFFF) found

-- what a home can be refused for
abbrev pub IsHomeFaultKind : OpenRefuse → Type 0
IsHomeFaultKind (Mixed file at wanted found) = Unit {0}
IsHomeFaultKind (Damaged file at stored computed) = Unit {0}
IsHomeFaultKind (MissingKey id version) = Unit {0}
IsHomeFaultKind r = ⊥

-- its place is in the page
abbrev pub HasPlace : OpenFault → Type 0
HasPlace (Checksum stored computed) = Unit {0}
HasPlace (WrongPage wanted found) = Unit {0}
HasPlace (WrongKind found version) = Unit {0}
HasPlace (WrongSpace wanted found) = Unit {0}
HasPlace (WrongEnd wanted found) = Unit {0}
HasPlace (WrongFill at found) = at < page_bytes

-- why a home of these bytes can't be taken apart: the ring lacks the key of its version, or its text has a fault
pub data IsHomeFault (ring : List RingEntry) (algorithm : Algorithm) (info : SpaceInfo) (p : ℕ) (home : List ℕ) (why : OpenRefuse) : Type 0 where
  LacksKey : be32_at home page_version_at ≢ 0 → page_key_in ring algorithm info (be32_at home page_version_at) ≡ None → why ≡ MissingKey info.key_id (be32_at home page_version_at) → IsHomeFault ring algorithm info p home why
  HasFault : (fault : OpenFault) → (be32_at home page_version_at ≢ 0 → IsSome (page_key_in ring algorithm info (be32_at home page_version_at))) → opening info.space p (page_key_in ring algorithm info (be32_at home page_version_at)) home ≡ Err fault → why ≡ fault_refusal info.space p fault → IsHomeFault ring algorithm info p home why

-- The home has the text of this plain page.
abbrev pub IsHomeText : List RingEntry → Algorithm → SpaceInfo → ℕ → List ℕ → PlainPage → Type 0
IsHomeText ring algorithm info p home plain = IsText page_bytes info.space p (be64_at home page_lsn_at) (be32_at home page_version_at) (page_key_in ring algorithm info (be32_at home page_version_at)) (record { kind = plain.kind; bytes = plain.body }) home

-- A page of these bytes in its home can't be taken apart: why, and that they are no text of it.
pub record HasNoText (ring : List RingEntry) (algorithm : Algorithm) (info : SpaceInfo) (p : ℕ) (home : List ℕ) (why : OpenRefuse) : Type 0 where
  pub fault : IsHomeFault ring algorithm info p home why
  pub none : (plain : PlainPage) → IsHomeText ring algorithm info p home plain → ⊥

-- a page of this number may have this type
abbrev pub MayHaveType : ℕ → ℕ → Type 0
MayHaveType p kind = FitsPage p kind 0

abbrev pub is_unused : NoteSource → Bool
is_unused source.Unused = true
is_unused (source.Home version) = false
is_unused (source.Copy version) = false

-- a page that isn't read: an unused one, but no page 0
abbrev pub is_unread : PageNote → ℕ → Bool
is_unread note p = if nat_eq p 0 then false else is_unused note.source

-- The page of a name is dirty and holds this, and all else is as it was; none is clean.
pub record HoldsMore (name : PageName) (plain : PlainPage) (old new : PoolState) : Type 0 where
  pub clean : new.clean ≡ []
  pub count : length new.dirty.entries ≡ length old.dirty.entries + 1
  pub dirty : (other : PageName) → is_dirty other new.dirty ≡ (is_name name other || is_dirty other old.dirty)
  pub held : (other : PageName) → held_page other new ≡ (if is_name name other then Some plain else held_page other old)

-- Of a space the pages from one up to another that have a property are dirty, and each has a type that it may have.
pub record AreDirty (has : ℕ → Bool) (s from end : ℕ) (pool : PoolState) : Type 0 where
  pub dirty : (p : ℕ) → from ≤ p → p < end → has p ≡ true → is_dirty (name_in s p) pool.dirty ≡ true
  pub typed : (p : ℕ) → from ≤ p → p < end → has p ≡ true → MayHaveType p (used (held_page (name_in s p) pool)).kind

-- They are, no others up to now, at most 256, and no page is clean.
pub record HoldsRange (has : ℕ → Bool) (s from end : ℕ) (pool : PoolState) : Type 0 where
  pub clean : pool.clean ≡ []
  pub count : length pool.dirty.entries ≡ count_in has from (end - from)
  pub most : length pool.dirty.entries ≤ 256
  pub pages : AreDirty has s from end pool
  pub behind : (p : ℕ) → end ≤ p → is_dirty (name_in s p) pool.dirty ≡ false

-- What a page is loaded as at a moment: as its home has it, an unused one as a page of type 0 and zero bytes.
abbrev pub IsHomePage : List RingEntry → Algorithm → SpaceInfo → PageNote → ℕ → PlainPage → List Event → Type 0
IsHomePage ring algorithm info note p plain es = MatchBool (is_unread note p) (plain ≡ used None) (IsHomeText ring algorithm info p (shown (Space info.space) page_bytes p es) plain)

-- The page is made dirty so, beside what was.
abbrev pub IsPageLoaded : List RingEntry → Algorithm → SpaceInfo → PageNote → ℕ → PoolState → PoolState → Past → Type 0
IsPageLoaded ring algorithm info note p old new past = (plain : PlainPage) × HoldsMore (name_in info.space p) plain old new × MayHaveType p plain.kind × At (IsHomePage ring algorithm info note p plain) past

-- It is held so.
abbrev pub HoldsHome : List RingEntry → Algorithm → SpaceInfo → PageNote → ℕ → PoolState → List Event → Type 0
HoldsHome ring algorithm info note p pool es = (plain : PlainPage) × IsHomePage ring algorithm info note p plain es × (held_page (name_in info.space p) pool ≡ Some plain)

-- So is each of the range.
pub record HoldsHomes (ring : List RingEntry) (algorithm : Algorithm) (info : SpaceInfo) (notes : List PageNote) (has : ℕ → Bool) (from end : ℕ) (pool : PoolState) (es : List Event) : Type 0 where
  pub each : (p : ℕ) → from ≤ p → p < end → has p ≡ true → HoldsHome ring algorithm info (slice_index_or notes p no_note) p pool es

-- each of the range is one that is as its home has it
pub record HaveTexts (ring : List RingEntry) (algorithm : Algorithm) (info : SpaceInfo) (notes : List PageNote) (has : ℕ → Bool) (from end : ℕ) (es : List Event) : Type 0 where
  pub each : (p : ℕ) → from ≤ p → p < end → has p ≡ true → (plain : PlainPage) × IsHomePage ring algorithm info (slice_index_or notes p no_note) p plain es

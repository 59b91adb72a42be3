-- What is known of a space, and of a round of its pages, of a store that is opened.
use Rattle.std.specs.Prelude.{◌≡◌, ℕ, ◌<◌, ◌≤◌, Bool, true, List, length, slice_index_or}
use Rattle.aes_core.specs.declared.algorithm.Algorithm.{Algorithm}
use Rattle.disk_model.specs.Event.{Event}
use Rattle.disk_model.specs.Past.{Past, At}
use Rattle.disk_model.specs.declared.names.FileName.TheVariants.{Space}
use Rattle.doublewrite.specs.declared.refuse.OpenRefuse.{OpenRefuse}
use Rattle.doublewrite.specs.declared.refuse.OpenRefuse.TheVariants.{DiskFault, OutOfMemory}
use Rattle.key_ring.specs.Ring.{RingEntry}
use Rattle.page_places.specs.Texts.{page_bytes}
use Rattle.places.specs.Places.{shown}
use Rattle.space_head.specs.declared.space.SpaceInfo.{SpaceInfo}
use Rattle.store_files.specs.Header.{HeldHeader}
use Rattle.store_files.specs.Pages.{has_page, key_id_of, salts_of}
use Rattle.crash_image.specs.Opened.{StoreOpened, IsOpenedAt}
use Rattle.recovery.specs.Changes.{IsLastChange}
use Rattle.recovery.specs.Loading.{HasNoText, HaveTexts}
use Rattle.recovery.specs.Notes.{AreNotesOf}
use Rattle.recovery.specs.Putting.{BetweenGroups, IsAsChosen}
use Rattle.recovery.specs.declared.notes.PageNote.{PageNote}

-- it is opened with this header and these keys, and its run is from the one block up to the other
pub record IsOpenedWith (o : StoreOpened) (header : HeldHeader) (keys : List RingEntry) (first stop : ℕ) : Type 0 where
  pub header_is : o.header ≡ header
  pub keys_are : o.keys ≡ keys
  pub first_is : o.view.from ≡ first
  pub stop_is : o.view.end ≡ stop

-- The notes, the LSNs of last changes and the head of a space are those of what is opened, which began at entry.
pub record IsSpaceOf (o : StoreOpened) (entry : List Event) (info : SpaceInfo) (notes : List PageNote) (last : List ℕ) : Type 0 where
  pub has : (p : ℕ) → p < length notes → has_page o.header.spaces info.space p ≡ true
  pub notes_of : AreNotesOf info.space notes entry
  pub last_of : (p : ℕ) → p < length notes → IsLastChange o.view.run info.space p (slice_index_or last p 0)
  pub key_id : info.key_id ≡ key_id_of o.header.spaces info.space
  pub salt : info.salt ≡ salts_of o.contents info.space

-- Between two groups at m, the homes of those of these pages that have a property are as their chosen texts say.
pub record IsRoundDue (o : StoreOpened) (number : ℕ) (entry : List Event) (has : ℕ → Bool) (s from end : ℕ) (m : List Event) : Type 0 where
  pub opened : IsOpenedAt o number entry
  pub between : BetweenGroups o entry m
  pub chosen : (p : ℕ) → from ≤ p → p < end → has p ≡ true → IsAsChosen o m s p

-- The home of one of these pages that have a property is no text of it, and those before it are.
pub record HasRefusedPage (ring : List RingEntry) (algorithm : Algorithm) (info : SpaceInfo) (notes : List PageNote) (has : ℕ → Bool) (from end : ℕ) (why : OpenRefuse) (es : List Event) : Type 0 where
  pub page : ℕ
  pub low : from ≤ page
  pub high : page < end
  pub later : has page ≡ true
  pub before : HaveTexts ring algorithm info notes has from page es
  pub fault : HasNoText ring algorithm info page (shown (Space info.space) page_bytes page es) why

-- a refusal by a page, for whichever reason P, or by the disk
abbrev pub IsByPage : (OpenRefuse → List Event → Type 0) → Past → OpenRefuse → Type 0
IsByPage P past DiskFault = Unit {0}
IsByPage P past OutOfMemory = Unit {0}
IsByPage P past r = At (P r) past

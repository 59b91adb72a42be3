-- Pages whose changes are applied, as they are sealed while a store is opened.
use Rattle.std.specs.Prelude.{◌≡◌, ◌≢◌, ◌⊎◌, ℕ, ◌<◌, ◌≤◌, Bool, true, if◌then◌else◌, List, Option, Some, IfSome, slice_index_or}
use Rattle.disk_model.specs.Does.{IsOn}
use Rattle.disk_model.specs.Event.{Event, reads}
use Rattle.disk_model.specs.Past.{Past}
use Rattle.disk_model.specs.declared.names.FileName.TheVariants.{Double, Log, Space}
use Rattle.page_places.specs.Texts.{page_bytes}
use Rattle.page_pool.specs.Contents.{MayStandAt, plain_in_page}
use Rattle.page_pool.specs.Pages.{PoolState, held_page}
use Rattle.page_text.specs.declared.key.PageKey.{PageKey}
use Rattle.places.specs.Places.{shown}
use Rattle.space_head.specs.declared.space.SpaceInfo.{SpaceInfo}
use Rattle.store_files.specs.Pages.{Head, HasKeyBytes, IsTypedInfo, is_ciphered, is_used, key_at, pages_of, salts_of}
use Rattle.store_image.specs.Recovers.{IsNamed}
use Rattle.store_image.specs.View.{Text, IsChosen}
use Rattle.store_model.specs.declared.contents.PlainPage.{PlainPage}
use Rattle.crash_image.specs.Opened.{StoreOpened, opened_theory}
use Rattle.recovery.specs.Loading.{name_in}
use Rattle.recovery.specs.Putting.{BetweenGroups, IsPageDone, StillDone}

-- The page has changes later than its chosen text, the last of them of this LSN, and this is what it is to hold.
pub record IsSealable (o : StoreOpened) (s p lsn : ℕ) (held : Option PlainPage) : Type 0 where
  pub holds : held ≡ plain_in_page (pages_of o.contents s p)
  pub is_used : is_used (pages_of o.contents s p) ≡ true
  pub stands : MayStandAt p (pages_of o.contents s p)
  pub typed : (info : SpaceInfo) → pages_of o.contents s p ≡ Head info → (info.space ≡ s) × IsTypedInfo info
  pub named : IsNamed (opened_theory o) o.view.run s p lsn
  pub last : (l : ℕ) → IsNamed (opened_theory o) o.view.run s p l → l ≤ lsn
  pub above : (t : Text) → IsChosen o.view s p (Some t) → t.lsn < lsn

-- the version and the key that the pages of a space are sealed under, but for page 0
pub record IsSealedUnder (o : StoreOpened) (s version : ℕ) (key : Option PageKey) : Type 0 where
  pub version_is : version ≡ (if is_ciphered (pages_of o.contents s 0) then o.active else 0)
  pub key_is : key ≡ key_at o.header o.keys (salts_of o.contents) s version
  pub known : IfSome key HasKeyBytes

-- Each page of the range with a property is due, and so is held.
pub record AreSealable (o : StoreOpened) (has : ℕ → Bool) (s : ℕ) (last : List ℕ) (from end : ℕ) (pool : PoolState) : Type 0 where
  pub each : (p : ℕ) → from ≤ p → p < end → has p ≡ true → IsSealable o s p (slice_index_or last p 0) (held_page (name_in s p) pool)

-- Each of them has its sealed text in its home.
pub record AreDone (o : StoreOpened) (has : ℕ → Bool) (s from end : ℕ) (m : List Event) : Type 0 where
  pub each : (p : ℕ) → from ≤ p → p < end → has p ≡ true → IsPageDone o m s p

-- Since b the pages of the range are done, those that were done are still, and nothing is pending; the opening began at entry.
pub record IsRangeApplied (o : StoreOpened) (entry : List Event) (has : ℕ → Bool) (s from end : ℕ) (b m : List Event) : Type 0 where
  pub between : BetweenGroups o entry m
  pub done : AreDone o has s from end m
  pub still : StillDone o b m

-- an event of a group of this space
abbrev pub IsApplyEvent : ℕ → Event → Type 0
IsApplyEvent s e = IsOn Double e ⊎ IsOn (Space s) e

-- the page isn't one of these of the space
abbrev pub IsBeside : ℕ → ℕ → ℕ → ℕ → ℕ → Type 0
IsBeside s from end z p = (z ≢ s) ⊎ ((p < from) ⊎ (end ≤ p))

-- Since b the bytes of each home are as they were, but for those of these pages of the space, and so are those of the log.
pub record LeavesOthers (s from end : ℕ) (b m : List Event) : Type 0 where
  pub homes : (z p : ℕ) → IsBeside s from end z p → shown (Space z) page_bytes p m ≡ shown (Space z) page_bytes p b
  pub log : reads Log m ≡ reads Log b

-- Since the past first they are, and what was told of the disk still is.
pub record LeavesSince (s from end : ℕ) (first now : Past) : Type 0 where
  pub since : (m : List Event) → now ≡ Some m → (b : List Event) × (first ≡ Some b) × LeavesOthers s from end b m
  pub told : (b : List Event) → first ≡ Some b → (m : List Event) × (now ≡ Some m)

-- What reading a page gives: a page in memory, an unused one, or what its home says.
use Rattle.std.specs.Prelude.{◌≡◌, ◌⊎◌, ℕ, ◌-◌, true, false, List, length, MatchOption, Option, Some, None, option_map, Result, Ok, Err}
use Rattle.aes_core.specs.declared.algorithm.Algorithm.{Algorithm}
use Rattle.byte_list.specs.Bytes.{range}
use Rattle.counted_disk.specs.declared.counted.Counted.{Counted}
use Rattle.disk_model.specs.Past.{Past, At}
use Rattle.disk_model.specs.declared.names.FileName.TheVariants.{Space}
use Rattle.key_ring.specs.Ring.{RingEntry}
use Rattle.page_places.specs.Texts.{page_body_at, page_bytes}
use Rattle.page_pool.specs.Changes.{admitted, found_page}
use Rattle.page_pool.specs.Pages.{PoolState, held_page, is_held, plain_page}
use Rattle.places.specs.Places.{shown}
use Rattle.space_head.specs.declared.space.Home.{Home}
use Rattle.space_head.specs.declared.space.Home.TheVariants.{Unused}
use Rattle.space_head.specs.declared.space.SpaceInfo.{SpaceInfo}
use Rattle.store_form.specs.declared.fault.RestFault.{RestFault}
use Rattle.store_model.specs.Fold.{used}
use Rattle.store_model.specs.declared.contents.PlainPage.{PlainPage}
pub use Rattle.session_core.specs.Dirty.{name_of_page}
use Rattle.session_core.specs.Files.{IsStopOf}
use Rattle.session_core.specs.Opening.{IsHomeAnswered, home_fault}
use Rattle.session_core.specs.Session.{Running}
use Rattle.session_core.specs.Spaces.{StoreSpaces, home_in, is_page, space_with_id}
use Rattle.session_core.specs.Stops.{up_or_refused}
use Rattle.session_core.specs.declared.fault.EngineFault.{EngineFault}
use Rattle.session_core.specs.declared.fault.EngineFault.TheVariants.{NoSuchPage}

-- the bytes of a page's home were read, and answered as this
pub record IsHomeRead (ring : List RingEntry) (algorithm : Algorithm) (info : SpaceInfo) (p : ℕ) (past : Past) (left : List ℕ) (result : Result Home RestFault) : Type 0 where
  pub bytes : List ℕ
  pub told : At (λ es. bytes ≡ shown (Space info.space) page_bytes p es) past
  pub opened : IsHomeAnswered ring algorithm info p bytes left result

-- why a page's home isn't read: by its bytes, or since the disk was stopped in the call
abbrev pub IsFetchFault : {D : Type 0} → List RingEntry → Algorithm → SpaceInfo → ℕ → Past → Counted D → List ℕ → EngineFault → Type 0
IsFetchFault ring algorithm info p past disk left e = MatchOption (home_fault e) (IsStopOf disk e) (λ f. (disk.stop ≡ None) × IsHomeRead ring algorithm info p past left (Err f))

-- What reading a page from its home answers, and what is left: its plain page, or the fault.
abbrev pub FetchesPage : {D : Type 0} → List RingEntry → Algorithm → SpaceInfo → ℕ → Past → Counted D → List ℕ → Result (Unit {0}) EngineFault → Type 0
FetchesPage ring algorithm info p past disk left (Ok done) = (home : Home) × IsHomeRead ring algorithm info p past left (Ok home)
FetchesPage ring algorithm info p past disk left (Err e) = IsFetchFault ring algorithm info p past disk left e

-- The page that a session reads: the one that it holds; else none, where its home is unused; else the plain page of its home.
pub data IsPageOf (ring : List RingEntry) (store : StoreSpaces) (pool : PoolState) (past : Past) (s p : ℕ) : Option PlainPage → Type 0 where
  Held : (page : PlainPage) → held_page (name_of_page s p) pool ≡ Some page → IsPageOf ring store pool past s p (Some page)
  NotUsed : is_held (name_of_page s p) pool ≡ false → home_in store s p ≡ Unused → IsPageOf ring store pool past s p None
  FromHome : (info : SpaceInfo) (left : List ℕ) (was : Home) → is_held (name_of_page s p) pool ≡ false → (home_in store s p ≡ Unused → ⊥) → space_with_id store.spaces s ≡ Some info
      → IsHomeRead ring store.header.algorithm info p past left (Ok was) → IsPageOf ring store pool past s p (Some (plain_page left))

-- Why a page isn't loaded: it isn't held and its home isn't unused, and the home isn't read.
pub record IsLoadFault {D : Type 0} (ring : List RingEntry) (store : StoreSpaces) (pool : PoolState) (past : Past) (s p : ℕ) (disk : Counted D) (e : EngineFault) : Type 0 where
  pub info : SpaceInfo
  pub left : List ℕ
  pub apart : is_held (name_of_page s p) pool ≡ false
  pub in_use : home_in store s p ≡ Unused → ⊥
  pub is : space_with_id store.spaces s ≡ Some info
  pub fault : IsFetchFault ring store.header.algorithm info p past disk left e

-- What is held behind it: a clean page that was held is the one that was used last, and the page that was read from its home may be held.
abbrev pub IsPoolAfter : List RingEntry → StoreSpaces → Past → ℕ → ℕ → PoolState → PoolState → Type 0
IsPoolAfter ring store past s p old new =
    (new ≡ found_page (name_of_page s p) old)
    ⊎ ((page : PlainPage) × (is_held (name_of_page s p) old ≡ false) × IsPageOf ring store old past s p (Some page)
    × (new ≡ record { dirty = old.dirty; clean = admitted (name_of_page s p) page (found_page (name_of_page s p) old).clean }))

-- the bytes of a page's body, by their place in the page; an unused page has zero bytes
abbrev pub part_of_page : ℕ → ℕ → Option PlainPage → List ℕ
part_of_page at size page = range (at - page_body_at) size (used page).body

-- the page, with the bytes of it from a place on
pub record ReadsPart {D : Type 0} (past : D → Past) (r : Running D) (s p at : ℕ) (bytes : List ℕ) : Type 0 where
  pub page : Option PlainPage
  pub is : IsPageOf r.ring r.store r.pool (past r.disk.disk) s p page
  pub part : bytes ≡ part_of_page at (length bytes) page

-- the page, with its type
pub record ReadsKind {D : Type 0} (past : D → Past) (r : Running D) (s p : ℕ) (kind : Option ℕ) : Type 0 where
  pub page : Option PlainPage
  pub is : IsPageOf r.ring r.store r.pool (past r.disk.disk) s p page
  pub kind_is : kind ≡ option_map (λ x. x.kind) page

-- Why a page isn't read, in this order, where it has to lie within R: the session was stopped; the store hasn't the page, or it is page 0; what is asked for isn't there; or the page isn't loaded.
pub data IsReadRefusal {D : Type 0} (past : D → Past) (R : Type 0) (unfit : EngineFault) (old new : Running D) (s p : ℕ) : EngineFault → Type 0 where
  Stopped : (e : EngineFault) → up_or_refused old.disk.stop old.disk.turns ≡ Err e → new ≡ old → IsReadRefusal past R unfit old new s p e
  Missing : old.disk.stop ≡ None → is_page old.store.spaces s p ≡ false → new ≡ old → IsReadRefusal past R unfit old new s p (NoSuchPage s p)
  Unfit : old.disk.stop ≡ None → is_page old.store.spaces s p ≡ true → (R → ⊥) → new ≡ old → IsReadRefusal past R unfit old new s p unfit
  Unread : (e : EngineFault) → old.disk.stop ≡ None → is_page old.store.spaces s p ≡ true → R → IsLoadFault old.ring old.store old.pool (past old.disk.disk) s p new.disk e → IsReadRefusal past R unfit old new s p e

-- What a session is after it read a page: its disk was only read, and its clean pages may be others.
pub record OnlyReads {D : Type 0} (past : D → Past) (s p : ℕ) (old new : Running D) : Type 0 where
  pub same : new ≡ record old { disk = new.disk; pool = new.pool }
  pub pool : (new.pool ≡ old.pool) ⊎ IsPoolAfter old.ring old.store (past old.disk.disk) s p old.pool new.pool
  pub past_is : past new.disk.disk ≡ past old.disk.disk

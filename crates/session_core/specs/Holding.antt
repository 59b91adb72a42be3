-- The pages that changes name are looked for: those that aren't held are read from their homes, and held.
use Rattle.std.specs.Prelude.{◌≡◌, ◌≢◌, ◌⊎◌, ℕ, true, false, List, Some, None, Ok}
use Rattle.byte_list.specs.Fields.{be16_at}
use Rattle.counted_disk.specs.declared.counted.Counted.{Counted}
use Rattle.disk_model.specs.Past.{Past}
use Rattle.key_ring.specs.Ring.{RingEntry}
use Rattle.page_places.specs.Texts.{page_type_at}
use Rattle.page_pool.specs.Changes.{admitted, found_page, name_page}
use Rattle.page_pool.specs.Pages.{PoolState, held_page, is_dirty, is_held, plain_page}
use Rattle.page_pool.specs.declared.names.PageName.{PageName}
use Rattle.page_text.specs.declared.fault.OpenFault.TheVariants.{WrongKind}
use Rattle.redo_text.specs.declared.change.Change.{Change}
use Rattle.space_head.specs.declared.space.Home.{Home}
use Rattle.space_head.specs.declared.space.Home.TheVariants.{Unused}
use Rattle.space_head.specs.declared.space.SpaceInfo.{SpaceInfo}
use Rattle.store_model.specs.declared.contents.PlainPage.{PlainPage}
use Rattle.session_core.specs.Reading.{IsFetchFault, IsHomeRead}
use Rattle.session_core.specs.Spaces.{StoreSpaces, home_in, space_with_id}
use Rattle.session_core.specs.declared.fault.EngineFault.{EngineFault}
use Rattle.session_core.specs.declared.fault.EngineFault.TheVariants.{Damaged, OutOfMemory}

-- a page is held, or it isn't page 0 and is unused
abbrev pub IsAtHand : StoreSpaces → PageName → PoolState → Type 0
IsAtHand store name pool = (is_held name pool ≡ true) ⊎ ((name.page ≢ 0) × (home_in store name.space name.page ≡ Unused))

-- the home of a page isn't known as unused, unless it is page 0
abbrev pub IsHomeInUse : StoreSpaces → PageName → Type 0
IsHomeInUse store name = name.page ≢ 0 → home_in store name.space name.page ≡ Unused → ⊥

-- all pages that changes name are
abbrev pub AreAtHand : StoreSpaces → List Change → PoolState → Type 0
AreAtHand store cs pool = (name : PageName) → name_page cs name ≡ true → IsAtHand store name pool

module _ (ring : List RingEntry) (store : StoreSpaces) (past : Past) where
  -- The home of a page was read, and taken apart; page 0 has type 8.
  pub record IsTakenFromHome (name : PageName) (page : PlainPage) : Type 0 where
    pub info : SpaceInfo
    pub left : List ℕ
    pub was : Home
    pub is : space_with_id store.spaces name.space ≡ Some info
    pub read : IsHomeRead ring store.header.algorithm info name.page past left (Ok was)
    pub gives : page ≡ plain_page left
    pub head : name.page ≡ 0 → page.kind ≡ 8

  -- What is held once pages were looked for. The dirty pages are the same, and a page that wasn't held before is one of those that changes name, as its home, which is in use, gives it.
  pub record LooksForPages (cs : List Change) (old new : PoolState) : Type 0 where
    pub dirty : new.dirty ≡ old.dirty
    pub pages : (name : PageName) (page : PlainPage) → held_page name new ≡ Some page
        → (held_page name old ≡ Some page) ⊎ ((name_page cs name ≡ true) × (is_dirty name old.dirty ≡ false) × IsTakenFromHome name page × IsHomeInUse store name)

  -- What is held once all were looked for.
  pub record HoldsNamed (cs : List Change) (old new : PoolState) : Type 0 where
    pub looks : LooksForPages cs old new
    pub named : AreAtHand store cs new

  -- What looking for a page leaves: it is held and was used last, or it is unused, or it was taken from its home and is held from then on.
  pub data MeetsPage (name : PageName) (old new : PoolState) : Type 0 where
    Was : is_held name old ≡ true → new ≡ found_page name old → MeetsPage name old new
    NotUsed : is_held name old ≡ false → name.page ≢ 0 → home_in store name.space name.page ≡ Unused → new ≡ found_page name old → MeetsPage name old new
    Taken : (page : PlainPage) → is_held name old ≡ false → (IsAtHand store name old → ⊥) → IsTakenFromHome name page → new ≡ record { dirty = old.dirty; clean = admitted name page (found_page name old).clean } → MeetsPage name old new

  module _ {D : Type 0} (name : PageName) (disk : Counted D) where
    -- Why a page isn't taken from its home: the home isn't read, or gives a page 0 of another type than 8.
    pub data IsTakeFault : EngineFault → Type 0 where
      Unread : (info : SpaceInfo) (left : List ℕ) (e : EngineFault) → space_with_id store.spaces name.space ≡ Some info → IsFetchFault ring store.header.algorithm info name.page past disk left e → IsTakeFault e
      NoHead : (info : SpaceInfo) (left : List ℕ) (was : Home) → disk.stop ≡ None → name.page ≡ 0 → space_with_id store.spaces name.space ≡ Some info → IsHomeRead ring store.header.algorithm info name.page past left (Ok was)
          → be16_at left page_type_at ≢ 8 → IsTakeFault (Damaged name.space 0 (WrongKind (be16_at left page_type_at) 0))

    -- Why it isn't held: it isn't at hand, and isn't taken from its home, or the machine has no memory for it.
    pub record IsHoldFault (pool : PoolState) (e : EngineFault) : Type 0 where
      pub apart : IsAtHand store name pool → ⊥
      pub why : IsTakeFault e ⊎ ((disk.stop ≡ None) × (e ≡ OutOfMemory))

  -- why the pages that changes name aren't all held: one of them isn't, once others were looked for
  pub record IsHoldRefusal {D : Type 0} (cs : List Change) (disk : Counted D) (old : PoolState) (e : EngineFault) : Type 0 where
    pub name : PageName
    pub pool : PoolState
    pub named : name_page cs name ≡ true
    pub looks : LooksForPages cs old pool
    pub fault : IsHoldFault name disk pool e

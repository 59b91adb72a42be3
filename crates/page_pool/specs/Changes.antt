-- What the calls of a pool change.
use Rattle.std.specs.Prelude.{◌≡◌, ℕ, zero, suc, ◌+◌, ◌<◌, ◌≤◌, Bool, false, nat_eq, ◌||◌, if◌then◌else◌, List, [], ◌∷◌, length, take, Option, Some}
use Rattle.std.specs.Int.{to_be_bytes, w32}
use Rattle.std.specs.Map.{lookup, remove_entry}
use Rattle.lru.specs.LruCache.{promoted}
use Rattle.redo_text.specs.declared.change.Change.{Change}
use Rattle.redo_text.specs.declared.change.Change.TheVariants.{Put, Kind, Touch, Floor, Encrypt}
use Rattle.page_places.specs.Texts.{page_bytes}
use Rattle.space_head.specs.Sizes.{record_place}
use Rattle.space_head.specs.declared.record.TheConstants.{RECORD_MINIMUM, RECORD_MODE, RECORD_TYPE}
pub use Rattle.store_model.specs.Fold.{body_written, kind_set}
use Rattle.store_model.specs.Fold.{used, plain_changed}
use Rattle.store_model.specs.declared.contents.PlainPage.{PlainPage}
use Rattle.page_pool.specs.declared.names.DirtyPage.{DirtyPage}
use Rattle.page_pool.specs.declared.names.PageName.{PageName}
use Rattle.page_pool.specs.declared.fault.PoolFault.{PoolFault}
use Rattle.page_pool.specs.declared.fault.PoolFault.TheVariants.{Full, OutOfMemory}
use Rattle.page_pool.specs.Pages.{DirtyList, PoolState, entered, held_page, is_dirty, is_held, is_name, is_named, place_of, without}

-- The page as a change of it leaves it, by the fold's words. In page 0 a floor is the least version of the crypt record, and a ciphered space has the record's type 1 and its mode 1.
abbrev pub page_changed_by : Change → PlainPage → PlainPage
page_changed_by (Put s page at bytes) p = plain_changed (Put s page at bytes) p
page_changed_by (Kind s page kind) p = plain_changed (Kind s page kind) p
page_changed_by (Touch s page) p = plain_changed (Touch s page) p
page_changed_by (Floor s version) p = body_written (record_place page_bytes + RECORD_MINIMUM) (to_be_bytes w32 version) p
page_changed_by (Encrypt s) p = body_written (record_place page_bytes + RECORD_MODE) (1 ∷ []) (body_written (record_place page_bytes + RECORD_TYPE) (1 ∷ []) p)

-- the page that a change names, page 0 for a change of the space itself
abbrev pub page_of_change : Change → PageName
page_of_change (Put s page at bytes) = record { space = s; page = page }
page_of_change (Kind s page kind) = record { space = s; page = page }
page_of_change (Touch s page) = record { space = s; page = page }
page_of_change (Floor s version) = record { space = s; page = 0 }
page_of_change (Encrypt s) = record { space = s; page = 0 }

-- ---- a change

-- the dirty pages with this LSN at the page of a name
abbrev pub stamped : PageName → ℕ → List DirtyPage → List DirtyPage
stamped name lsn [] = []
stamped name lsn (d ∷ ds) = if is_named name d then (record { space = d.space; page = d.page; first = d.first; lsn = lsn }) ∷ ds else d ∷ stamped name lsn ds

-- one of the pages changed
abbrev pub changed_at : ℕ → (PlainPage → PlainPage) → List PlainPage → List PlainPage
changed_at i f [] = []
changed_at zero f (p ∷ ps) = f p ∷ ps
changed_at (suc i) f (p ∷ ps) = p ∷ changed_at i f ps

-- a page that is dirty is changed, and this is its LSN; its first block stays
abbrev pub changed_again : PageName → ℕ → Change → DirtyList → DirtyList
changed_again name lsn c list = record { entries = stamped name lsn list.entries; pages = changed_at (place_of name list.entries) (page_changed_by c) list.pages }

-- a page that wasn't dirty is entered with its first block
abbrev pub made_dirty : PageName → ℕ → ℕ → PlainPage → DirtyList → DirtyList
made_dirty name lsn first page list = entered (record { space = name.space; page = name.page; first = first; lsn = lsn }) page list

-- A pool after one change. The page is dirty; if it wasn't, it is the clean page that was held, which is clean no more, or one that nothing was written to.
abbrev pub pool_changed : ℕ → ℕ → Change → PoolState → PoolState
pool_changed lsn first c s = let name = page_of_change c in
    if is_dirty name s.dirty then record { dirty = changed_again name lsn c s.dirty; clean = s.clean }
    else record { dirty = made_dirty name lsn first (page_changed_by c (used (lookup (is_name name) s.clean))) s.dirty; clean = remove_entry (is_name name) s.clean }

-- and after those of a mini-transaction, in order
abbrev pub pool_after : ℕ → ℕ → List Change → PoolState → PoolState
pool_after lsn first [] s = s
pool_after lsn first (c ∷ cs) s = pool_after lsn first cs (pool_changed lsn first c s)

-- what a page holds after changes: those of them that name it are made, in order
abbrev pub held_after : List Change → PageName → Option PlainPage → Option PlainPage
held_after [] name o = o
held_after (c ∷ cs) name o = held_after cs name (if is_name (page_of_change c) name then Some (page_changed_by c (used o)) else o)

-- one of the changes names this page
abbrev pub name_page : List Change → PageName → Bool
name_page [] name = false
name_page (c ∷ cs) name = is_name name (page_of_change c) || name_page cs name

-- how many pages without a property the changes name, each counted once
abbrev pub count_without : (PageName → Bool) → List Change → ℕ
count_without has [] = 0
count_without has (c ∷ cs) = (if has (page_of_change c) || name_page cs (page_of_change c) then 0 else 1) + count_without has cs

-- the pages named that aren't dirty
abbrev pub fresh_pages : List Change → DirtyList → ℕ
fresh_pages cs list = count_without (λ name. is_dirty name list) cs

-- the pages named that aren't held
abbrev pub unused_pages : List Change → PoolState → ℕ
unused_pages cs s = count_without (λ name. is_held name s) cs

-- there is room for the changes among the dirty pages, and so many spare pages are enough
pub record HasPoolRoom (cs : List Change) (s : PoolState) (spare : ℕ) : Type 0 where
  pub dirty : length s.dirty.entries + fresh_pages cs s.dirty ≤ 256
  pub spares : unused_pages cs s ≤ spare

-- the page of a name is dirty, beside those that were, and held, beside those that were
pub record HasNamed (name : PageName) (old new : PoolState) : Type 0 where
  pub dirty : (other : PageName) → is_dirty other new.dirty ≡ (is_name name other || is_dirty other old.dirty)
  pub held : (other : PageName) → is_held other new ≡ (is_name name other || is_held other old)
  pub count : length new.dirty.entries ≡ length old.dirty.entries + (if is_dirty name old.dirty then 0 else 1)

-- so many more aren't dirty that there is no room
abbrev pub IsFull : ℕ → DirtyList → PoolFault → Type 0
IsFull fresh list (Full dirty more) = (dirty ≡ length list.entries) × (more ≡ fresh) × (256 < dirty + more)
IsFull fresh list OutOfMemory = ⊥

-- Where the changes aren't made: there is no room, or there is and a page that isn't held needs memory.
abbrev pub IsPoolRefusal : List Change → PoolState → PoolFault → Type 0
IsPoolRefusal cs s (Full dirty fresh) = (dirty ≡ length s.dirty.entries) × (fresh ≡ fresh_pages cs s.dirty) × (256 < dirty + fresh)
IsPoolRefusal cs s OutOfMemory = (length s.dirty.entries + fresh_pages cs s.dirty < 257) × (0 < unused_pages cs s)

-- ---- the other calls

-- a page is held more, as the first of the clean ones, and the last of 64 goes
abbrev pub admitted : PageName → PlainPage → List (PageName × PlainPage) → List (PageName × PlainPage)
admitted name page clean = (name, page) ∷ take 63 clean

-- a clean page that is found comes first
abbrev pub found_page : PageName → PoolState → PoolState
found_page name s = record { dirty = s.dirty; clean = promoted (is_name name) s.clean }

-- the page is dirty at this LSN
abbrev pub is_dirty_at : PageName → ℕ → List DirtyPage → Bool
is_dirty_at name lsn [] = false
is_dirty_at name lsn (d ∷ ds) = if is_named name d then nat_eq d.lsn lsn else is_dirty_at name lsn ds

-- A page that is dirty at this LSN is dirty no more, and is the first of the clean ones; else nothing changes.
abbrev pub cleaned : PageName → ℕ → PoolState → PoolState
cleaned name lsn s =
    if is_dirty_at name lsn s.dirty.entries then record { dirty = without (place_of name s.dirty.entries) s.dirty; clean = admitted name (used (held_page name s)) s.clean }
    else s

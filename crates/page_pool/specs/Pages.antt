-- Pages by name, and what a pool holds of them.
use Rattle.std.specs.Prelude.{◌≡◌, ℕ, ◌≤◌, Bool, false, nat_eq, nat_lt, ◌&&◌, ◌||◌, if◌then◌else◌, List, [], ◌∷◌, length, Contains, is_some, slice_get, Option}
use Rattle.std.specs.List.{IsDistinct, insert, remove, list_any, position_or_len, prefix_len}
use Rattle.std.specs.Map.{keys_of, lookup}
use Rattle.byte_list.specs.Bytes.{range}
use Rattle.byte_list.specs.Fields.{be16_at}
use Rattle.store_model.specs.declared.contents.PlainPage.{PlainPage}
use Rattle.page_pool.specs.declared.names.DirtyPage.{DirtyPage}
use Rattle.page_pool.specs.declared.names.PageName.{PageName}
use Rattle.page_places.specs.Texts.{page_type_at, page_body_at, page_body_bytes}

-- the plain page in a page's bytes: its type and its body
unfoldable pub plain_page : List ℕ → PlainPage
plain_page bytes = record { kind = be16_at bytes page_type_at; body = range page_body_at page_body_bytes bytes }

-- two names of one page
abbrev pub is_name : PageName → PageName → Bool
is_name one other = nat_eq one.space other.space && nat_eq one.page other.page

-- the dirty page is the one of this name
abbrev pub is_named : PageName → DirtyPage → Bool
is_named name d = nat_eq d.space name.space && nat_eq d.page name.page

-- by first block, then by space, then by page
abbrev pub comes_before : DirtyPage → DirtyPage → Bool
comes_before d e = nat_lt d.first e.first || (nat_eq d.first e.first && (nat_lt d.space e.space || (nat_eq d.space e.space && nat_lt d.page e.page)))

-- none comes before one that stands ahead of it
abbrev pub AreInOrder : List DirtyPage → Type 0
AreInOrder [] = Unit {0}
AreInOrder (d ∷ ds) = (list_any (λ e. comes_before e d) ds ≡ false) × AreInOrder ds

abbrev pub name_of_dirty : DirtyPage → PageName
name_of_dirty d = record { space = d.space; page = d.page }

-- none of them is the same page as another
abbrev pub AreNamedOnce : List DirtyPage → Type 0
AreNamedOnce [] = Unit {0}
AreNamedOnce (d ∷ ds) = (list_any (is_named (name_of_dirty d)) ds ≡ false) × AreNamedOnce ds

-- the place of a page, the number of pages where it isn't there
abbrev pub place_of : PageName → List DirtyPage → ℕ
place_of name ds = position_or_len (is_named name) ds

-- the place at which a page is entered
abbrev pub entry_place : DirtyPage → List DirtyPage → ℕ
entry_place d ds = prefix_len (λ e. comes_before e d) ds

-- the dirty pages, and at the same place what each of them holds
pub record DirtyList : Type 0 where
  pub entries : List DirtyPage
  pub pages : List PlainPage

-- what a pool holds; the clean pages stand the most recently used first
pub record PoolState : Type 0 where
  pub dirty : DirtyList
  pub clean : List (PageName × PlainPage)

abbrev pub is_dirty : PageName → DirtyList → Bool
is_dirty name list = list_any (is_named name) list.entries

-- what the page of a name holds, if it is held
abbrev pub held_page : PageName → PoolState → Option PlainPage
held_page name s = if is_dirty name s.dirty then slice_get s.dirty.pages (place_of name s.dirty.entries) else lookup (is_name name) s.clean

-- one page more is dirty
abbrev pub entered : DirtyPage → PlainPage → DirtyList → DirtyList
entered d page list = record { entries = insert list.entries (entry_place d list.entries) d; pages = insert list.pages (entry_place d list.entries) page }

-- the page at a place is dirty no more
abbrev pub without : ℕ → DirtyList → DirtyList
without i list = record { entries = remove list.entries i; pages = remove list.pages i }

-- What holds of dirty pages.
pub record IsDirtyList (list : DirtyList) : Type 0 where
  pub one_each : length list.pages ≡ length list.entries
  pub most : length list.entries ≤ 256
  pub in_order : AreInOrder list.entries
  pub apart : AreNamedOnce list.entries

-- a page is held, dirty or clean
abbrev pub is_held : PageName → PoolState → Bool
is_held name s = is_dirty name s.dirty || is_some (lookup (is_name name) s.clean)

-- What holds of clean pages: none of them is the same page as another.
pub record IsCleanList (clean : List (PageName × PlainPage)) : Type 0 where
  pub most : length clean ≤ 64
  pub apart : IsDistinct is_name (keys_of clean)

-- no clean page is dirty
abbrev pub AreClean : DirtyList → List (PageName × PlainPage) → Type 0
AreClean list clean = (e : PageName × PlainPage) → Contains clean e → is_dirty e.0 list ≡ false

-- What holds of every pool.
pub record IsPool (s : PoolState) : Type 0 where
  pub dirty : IsDirtyList s.dirty
  pub clean : IsCleanList s.clean
  pub apart : AreClean s.dirty s.clean

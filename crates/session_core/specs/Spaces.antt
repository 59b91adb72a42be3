-- The spaces of a session's store, and what is known of the homes of their pages.
use Rattle.std.specs.Prelude.{◌≡◌, ℕ, ◌≤◌, Bool, true, false, nat_eq, nat_lt, ◌&&◌, not, if◌then◌else◌, List, [], ◌∷◌, length, slice_index_or, Option, Some, None}
use Rattle.space_head.specs.declared.space.SpaceInfo.{SpaceInfo}
use Rattle.space_head.specs.declared.space.Home.{Home}
use Rattle.space_head.specs.declared.space.Home.TheVariants.{Unused}
use Rattle.store_files.specs.Header.{HeldHeader, HeldSpace, are_allowed, most_spaces}
use Rattle.store_form.specs.Rest.{homes_of}
use Rattle.store_form.specs.declared.header.Header.{Header}

-- the space of an id
abbrev pub space_with_id : List SpaceInfo → ℕ → Option SpaceInfo
space_with_id [] s = None
space_with_id (x ∷ xs) s = if nat_eq x.space s then Some x else space_with_id xs s

-- no space has a floor above this version
abbrev pub NoneAbove : ℕ → List SpaceInfo → Type 0
NoneAbove version [] = Unit {0}
NoneAbove version (x ∷ xs) = (x.floor ≤ version) × NoneAbove version xs

-- the store has the page, and it isn't page 0
abbrev pub is_page : List SpaceInfo → ℕ → ℕ → Bool
is_page [] s p = false
is_page (x ∷ xs) s p = if nat_eq x.space s then (not (nat_eq p 0) && nat_lt p x.pages) else is_page xs s p

-- for each space of the header one space of its id, pages and key id, and one list of what is known of each page
abbrev pub HaveLists : List HeldSpace → List SpaceInfo → List (List Home) → Type 0
HaveLists [] [] [] = Unit {0}
HaveLists [] [] (o ∷ os) = ⊥
HaveLists [] (s ∷ ss) os = ⊥
HaveLists (h ∷ hs) [] os = ⊥
HaveLists (h ∷ hs) (s ∷ ss) [] = ⊥
HaveLists (h ∷ hs) (s ∷ ss) (o ∷ os) = (s.space ≡ h.space) × (s.pages ≡ h.pages) × (s.key_id ≡ h.key_id) × (length o ≡ h.pages) × HaveLists hs ss os

-- The spaces of a store as contracts see them: the header, the spaces in its order, and what is known of each page; a page that was changed since it was written is dirty there.
pub record StoreSpaces : Type 0 where
  pub header : HeldHeader
  pub spaces : List SpaceInfo
  pub homes : List (List Home)

-- they go together, and are within the limits of a store
pub record AreSpaces (s : StoreSpaces) : Type 0 where
  pub allowed : are_allowed s.header ≡ true
  pub have : HaveLists s.header.spaces s.spaces s.homes

-- the header that is held is of format 2 and counts no more spaces than it has places for, and the spaces go together
pub record AreHeldSpaces (header : Header) (s : StoreSpaces) : Type 0 where
  pub format : header.format ≡ 2
  pub count : header.count ≤ most_spaces
  pub spaces : AreSpaces s

-- what is known of a page, unused past the end
abbrev pub home_in : StoreSpaces → ℕ → ℕ → Home
home_in store s p = slice_index_or (homes_of store.spaces store.homes s) p Unused

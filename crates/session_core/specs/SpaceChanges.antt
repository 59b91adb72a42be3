-- What the changes of a mini-transaction make of the spaces of a store, and of what is known of their pages.
use Rattle.std.specs.Prelude.{ℕ, nat_eq, if◌then◌else◌, List, [], ◌∷◌, slice_set}
use Rattle.page_pool.specs.Changes.{page_of_change}
use Rattle.redo_text.specs.declared.change.Change.{Change}
use Rattle.redo_text.specs.declared.change.Change.TheVariants.{Put, Kind, Touch, Floor, Encrypt}
use Rattle.space_head.specs.declared.space.Home.{Home}
use Rattle.space_head.specs.declared.space.Home.TheVariants.{Dirty}
use Rattle.space_head.specs.declared.space.SpaceInfo.{SpaceInfo}
use Rattle.store_model.specs.Fold.{floor_set, made_ciphered}
use Rattle.session_core.specs.Spaces.{StoreSpaces}

-- the spaces with the one of an id changed
abbrev pub with_space : List SpaceInfo → ℕ → (SpaceInfo → SpaceInfo) → List SpaceInfo
with_space [] s f = []
with_space (x ∷ xs) s f = if nat_eq x.space s then f x ∷ xs else x ∷ with_space xs s f

-- what is known of pages, with this known of a page of the space of an id
abbrev pub with_home : List SpaceInfo → List (List Home) → ℕ → ℕ → Home → List (List Home)
with_home [] os s p home = os
with_home (x ∷ xs) [] s p home = []
with_home (x ∷ xs) (o ∷ os) s p home = if nat_eq x.space s then slice_set o p home ∷ os else o ∷ with_home xs os s p home

-- a change may give a space another floor, or make it a ciphered one
abbrev pub spaces_told : Change → List SpaceInfo → List SpaceInfo
spaces_told (Put s page at bytes) spaces = spaces
spaces_told (Kind s page kind) spaces = spaces
spaces_told (Touch s page) spaces = spaces
spaces_told (Floor s version) spaces = with_space spaces s (floor_set version)
spaces_told (Encrypt s) spaces = with_space spaces s made_ciphered

-- and the page that it names is dirty from then on
abbrev pub spaces_changed : Change → StoreSpaces → StoreSpaces
spaces_changed c store = record {
  header = store.header;
  spaces = spaces_told c store.spaces;
  homes = with_home store.spaces store.homes (page_of_change c).space (page_of_change c).page Dirty;
}

-- the spaces after changes, in order
abbrev pub spaces_after : List Change → StoreSpaces → StoreSpaces
spaces_after [] store = store
spaces_after (c ∷ cs) store = spaces_after cs (spaces_changed c store)

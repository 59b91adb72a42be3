-- A space among those of a header.
use Rattle.std.specs.Prelude.{◌≡◌, ℕ, ◌+◌, ◌<◌, List, ◌∷◌, drop}
use Rattle.space_head.specs.declared.space.SpaceInfo.{SpaceInfo}
use Rattle.store_files.specs.Header.{HeldSpace}

-- a space of the header, and its place among them
pub record IsSpaceAt (spaces : List HeldSpace) (h : HeldSpace) : Type 0 where
  pub index : ℕ
  pub is : drop index spaces ≡ h ∷ drop (index + 1) spaces

-- page p of the space of id s is one of the store's
pub record IsPageAt (spaces : List HeldSpace) (s p : ℕ) : Type 0 where
  pub space : HeldSpace
  pub named : IsSpaceAt spaces space
  pub id : s ≡ space.space
  pub within : p < space.pages

-- a head says what the header says of its space
pub record IsHeaderInfo (h : HeldSpace) (info : SpaceInfo) : Type 0 where
  pub space : info.space ≡ h.space
  pub size : info.pages ≡ h.pages
  pub key_id : info.key_id ≡ h.key_id

-- Spaces as a store is made with them.
use Rattle.std.specs.Prelude.{◌≡◌, ℕ, ◌≤◌, false, nat_eq, List, [], ◌∷◌}
use Rattle.aes_core.specs.Cipher.{AreBytes}
use Rattle.space_head.specs.declared.space.SpaceInfo.{SpaceInfo}
use Rattle.store_files.specs.Header.{HeldHeader, HeldSpace, IsWritableHeader}
use Rattle.store_files.specs.Pages.{IsTypedInfo}

-- a space with numbers of their widths and a salt of bytes
pub record IsMadeInfo (info : SpaceInfo) : Type 0 where
  pub typed : IsTypedInfo info
  pub salt : AreBytes info.salt

abbrev pub AreMadeInfos : List SpaceInfo → Type 0
AreMadeInfos [] = Unit {0}
AreMadeInfos (s ∷ ss) = IsMadeInfo s × AreMadeInfos ss

-- the spaces of a header, with the numbers and salts that they are made with
abbrev pub AreMadeSpaces : List HeldSpace → List SpaceInfo → Type 0
AreMadeSpaces [] [] = Unit {0}
AreMadeSpaces [] (s ∷ ss) = ⊥
AreMadeSpaces (h ∷ hs) [] = ⊥
AreMadeSpaces (h ∷ hs) (s ∷ ss) = (s.space ≡ h.space) × (s.pages ≡ h.pages) × (s.key_id ≡ h.key_id) × (2 ≤ s.pages) × IsMadeInfo s × AreMadeSpaces hs ss

-- none of these has the id
abbrev pub HasNotId : ℕ → List SpaceInfo → Type 0
HasNotId id [] = Unit {0}
HasNotId id (s ∷ ss) = (nat_eq id s.space ≡ false) × (nat_eq s.space id ≡ false) × HasNotId id ss

-- no two of them have one id
abbrev pub DifferInId : List SpaceInfo → Type 0
DifferInId [] = Unit {0}
DifferInId (s ∷ ss) = HasNotId s.space ss × DifferInId ss

-- a header and spaces that a store can be made with
pub record CanBeMade (header : HeldHeader) (spaces : List SpaceInfo) : Type 0 where
  pub writable : IsWritableHeader header
  pub spaces_are : AreMadeSpaces header.spaces spaces
  pub made : AreMadeInfos spaces
  pub differ : DifferInId spaces

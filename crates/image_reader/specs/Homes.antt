-- Whether each home is right by itself: no text of another page.
use Rattle.std.specs.Prelude.{◌≡◌, ℕ, ◌<◌, List, [], ◌∷◌, take}
use Rattle.places.specs.Places.{place}
use Rattle.page_places.specs.Placed.{IsPlaced}
use Rattle.page_places.specs.Texts.{page_bytes}
use Rattle.store_files.specs.Header.{HeldSpace}
use Rattle.image_reader.specs.Files.{ImageFiles, space_bytes}
use Rattle.image_reader.specs.HeaderSpaces.{IsSpaceAt}
use Rattle.image_reader.specs.declared.refusal.Refusal.{Refusal}
use Rattle.image_reader.specs.declared.refusal.Refusal.TheVariants.{Mixed}

-- each of the first n homes of a space
abbrev pub AreRightBelow : List ℕ → ℕ → Type 0
AreRightBelow bytes n = (p : ℕ) → p < n → IsPlaced p (place page_bytes p bytes)

-- each home of these spaces
abbrev pub AreHomesRight : ImageFiles → List HeldSpace → Type 0
AreHomesRight files [] = Unit {0}
AreHomesRight files (h ∷ hs) = AreRightBelow (space_bytes files.spaces h.space) h.pages × AreHomesRight files hs

-- the first home of a space that has the text of another page
pub record IsFirstMixed (bytes : List ℕ) (s pages : ℕ) (r : Refusal) : Type 0 where
  pub page : ℕ
  pub within : page < pages
  pub before : AreRightBelow bytes page
  pub other : IsPlaced page (place page_bytes page bytes) → ⊥
  pub is : r ≡ Mixed s page

-- of these spaces
pub record HasHomeFault (files : ImageFiles) (spaces : List HeldSpace) (r : Refusal) : Type 0 where
  pub space : HeldSpace
  pub named : IsSpaceAt spaces space
  pub before : AreHomesRight files (take named.index spaces)
  pub fault : IsFirstMixed (space_bytes files.spaces space.space) space.space space.pages r

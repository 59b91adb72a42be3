-- The keys that an image needs, as a list of pairs of an id and a version.
use Rattle.std.specs.Prelude.{◌≡◌, ◌≢◌, ◌⊎◌, ℕ, ◌+◌, ◌<◌, ◌≤◌, List, ◌∷◌, drop, length, slice_index_or, Some, Contains}
use Rattle.disk_model.specs.Image.{Image}
use Rattle.places.specs.Places.{place}
use Rattle.redo_text.specs.Reading.{block_version}
use Rattle.redo_text.specs.declared.change.Change.{Change}
use Rattle.store_image.specs.Places.{LogView}
use Rattle.store_image.specs.View.{Text, IsChosen, IsLive, slot_count}
use Rattle.store_files.specs.Header.{HeldHeader, HeldSpace}
use Rattle.store_files.specs.Run.{block_at}
use Rattle.crash_image.specs.Stands.{Named}
use Rattle.image_pages.specs.Choosing.{page_view, no_log}
use Rattle.image_reader.specs.Files.{ImageFiles, space_bytes}
use Rattle.page_places.specs.Texts.{page_bytes}

-- no pair stands at two places
abbrev pub AreOnce : List (ℕ × ℕ) → Type 0
AreOnce names = (i j : ℕ) (x : ℕ × ℕ) → i < length names → j < length names → slice_index_or names i x ≡ x → slice_index_or names j x ≡ x → i ≡ j

-- exactly the keys that the image needs, each once
pub record AreNamed (image : Image) (header : HeldHeader) (log : LogView (List Change)) (active : ℕ) (names : List (ℕ × ℕ)) : Type 0 where
  pub all : (id version : ℕ) → Named image header log active id version → Contains names (id, version)
  pub only : (id version : ℕ) → Contains names (id, version) → Named image header log active id version
  pub once : AreOnce names

-- what a step adds to a list: these pairs and no others, none of them twice
pub record AddsNames (P : ℕ × ℕ → Type 0) (old new : List (ℕ × ℕ)) : Type 0 where
  pub keeps : (x : ℕ × ℕ) → Contains old x → Contains new x
  pub all : (x : ℕ × ℕ) → P x → Contains new x
  pub only : (x : ℕ × ℕ) → Contains new x → Contains old x ⊎ P x
  pub once : AreOnce old → AreOnce new

-- that of one of the first n
abbrev pub Below : (ℕ → ℕ × ℕ → Type 0) → ℕ → ℕ × ℕ → Type 0
Below P n x = (i : ℕ) × (i < n) × P i x

-- the version that a text names; a text in clear has version 0
abbrev pub IsTextName : ℕ → ℕ → ℕ × ℕ → Type 0
IsTextName id version x = (version ≢ 0) × (x ≡ (id, version))

-- that of the text that a page is read from
abbrev pub IsChosenName : List ℕ → List ℕ → ℕ → ℕ → ℕ → ℕ × ℕ → Type 0
IsChosenName home double s p id x = (t : Text) × IsChosen (page_view no_log home double) s p (Some t) × IsTextName id t.version x

-- that of the text in a slot that is live for it
abbrev pub IsSlotName : List ℕ → List ℕ → ℕ → ℕ → ℕ → ℕ → ℕ × ℕ → Type 0
IsSlotName home double s p id i x = (t : Text) × IsLive (page_view no_log home double) s p i t × IsTextName id t.version x

-- those of a page
abbrev pub IsPageName : List ℕ → List ℕ → ℕ → ℕ → ℕ → ℕ × ℕ → Type 0
IsPageName home double s p id x = IsChosenName home double s p id x ⊎ Below (IsSlotName home double s p id) slot_count x

-- of page p of a space
abbrev pub IsPageNameIn : List ℕ → List ℕ → ℕ → ℕ → ℕ → ℕ × ℕ → Type 0
IsPageNameIn bytes double s id p x = IsPageName (place page_bytes p bytes) double s p id x

-- those of a space: the active version, and those of its pages
abbrev pub IsSpaceName : ImageFiles → ℕ → HeldSpace → ℕ × ℕ → Type 0
IsSpaceName files active h x = (x ≡ (h.key_id, active)) ⊎ Below (IsPageNameIn (space_bytes files.spaces h.space) files.double h.space h.key_id) h.pages x

-- of the space at this place among the header's
abbrev pub IsNameAt : ImageFiles → ℕ → List HeldSpace → ℕ → ℕ × ℕ → Type 0
IsNameAt files active spaces i x = (h : HeldSpace) × (drop i spaces ≡ h ∷ drop (i + 1) spaces) × IsSpaceName files active h x

-- of a block of the run
abbrev pub IsBlockName : ℕ → List ℕ → ℕ → ℕ → ℕ × ℕ → Type 0
IsBlockName blocks log from n x = (from ≤ n) × (x ≡ (1, block_version (block_at blocks log n)))

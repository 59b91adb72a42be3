-- What is written home from the doublewrite file.
use Rattle.std.specs.Prelude.{◌≡◌, ◌≢◌, ◌<◌, ◌≤◌, slice_index_or, length, ℕ, Bool, false, nat_eq, nat_le, ◌&&◌, if◌then◌else◌, List, [], ◌∷◌, Option, Some, None}
use Rattle.std.specs.Option.{option_map}
use Rattle.disk_model.specs.Event.{Event}
use Rattle.disk_model.specs.Does.{IsOn}
use Rattle.disk_model.specs.declared.names.FileName.TheVariants.{Space}
use Rattle.places.specs.Places.{shown, May, HasFile, HasPlaces}
use Rattle.places.specs.Filling.{Filling, Filled, FilledWhole}
use Rattle.space_head.specs.declared.space.SpaceInfo.{SpaceInfo}
use Rattle.page_places.specs.Texts.{is_page_text, pages, page_bytes}
use Rattle.doublewrite.specs.Copies.{copies_to}
use Rattle.doublewrite.specs.declared.listing.Copied.{Copied}
use Rattle.store_image.specs.View.{slot_count}

-- the first, unless the best so far is as new
abbrev pub newer : Copied → Option Copied → Option Copied
newer c None = Some c
newer c (Some best) = if nat_le c.lsn best.lsn then Some best else Some c

abbrev pub is_of : Copied → ℕ → ℕ → Bool
is_of c space page = nat_eq c.space space && nat_eq c.page page

-- of the copies of a page the one of greatest LSN, of several the first; or the best so far, where none is newer
abbrev pub newest_from : Option Copied → List Copied → ℕ → ℕ → Option Copied
newest_from best [] space page = best
newest_from best (c ∷ cs) space page = newest_from (if is_of c space page then newer c best else best) cs space page

abbrev pub newest : List Copied → ℕ → ℕ → Option Copied
newest copies space page = newest_from None copies space page

-- what a home is to become: the text of its newest copy, where it holds no page text
unfoldable pub wanted : List Copied → List Event → ℕ → ℕ → Option (List ℕ)
wanted copies s space page = if is_page_text page (shown (Space space) page_bytes page s) then None else option_map (λ c. c.text) (newest copies space page)

abbrev pub HasPages : SpaceInfo → List Event → Type 0
HasPages info es = HasPlaces (Space info.space) (pages info.pages) es

-- and so whatever is pending there
abbrev pub HasSpaceFile : SpaceInfo → List Event → Type 0
HasSpaceFile info es = HasFile (Space info.space) (pages info.pages) es

-- the space's pages from page k on read as at s
pub record PagesStay (info : SpaceInfo) (k : ℕ) (s m : List Event) : Type 0 where
  pub file : HasSpaceFile info m
  pub rest : (i : ℕ) → k ≤ i → shown (Space info.space) page_bytes i m ≡ shown (Space info.space) page_bytes i s

-- each moment while a space is restored
abbrev pub PagesFilling : List Copied → SpaceInfo → List Event → List Event → Type 0
PagesFilling copies info s m = Filling (Space info.space) (pages info.pages) (wanted copies s info.space) info.pages s m

-- its first k pages are
abbrev pub PagesFilled : List Copied → SpaceInfo → ℕ → List Event → List Event → Type 0
PagesFilled copies info k s m = Filled (Space info.space) (pages info.pages) (wanted copies s info.space) k s m

-- all are, durably
abbrev pub PagesRestored : List Copied → SpaceInfo → List Event → List Event → Type 0
PagesRestored copies info s m = FilledWhole (Space info.space) (pages info.pages) (wanted copies s info.space) info.pages s m

abbrev pub IsSpaceEvent : SpaceInfo → Event → Type 0
IsSpaceEvent info e = IsOn (Space info.space) e

-- ---- all spaces

abbrev pub no_space : SpaceInfo
no_space = record { space = 0; pages = 0; key_id = 0; salt = []; ciphered = false; floor = 0 }

abbrev pub space_at : List SpaceInfo → ℕ → SpaceInfo
space_at spaces i = slice_index_or spaces i no_space

abbrev pub AreSpacesApart : List SpaceInfo → Type 0
AreSpacesApart spaces = (i j : ℕ) → i < j → j < length spaces → (space_at spaces i).space ≢ (space_at spaces j).space

abbrev pub HaveAll : List SpaceInfo → List Event → Type 0
HaveAll spaces es = (i : ℕ) → i < length spaces → HasPages (space_at spaces i) es

abbrev pub HaveFiles : List SpaceInfo → List Event → Type 0
HaveFiles spaces es = (i : ℕ) → i < length spaces → HasSpaceFile (space_at spaces i) es

-- since s nothing was asked of the space
pub record IsUntouched (info : SpaceInfo) (s m : List Event) : Type 0 where
  pub has : HasPages info m
  pub may : (i : ℕ) (x : Option (List ℕ)) → May (Space info.space) page_bytes i m x → May (Space info.space) page_bytes i s x
  pub shows : (i : ℕ) → shown (Space info.space) page_bytes i m ≡ shown (Space info.space) page_bytes i s

abbrev pub SpacesFilling : List Copied → List SpaceInfo → List Event → List Event → Type 0
SpacesFilling copies spaces s m = (i : ℕ) → i < length spaces → PagesFilling copies (space_at spaces i) s m

-- the first k spaces are restored, and the others as they were
pub record AreRestored (copies : List Copied) (spaces : List SpaceInfo) (k : ℕ) (s m : List Event) : Type 0 where
  pub done : (i : ℕ) → i < k → i < length spaces → PagesRestored copies (space_at spaces i) s m
  pub rest : (i : ℕ) → k ≤ i → i < length spaces → IsUntouched (space_at spaces i) s m

abbrev pub SpacesRestored : List Copied → List SpaceInfo → List Event → List Event → Type 0
SpacesRestored copies spaces s m = (i : ℕ) → i < length spaces → PagesRestored copies (space_at spaces i) s m

-- with the copies that stand at s
abbrev pub HomesRestoring : List SpaceInfo → List Event → List Event → Type 0
HomesRestoring spaces s m = SpacesFilling (copies_to slot_count s) spaces s m

abbrev pub HomesRestored : List SpaceInfo → List Event → List Event → Type 0
HomesRestored spaces s m = SpacesRestored (copies_to slot_count s) spaces s m

abbrev pub IsRestoreEvent : List SpaceInfo → Event → Type 0
IsRestoreEvent spaces e = (i : ℕ) × (i < length spaces) × IsSpaceEvent (space_at spaces i) e

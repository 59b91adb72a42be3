-- Why a page, and a space with it, is refused.
use Rattle.std.specs.Prelude.{◌≡◌, ℕ, ◌+◌, ◌<◌, List, ◌∷◌, length, take, Option}
use Rattle.key_ring.specs.Ring.{RingEntry}
use Rattle.places.specs.Places.{place}
use Rattle.store_image.specs.Places.{LogView}
use Rattle.redo_text.specs.declared.change.Change.{Change}
use Rattle.space_head.specs.declared.space.SpaceInfo.{SpaceInfo}
use Rattle.store_model.specs.declared.contents.PlainPage.{PlainPage}
use Rattle.store_model.specs.declared.contents.SpaceContents.{SpaceContents}
use Rattle.store_files.specs.Header.{HeldHeader, HeldSpace}
use Rattle.store_files.specs.Pages.{Page}
use Rattle.image_pages.specs.Recovering.{AgreeBelow, IsPageFaultUnder, IsRecovered, SlotDiffers}
use Rattle.image_pages.specs.declared.fault.PageFault.{PageFault}
use Rattle.image_pages.specs.declared.fault.PageFault.TheVariants as fault
use Rattle.image_reader.specs.Files.{ImageFiles, space_bytes}
use Rattle.image_reader.specs.HeaderSpaces.{IsSpaceAt, IsHeaderInfo}
use Rattle.image_reader.specs.Spaces.{AllGive, HeadHolds, PagesHold}
use Rattle.image_reader.specs.declared.refusal.Refusal.{Refusal}
use Rattle.image_reader.specs.declared.refusal.Refusal.TheVariants.{NotChosen, NoText, Head, Slot, OutOfMemory}
use Rattle.page_places.specs.Texts.{page_bytes}

-- a page's fault as a refusal
abbrev pub page_refusal : ℕ → ℕ → PageFault → Refusal
page_refusal s p fault.NotChosen = NotChosen s p
page_refusal s p (fault.Text text) = NoText s p text
page_refusal s p fault.OutOfMemory = OutOfMemory

module _ (header : HeldHeader) (keys : List RingEntry) (log : LogView (List Change)) (home double : List ℕ) where
  -- under this salt of its space: the page has this fault, or it recovers and this is the first live slot that gives another
  abbrev pub IsPageRefusal : List ℕ → ℕ → ℕ → Refusal → Type 0
  IsPageRefusal salt s p (NotChosen z q) = (z ≡ s) × (q ≡ p) × IsPageFaultUnder header keys log home double s p salt fault.NotChosen
  IsPageRefusal salt s p (NoText z q text) = (z ≡ s) × (q ≡ p) × IsPageFaultUnder header keys log home double s p salt (fault.Text text)
  IsPageRefusal salt s p (Slot z q i) = (z ≡ s) × (q ≡ p) × (x : Page) × IsRecovered header keys log home double s p salt x × AgreeBelow header keys log home double s p salt x i × SlotDiffers header keys log home double s p salt x i
  IsPageRefusal salt s p OutOfMemory = Unit {0}
  IsPageRefusal salt s p r = ⊥

-- of page 0, whatever the header, the keys and the salts are
abbrev pub IsHeadRefusal : LogView (List Change) → List ℕ → List ℕ → ℕ → Refusal → Type 0
IsHeadRefusal log home double s r = (header : HeldHeader) (keys : List RingEntry) (salt : List ℕ) → IsPageRefusal header keys log home double salt s 0 r

module _ (header : HeldHeader) (keys : List RingEntry) (log : LogView (List Change)) (bytes double : List ℕ) where
  -- of the first of the pages from page 1 on that is refused: those before it hold these
  pub record IsPagesRefusal (salt : List ℕ) (s pages : ℕ) (r : Refusal) : Type 0 where
    pub page : ℕ
    pub some : 0 < page
    pub within : page < pages
    pub held : List (Option PlainPage)
    pub long : length held + 1 ≡ page
    pub before : PagesHold header keys log bytes double salt s held
    pub is : IsPageRefusal header keys log (place page_bytes page bytes) double salt s page r

  -- of a space: page 0 is refused, or says something else than the header, or a page under its salt is refused; or there was no memory
  pub data IsSpaceRefusal (h : HeldSpace) (r : Refusal) : Type 0 where
    AtHead : IsHeadRefusal log (place page_bytes 0 bytes) double h.space r → IsSpaceRefusal h r
    AtInfo : (info : SpaceInfo) → HeadHolds log (place page_bytes 0 bytes) double h.space info → (IsHeaderInfo h info → ⊥) → r ≡ Head h.space → IsSpaceRefusal h r
    AtPage : (info : SpaceInfo) → HeadHolds log (place page_bytes 0 bytes) double h.space info → IsHeaderInfo h info → IsPagesRefusal info.salt h.space h.pages r → IsSpaceRefusal h r
    NoMemory : r ≡ OutOfMemory → IsSpaceRefusal h r

-- of the first of the spaces that is refused: those before it hold these
pub record IsSpacesRefusal (header : HeldHeader) (keys : List RingEntry) (log : LogView (List Change)) (files : ImageFiles) (spaces : List HeldSpace) (r : Refusal) : Type 0 where
  pub space : HeldSpace
  pub named : IsSpaceAt spaces space
  pub held : List SpaceContents
  pub before : AllGive header keys log files (take named.index spaces) held
  pub is : IsSpaceRefusal header keys log (space_bytes files.spaces space.space) files.double space r

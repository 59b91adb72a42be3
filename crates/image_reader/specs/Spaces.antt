-- What the homes and slots of one space give under the header, the keys and the log's text.
use Rattle.std.specs.Prelude.{◌≡◌, ℕ, ◌+◌, ◌<◌, List, [], ◌∷◌, length, slice_index_or, Option, None}
use Rattle.key_ring.specs.Ring.{RingEntry}
use Rattle.places.specs.Places.{place}
use Rattle.store_image.specs.Places.{LogView}
use Rattle.store_image.specs.Recovers.{PageRecovers, SlotRecovers}
use Rattle.store_image.specs.View.{Text, IsLive}
use Rattle.redo_text.specs.declared.change.Change.{Change}
use Rattle.space_head.specs.declared.space.SpaceInfo.{SpaceInfo}
use Rattle.store_model.specs.declared.contents.PlainPage.{PlainPage}
use Rattle.store_model.specs.declared.contents.SpaceContents.{SpaceContents}
use Rattle.store_files.specs.Header.{HeldHeader, HeldSpace}
use Rattle.store_files.specs.Pages.{Page, Head, page_held, page_in}
use Rattle.crash_image.specs.StoreTheory.{store_theory}
use Rattle.image_reader.specs.Files.{ImageFiles, space_bytes}
use Rattle.page_places.specs.Texts.{page_bytes}
use Rattle.image_pages.specs.Choosing.{page_view}

module _ (header : HeldHeader) (keys : List RingEntry) (log : LogView (List Change)) (home double : List ℕ) where
  -- a page holds this, where the spaces have these salts, and each live slot gives the same
  pub record PageGives (salts : ℕ → List ℕ) (s p : ℕ) (x : Page) : Type 0 where
    pub page : PageRecovers (store_theory header keys salts) (page_view log home double) (λ z q. x) s p
    pub slots : (i : ℕ) (t : Text) → IsLive (page_view log home double) s p i t → SlotRecovers (store_theory header keys salts) (page_view log home double) (λ z q. x) s p t

  -- it holds this where its space has this salt
  pub record PageHolds (salt : List ℕ) (s p : ℕ) (x : Page) : Type 0 where
    pub any : (salts : ℕ → List ℕ) → salts s ≡ salt → PageGives salts s p x

-- page 0, whatever the header, the keys and the salts are
pub record HeadHolds (log : LogView (List Change)) (home double : List ℕ) (s : ℕ) (info : SpaceInfo) : Type 0 where
  pub any : (header : HeldHeader) (keys : List RingEntry) (salts : ℕ → List ℕ) → PageGives header keys log home double salts s 0 (Head info)

module _ (header : HeldHeader) (keys : List RingEntry) (log : LogView (List Change)) (bytes double : List ℕ) where
  -- the first of these pages from page 1 on, as many as these, hold them
  pub record PagesHold (salt : List ℕ) (s : ℕ) (pages : List (Option PlainPage)) : Type 0 where
    pub each : (i : ℕ) → i < length pages → PageHolds header keys log (place page_bytes (i + 1) bytes) double salt s (i + 1) (page_held (slice_index_or pages i None))

  -- the space holds this, where the spaces have these salts
  pub record SpaceGives (salts : ℕ → List ℕ) (h : HeldSpace) (x : SpaceContents) : Type 0 where
    pub space : x.info.space ≡ h.space
    pub size : x.info.pages ≡ h.pages
    pub key_id : x.info.key_id ≡ h.key_id
    pub long : length x.pages + 1 ≡ h.pages
    pub pages : (p : ℕ) → p < h.pages → PageGives header keys log (place page_bytes p bytes) double salts h.space p (page_in x p)

  -- the space holds this
  pub record SpaceHolds (h : HeldSpace) (x : SpaceContents) : Type 0 where
    pub any : (salts : ℕ → List ℕ) → salts h.space ≡ x.info.salt → SpaceGives salts h x

module _ (header : HeldHeader) (keys : List RingEntry) (log : LogView (List Change)) (files : ImageFiles) where
  -- these spaces hold these contents
  abbrev pub AllGive : List HeldSpace → List SpaceContents → Type 0
  AllGive [] [] = Unit {0}
  AllGive [] (x ∷ xs) = ⊥
  AllGive (h ∷ hs) [] = ⊥
  AllGive (h ∷ hs) (x ∷ xs) = SpaceHolds header keys log (space_bytes files.spaces h.space) files.double h x × AllGive hs xs

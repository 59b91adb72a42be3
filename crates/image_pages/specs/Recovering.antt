-- What a page recovers to by its home, the doublewrite file and the log's text, and whether a slot gives the same.
use Rattle.std.specs.Prelude.{◌≡◌, ◌≢◌, ℕ, ◌*◌, ◌<◌, ◌≤◌, Bool, true, false, List, [], length, Option, Some, None}
use Rattle.std.specs.Borrow.{Bor}
use Rattle.key_ring.specs.Local.{local_key}
use Rattle.key_ring.specs.Ring.{RingEntry}
use Rattle.byte_list.specs.Fields.{be64_at}
use Rattle.page_places.specs.Texts.{held, text_in, page_bytes, page_lsn_at}
use Rattle.store_image.specs.Places.{LogView}
use Rattle.store_image.specs.Recovers.{PageRecovers, SlotRecovers, later_by, IsNamedBy}
use Rattle.store_image.specs.Groups.{copy_of}
use Rattle.store_image.specs.View.{Text, Holds, View, IsChosen, IsLive, block_bytes, slot_count}
use Rattle.redo_text.specs.declared.change.Change.{Change}
use Rattle.store_files.specs.Header.{HeldHeader}
use Rattle.store_files.specs.Pages.{Page, MeansPage, key_id_of, mtr_acts, mtr_names}
use Rattle.crash_image.specs.StoreTheory.{store_theory}
use Rattle.image_pages.specs.Choosing.{slot_in, page_view, no_log}
use Rattle.image_pages.specs.declared.fault.PageFault.{PageFault}
use Rattle.image_pages.specs.declared.fault.PageFault.TheVariants.{NotChosen, Text as BadText, OutOfMemory}
use Rattle.image_pages.specs.declared.fault.TextFault.{TextFault}
use Rattle.image_pages.specs.declared.fault.TextFault.TheVariants.{BehindTheRun, NoKey, NotItsText, UnusedHead}

-- the text that a page is read from, or that it is unused; or nothing
abbrev pub IsChosenIn : List ℕ → List ℕ → ℕ → ℕ → Option (Option (Bor (List ℕ))) → Type 0
IsChosenIn home double s p (Some (Some text)) = (length text.now ≡ page_bytes) × IsChosen (page_view no_log home double) s p (Some (text_in text.now))
IsChosenIn home double s p (Some None) = IsChosen (page_view no_log home double) s p None
IsChosenIn home double s p None = (chosen : Option Text) → IsChosen (page_view no_log home double) s p chosen → ⊥

-- a text that is none of a page from page 1 on: the key of its version is missing, or it isn't, or the text is in clear
abbrev pub IsMeaningFault : Option (List ℕ) → ℕ → TextFault → Type 0
IsMeaningFault key version (NoKey named) = (named ≡ version) × (version ≢ 0) × (key ≡ None)
IsMeaningFault key version NotItsText = version ≢ 0 → key ≢ None
IsMeaningFault key version BehindTheRun = ⊥
IsMeaningFault key version UnusedHead = ⊥

module _ (header : HeldHeader) (keys : List RingEntry) (salts : ℕ → List ℕ) (v : View (List Change)) (s p : ℕ) where
  -- the page is read from this text, of an LSN up to the run's end
  pub record IsReadFrom (t : Text) : Type 0 where
    pub is : IsChosen v s p (Some t)
    pub within : t.lsn ≤ v.end * block_bytes

  -- the local key of the version that a text of the space names
  abbrev pub text_key : Text → Option (List ℕ)
  text_key t = local_key keys (key_id_of header.spaces s) t.version (salts s)

  -- why what the page is read from doesn't give it: each with what it is read from
  abbrev pub IsTextFault : TextFault → Type 0
  IsTextFault BehindTheRun = (t : Text) × IsChosen v s p (Some t) × (v.end * block_bytes < t.lsn)
  IsTextFault (NoKey version) = (t : Text) × IsReadFrom t × (p ≢ 0) × (version ≡ t.version) × (t.version ≢ 0) × (text_key t ≡ None)
  IsTextFault NotItsText = (t : Text) × IsReadFrom t × (p ≢ 0 → t.version ≢ 0 → text_key t ≢ None) × ((x : Page) → MeansPage header keys salts s p t x → ⊥)
  IsTextFault UnusedHead = (p ≡ 0) × IsChosen v s p None

  -- why a page recovers to nothing
  abbrev pub IsPageFault : PageFault → Type 0
  IsPageFault NotChosen = (chosen : Option Text) → IsChosen v s p chosen → ⊥
  IsPageFault (BadText fault) = IsTextFault fault
  IsPageFault OutOfMemory = Unit {0}

-- a slot has a copy of the page that can be read from, with this text, or it has none
abbrev pub IsLiveIn : List ℕ → List ℕ → ℕ → ℕ → ℕ → Option (Bor (List ℕ)) → Type 0
IsLiveIn home double s p i (Some text) = (length text.now ≡ page_bytes) × IsLive (page_view no_log home double) s p i (text_in text.now)
IsLiveIn home double s p i None = (t : Text) → IsLive (page_view no_log home double) s p i t → ⊥

module _ (header : HeldHeader) (keys : List RingEntry) (log : LogView (List Change)) (home double : List ℕ) (s p : ℕ) where
  -- The page holds this, where its space has this salt.
  abbrev pub IsRecovered : List ℕ → Page → Type 0
  IsRecovered salt x = (salts : ℕ → List ℕ) → salts s ≡ salt → PageRecovers (store_theory header keys salts) (page_view log home double) (λ z q. x) s p

  -- or it recovers to nothing for this reason
  abbrev pub IsPageFaultUnder : List ℕ → PageFault → Type 0
  IsPageFaultUnder salt fault = (salts : ℕ → List ℕ) → salts s ≡ salt → IsPageFault header keys salts (page_view log home double) s p fault

  -- slot i gives the page that holds this, where it is live
  abbrev pub SlotAgrees : List ℕ → Page → ℕ → Type 0
  SlotAgrees salt x i = (salts : ℕ → List ℕ) → salts s ≡ salt → (t : Text) → IsLive (page_view log home double) s p i t → SlotRecovers (store_theory header keys salts) (page_view log home double) (λ z q. x) s p t

  -- or it is live with a text that doesn't
  abbrev pub SlotDiffers : List ℕ → Page → ℕ → Type 0
  SlotDiffers salt x i =
      (t : Text) × IsLive (page_view log home double) s p i t
      × ((salts : ℕ → List ℕ) → salts s ≡ salt → (c : ℕ → ℕ → Page) → c s p ≡ x → SlotRecovers (store_theory header keys salts) (page_view log home double) c s p t → ⊥)

  -- each slot below this one agrees
  abbrev pub AgreeBelow : List ℕ → Page → ℕ → Type 0
  AgreeBelow salt x n = (i : ℕ) → i < n → SlotAgrees salt x i

-- how many slots agree where this is the first that differs
abbrev pub bound_of : Option ℕ → ℕ
bound_of None = slot_count
bound_of (Some i) = i

-- a copy of this LSN can be read from: it is above the home, or where that is none no copy is newer
abbrev pub IsNewestLsn : List ℕ → List ℕ → ℕ → ℕ → ℕ → Type 0
IsNewestLsn home double s p lsn =
    ((u : Text) → held p home ≡ Holds u → u.lsn < lsn) × (((u : Text) → held p home ≢ Holds u) → (j : ℕ) (u : Text) → j < slot_count → slot_in double j ≡ copy_of s p u → u.lsn ≤ lsn)

-- the text, taken for the page's, gives what the page holds
pub record TextGives (header : HeldHeader) (keys : List RingEntry) (log : LogView (List Change)) (s p : ℕ) (salts : ℕ → List ℕ) (text : List ℕ) (x : Page) : Type 0 where
  pub holds : Page
  pub means : MeansPage header keys salts s p (text_in text) holds
  pub named : IsNamedBy mtr_names log.run s p (be64_at text page_lsn_at)
  pub same : x ≡ later_by mtr_acts (be64_at text page_lsn_at) log.run s p holds

-- or it doesn't
abbrev pub GivesPage : HeldHeader → List RingEntry → LogView (List Change) → ℕ → ℕ → List ℕ → List ℕ → Page → Bool → Type 0
GivesPage header keys log s p salt text x true = (salts : ℕ → List ℕ) → salts s ≡ salt → TextGives header keys log s p salts text x
GivesPage header keys log s p salt text x false = (salts : ℕ → List ℕ) → salts s ≡ salt → TextGives header keys log s p salts text x → ⊥

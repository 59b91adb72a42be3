-- What a page holds is one thing; a page, and a space, that is refused holds nothing.
use Rattle.std.proofs.Common.{◌≡◌, ◌≢◌, ℕ, zero, suc, ◌+◌, ◌<◌, ◌≤◌, List, [], ◌∷◌, ◌++◌, Option, None, length, refl, sym, ap, subst, ◌∙◌, arith, add-one, ⊎_elim, length-append}
use Rattle.std.proofs.lemmas.Bool.{cases_lt}
use Rattle.std.proofs.lemmas.List.{get_or_at, get_or_append_left}
use Rattle.std.specs.Prelude.{slice_index_or}
use Rattle.key_ring.specs.Ring.{RingEntry}
use Rattle.places.specs.Places.{place}
use Rattle.redo_text.specs.declared.change.Change.{Change}
use Rattle.space_head.specs.declared.space.SpaceInfo.{SpaceInfo}
use Rattle.store_image.specs.Places.{LogView}
use Rattle.store_image.proofs.RecoversOnce.{page_one}
use Rattle.store_model.specs.declared.contents.PlainPage.{PlainPage}
use Rattle.store_model.specs.declared.contents.SpaceContents.{SpaceContents}
use Rattle.store_files.specs.Header.{HeldHeader, HeldSpace}
use Rattle.store_files.specs.Pages.{Page, Head as HeadPage, page_held, page_in}
use Rattle.crash_image.specs.StoreTheory.{store_theory}
use Rattle.image_pages.specs.Recovering.{IsRecovered, IsPageFaultUnder, AgreeBelow, SlotDiffers}
use Rattle.image_pages.specs.declared.fault.PageFault.{PageFault}
use Rattle.image_pages.specs.declared.fault.PageFault.TheVariants as fault
use Rattle.image_pages.proofs.Recovered.{fault_refuses}
use Rattle.image_reader.specs.HeaderSpaces.{IsHeaderInfo}
use Rattle.image_reader.specs.PageRefusals.{page_refusal, IsPageRefusal, IsPagesRefusal, IsSpaceRefusal, AtHead, AtInfo, AtPage, NoMemory}
use Rattle.image_reader.specs.Files.{ImageFiles, space_bytes}
use Rattle.image_reader.specs.Spaces.{AllGive, PageGives, PageHolds, HeadHolds, PagesHold, SpaceGives, SpaceHolds}
use Rattle.image_reader.proofs.Recovery.{SpaceHoldsNone}
use Rattle.image_reader.specs.declared.refusal.Refusal.{Refusal}
use Rattle.image_reader.specs.declared.refusal.Refusal.TheVariants.{NoHeader, Length, NoCheckpoint, NoKey, NoChanges, OtherPages, Mixed, NotChosen, NoText, Head, Slot, LateBlock, OutOfMemory}
use Rattle.image_pages.specs.Choosing.{page_view}
use Rattle.page_places.specs.Texts.{page_bytes}
use Rattle.store_image.specs.View.{slot_count}

module _ (header : HeldHeader) (keys : List RingEntry) (log : LogView (List Change)) (home double : List ℕ) where
  pub one_page : (salts : ℕ → List ℕ) (s p : ℕ) (x y : Page) → PageGives header keys log home double salts s p x → PageGives header keys log home double salts s p y → x ≡ y
  one_page salts s p x y a b = page_one (store_theory header keys salts) (page_view log home double) (λ z q. x) (λ z q. y) s p a.page b.page

  module _ (s p : ℕ) (salt : List ℕ) where
    pub page_gives : (x : Page) (salts : ℕ → List ℕ) → salts s ≡ salt → IsRecovered header keys log home double s p salt x → AgreeBelow header keys log home double s p salt x slot_count → PageGives header keys log home double salts s p x
    page_gives x salts same is agree = record { page = is salts same; slots = λ i t live. agree i live.copy.within salts same t live }

    pub page_holds : (x : Page) → IsRecovered header keys log home double s p salt x → AgreeBelow header keys log home double s p salt x slot_count → PageHolds header keys log home double salt s p x
    page_holds x is agree = record { any = λ salts same. page_gives x salts same is agree }

    -- a fault of the page, and a live slot that differs, as a refusal
    pub fault_refusal : (fault : PageFault) → IsPageFaultUnder header keys log home double s p salt fault → IsPageRefusal header keys log home double salt s p (page_refusal s p fault)
    fault_refusal fault.NotChosen is = (refl, refl, is)
    fault_refusal (fault.Text text) is = (refl, refl, is)
    fault_refusal fault.OutOfMemory is = tt

    pub slot_refusal : (x : Page) (i : ℕ) → IsRecovered header keys log home double s p salt x → AgreeBelow header keys log home double s p salt x i → SlotDiffers header keys log home double s p salt x i → IsPageRefusal header keys log home double salt s p (Slot s p i)
    slot_refusal x i is agree differs = (refl, refl, x, is, agree, differs)

    -- a page that is refused holds nothing
    pub refused_page : (r : Refusal) → IsPageRefusal header keys log home double salt s p r → r ≢ OutOfMemory → (salts : ℕ → List ℕ) → salts s ≡ salt → (y : Page) → PageGives header keys log home double salts s p y → ⊥
    refused_page (NotChosen z q) (zs, qp, is) some salts same y g = fault_refuses header keys salts (page_view log home double) s p (λ z q. y) g.page fault.NotChosen (is salts same) (λ e. cc)
    refused_page (NoText z q text) (zs, qp, is) some salts same y g = fault_refuses header keys salts (page_view log home double) s p (λ z q. y) g.page (fault.Text text) (is salts same) (λ e. cc)
    refused_page (Slot z q i) (zs, qp, x, is, agree, other) some salts same y g =
        let e : y ≡ x = page_one (store_theory header keys salts) (page_view log home double) (λ z q. y) (λ z q. x) s p g.page (is salts same) in
        other.2 salts same (λ z q. y) e (g.slots i other.0 other.1)
    refused_page OutOfMemory is some salts same y g = some refl
    refused_page NoHeader is some salts same y g = is
    refused_page (Length f) is some salts same y g = is
    refused_page NoCheckpoint is some salts same y g = is
    refused_page (NoKey n v) is some salts same y g = is
    refused_page (NoChanges first at) is some salts same y g = is
    refused_page (OtherPages first) is some salts same y g = is
    refused_page (Mixed z q) is some salts same y g = is
    refused_page (Head z) is some salts same y g = is
    refused_page (LateBlock i n) is some salts same y g = is

-- ---- page 0

module _ (log : LogView (List Change)) (home double : List ℕ) (s : ℕ) where
  pub head_holds : (info : SpaceInfo) → ((header : HeldHeader) (keys : List RingEntry) (salt : List ℕ) → IsRecovered header keys log home double s 0 salt (HeadPage info))
      → ((header : HeldHeader) (keys : List RingEntry) (salt : List ℕ) → AgreeBelow header keys log home double s 0 salt (HeadPage info) 64) → HeadHolds log home double s info
  head_holds info is agree = record { any = λ header keys salts. page_gives header keys log home double s 0 (salts s) (HeadPage info) salts refl (is header keys (salts s)) (agree header keys (salts s)) }

-- ---- the pages from page 1 on

module _ (header : HeldHeader) (keys : List RingEntry) (log : LogView (List Change)) (bytes double salt : List ℕ) (s : ℕ) where
  pub pages_memory : (held : List (Option PlainPage)) (pages page : ℕ) → length held + 1 ≡ page → page < pages → PagesHold header keys log bytes double salt s held → IsPagesRefusal header keys log bytes double salt s pages OutOfMemory
  pages_memory held pages page long within before = record { page = page; some = omega (arith, long); within = within; held = held; long = long; before = before; is = tt }

  pub pages_more : (pages new : List (Option PlainPage)) (x : Option PlainPage) (n : ℕ) → length pages + 1 ≡ n → PagesHold header keys log bytes double salt s pages
      → PageHolds header keys log (place page_bytes n bytes) double salt s n (page_held x) → new ≡ pages ++ x ∷ [] → PagesHold header keys log bytes double salt s new × length new + 1 ≡ n + 1
  pages_more pages new x n long each page is = subst (λ (l : List (Option PlainPage)). PagesHold header keys log bytes double salt s l × length l + 1 ≡ n + 1) (sym is) (record { each = holds }, let l = longer in omega (arith, l, long))
    where
      Holds : ℕ → Option PlainPage → Type 0
      Holds i y = PageHolds header keys log (place page_bytes (i + 1) bytes) double salt s (i + 1) (page_held y)

      longer : length (pages ++ x ∷ []) ≡ length pages + 1
      longer = length-append pages (x ∷ [])

      last : (i : ℕ) → length pages ≡ i → Holds i (slice_index_or (pages ++ x ∷ []) i None)
      last i e = subst (λ (y : Option PlainPage). Holds i y) (sym (get_or_at pages x [] None i e)) (subst (λ (k : ℕ). PageHolds header keys log (place page_bytes k bytes) double salt s k (page_held x)) (sym long ∙ ap (λ (k : ℕ). k + 1) e) page)

      holds : (i : ℕ) → i < length (pages ++ x ∷ []) → Holds i (slice_index_or (pages ++ x ∷ []) i None)
      holds i lt = ⊎_elim (λ (l : i < length pages). subst (λ (y : Option PlainPage). Holds i y) (sym (get_or_append_left pages (x ∷ []) None i l)) (each.each i l))
          (λ (ge : length pages ≤ i). last i (let l = longer in omega (arith, lt, ge, l))) (cases_lt i (length pages))

-- ---- spaces in a row

-- what one space more holds
pub give_more : (header : HeldHeader) (keys : List RingEntry) (log : LogView (List Change)) (files : ImageFiles) (hs : List HeldSpace) (xs : List SpaceContents) (h : HeldSpace) (x : SpaceContents)
    → AllGive header keys log files hs xs → SpaceHolds header keys log (space_bytes files.spaces h.space) files.double h x → AllGive header keys log files (hs ++ h ∷ []) (xs ++ x ∷ [])
give_more header keys log files [] [] h x all is = (is, tt)
give_more header keys log files [] (y ∷ ys) h x all is = absurd all
give_more header keys log files (g ∷ gs) [] h x all is = absurd all
give_more header keys log files (g ∷ gs) (y ∷ ys) h x (first, rest) is = (first, give_more header keys log files gs ys h x rest is)

-- ---- a space

module _ (header : HeldHeader) (keys : List RingEntry) (log : LogView (List Change)) (bytes double : List ℕ) (h : HeldSpace) (info : SpaceInfo) (head : HeadHolds log (place page_bytes 0 bytes) double h.space info) where
  one_info : (a b : SpaceInfo) → HeadPage a ≡ HeadPage b → a ≡ b
  one_info a b e = cc

  same_info : (x : SpaceContents) (salts : ℕ → List ℕ) → 0 < h.pages → SpaceGives header keys log bytes double salts h x → x.info ≡ info
  same_info x salts some g = one_info x.info info (one_page header keys log (place page_bytes 0 bytes) double salts h.space 0 (HeadPage x.info) (HeadPage info) (g.pages 0 some) (head.any header keys salts))

  pub space_holds : IsHeaderInfo h info → (pages : List (Option PlainPage)) → length pages + 1 ≡ h.pages → PagesHold header keys log bytes double info.salt h.space pages → SpaceHolds header keys log bytes double h (record { info = info; pages = pages })
  space_holds is pages long each = record {
    any = λ salts same. record {
      space = is.space;
      size = is.size;
      key_id = is.key_id;
      long = long;
      pages = gives salts same;
    };
  }
    where
      gives : (salts : ℕ → List ℕ) → salts h.space ≡ info.salt → (p : ℕ) → p < h.pages → PageGives header keys log (place page_bytes p bytes) double salts h.space p (page_in (record { info = info; pages = pages }) p)
      gives salts same zero lt = head.any header keys salts
      gives salts same (suc i) lt = subst (λ (n : ℕ). PageGives header keys log (place page_bytes n bytes) double salts h.space n (page_held (slice_index_or pages i None))) (add-one i) ((each.each i (omega (arith, lt, long))).any salts same)

  other_head : 0 < h.pages → (IsHeaderInfo h info → ⊥) → SpaceHoldsNone header keys log bytes double h
  other_head some other = record {
    none = λ x salts same g. let e = same_info x salts some g in other (subst (λ (i : SpaceInfo). IsHeaderInfo h i) e (record { space = g.space; size = g.size; key_id = g.key_id }));
  }

  no_page : (r : Refusal) → r ≢ OutOfMemory → 0 < h.pages → IsPagesRefusal header keys log bytes double info.salt h.space h.pages r → SpaceHoldsNone header keys log bytes double h
  no_page r mem some refused = record {
    none = λ x salts same g.
        let e = same_info x salts some g in
        refused_page header keys log (place page_bytes refused.page bytes) double h.space refused.page info.salt r refused.is mem salts (same ∙ ap (λ (i : SpaceInfo). i.salt) e) (page_in x refused.page) (g.pages refused.page refused.within);
  }

-- a space that is refused holds nothing
pub refused_space : (header : HeldHeader) (keys : List RingEntry) (log : LogView (List Change)) (bytes double : List ℕ) (h : HeldSpace) (r : Refusal) → r ≢ OutOfMemory → 0 < h.pages → IsSpaceRefusal header keys log bytes double h r → SpaceHoldsNone header keys log bytes double h
refused_space header keys log bytes double h r mem some (AtHead refused) = record {
  none = λ x salts same g. refused_page header keys log (place page_bytes 0 bytes) double h.space 0 (salts h.space) r (refused header keys (salts h.space)) mem salts refl (page_in x 0) (g.pages 0 some);
}
refused_space header keys log bytes double h r mem some (AtInfo info head other is) = other_head header keys log bytes double h info head some other
refused_space header keys log bytes double h r mem some (AtPage info head is refused) = no_page header keys log bytes double h info head r mem some refused
refused_space header keys log bytes double h r mem some (NoMemory is) = absurd (mem is)

-- From what each space holds to what the image recovers to, and back.
use Rattle.std.proofs.Common.{◌≡◌, ℕ, zero, suc, ◌+◌, ◌<◌, Bool, true, false, true≢false, nat_eq, nat_lt, if◌then◌else◌, List, [], ◌∷◌, drop, Option, Some, None, refl, sym, ap, subst, ◌∙◌, arith}
use Rattle.std.proofs.lemmas.Bool.Decides.{nat_tests}
use Rattle.std.proofs.lemmas.Bool.{cond-true, cond-false}
use Rattle.key_ring.specs.Ring.{RingEntry}
use Rattle.places.specs.Places.{place}
use Rattle.page_places.specs.Views.{view}
use Rattle.store_image.specs.Places.{LogView}
use Rattle.store_image.specs.Recovers.{Theory, PageRecovers, SlotRecovers, ViewRecovers, Gives}
use Rattle.store_image.specs.View.{Text, View, IsChosen, IsLive}
use Rattle.redo_text.specs.declared.change.Change.{Change}
use Rattle.store_model.specs.declared.contents.SpaceContents.{SpaceContents}
use Rattle.store_files.specs.Header.{HeldHeader, HeldSpace, are_in_order}
use Rattle.store_files.specs.Pages.{Page, page_in, pages_of, salts_of, has_page, HaveSpaces}
use Rattle.store_files.proofs.SpacesInOrder.{ordered}
use Rattle.crash_image.specs.StoreTheory.{store_theory}
use Rattle.image_pages.specs.Recovering.{IsReadFrom, IsTextFault}
use Rattle.image_pages.specs.declared.fault.TextFault.{TextFault}
use Rattle.image_pages.specs.declared.fault.TextFault.TheVariants.{BehindTheRun, NoKey, NotItsText, UnusedHead}
use Rattle.image_pages.proofs.Views.{chosen_over, live_over}
use Rattle.image_reader.specs.Files.{ImageFiles, space_bytes, image_of}
use Rattle.image_reader.specs.HeaderSpaces.{IsSpaceAt}
use Rattle.image_reader.specs.Spaces.{PageGives, SpaceGives, AllGive}
use Rattle.image_reader.proofs.HeaderSpaces.{IsFound, found_whole, found_rest, first_has, first_page, first_salt}
use Rattle.image_reader.proofs.Takes.{none_item, same_item, drop_nil}
use Rattle.image_pages.specs.Choosing.{page_view}

-- the space holds nothing
pub record SpaceHoldsNone (header : HeldHeader) (keys : List RingEntry) (log : LogView (List Change)) (bytes double : List ℕ) (h : HeldSpace) : Type 0 where
  pub none : (x : SpaceContents) (salts : ℕ → List ℕ) → salts h.space ≡ x.info.salt → SpaceGives header keys log bytes double salts h x → ⊥

-- ---- one page, in its own view and in that of the image

module _ (header : HeldHeader) (keys : List RingEntry) (log : LogView (List Change)) (files : ImageFiles) (salts : ℕ → List ℕ) (s p : ℕ) where
  abbrev T : Theory
  T = store_theory header keys salts

  abbrev one : View (List Change)
  one = page_view log (place 16384 p (space_bytes files.spaces s)) files.double

  abbrev whole : View (List Change)
  whole = view log (image_of files)

  pub chosen_whole : (chosen : Option Text) → IsChosen one s p chosen → IsChosen whole s p chosen
  chosen_whole chosen is = chosen_over one whole s p refl (λ i. refl) chosen is

  pub live_whole : (i : ℕ) (t : Text) → IsLive one s p i t → IsLive whole s p i t
  live_whole i t live = live_over one whole s p refl (λ i. refl) i t live

  pub live_one : (i : ℕ) (t : Text) → IsLive whole s p i t → IsLive one s p i t
  live_one i t live = live_over whole one s p refl (λ i. refl) i t live

  read_whole : (t : Text) → IsReadFrom header keys salts one s p t → IsReadFrom header keys salts whole s p t
  read_whole t is = record { is = chosen_whole (Some t) is.is; within = is.within }

  pub fault_whole : (fault : TextFault) → IsTextFault header keys salts one s p fault → IsTextFault header keys salts whole s p fault
  fault_whole BehindTheRun (t, is, late) = (t, chosen_whole (Some t) is, late)
  fault_whole (NoKey version) (t, is, some, named, clear, missing) = (t, read_whole t is, some, named, clear, missing)
  fault_whole NotItsText (t, is, keyed, none) = (t, read_whole t is, keyed, none)
  fault_whole UnusedHead (first, is) = (first, chosen_whole None is)

  module _ (c : ℕ → ℕ → Page) (y : Page) (same : c s p ≡ y) where
    gives_whole : (chosen : Option Text) → Gives T one (λ z q. y) s p chosen → Gives T whole c s p chosen
    gives_whole (Some t) (x, m, le, e) = (x, m, le, same ∙ e)
    gives_whole None (n, e) = (n, same ∙ e)

    gives_one : (chosen : Option Text) → Gives T whole c s p chosen → Gives T one (λ z q. y) s p chosen
    gives_one (Some t) (x, m, le, e) = (x, m, le, sym same ∙ e)
    gives_one None (n, e) = (n, sym same ∙ e)

    pub page_whole : PageRecovers T one (λ z q. y) s p → PageRecovers T whole c s p
    page_whole r = record { chosen = r.chosen; is = chosen_over one whole s p refl (λ i. refl) r.chosen r.is; gives = gives_whole r.chosen r.gives }

    pub page_one_view : PageRecovers T whole c s p → PageRecovers T one (λ z q. y) s p
    page_one_view r = record { chosen = r.chosen; is = chosen_over whole one s p refl (λ i. refl) r.chosen r.is; gives = gives_one r.chosen r.gives }

    pub slot_whole : (t : Text) → SlotRecovers T one (λ z q. y) s p t → SlotRecovers T whole c s p t
    slot_whole t r = record { holds = r.holds; means = r.means; named = r.named; same = same ∙ r.same }

    pub slot_one_view : (t : Text) → SlotRecovers T whole c s p t → SlotRecovers T one (λ z q. y) s p t
    slot_one_view t r = record { holds = r.holds; means = r.means; named = r.named; same = sym same ∙ r.same }

    pub page_gives : ViewRecovers T whole c → has_page header.spaces s p ≡ true → PageGives header keys log (place 16384 p (space_bytes files.spaces s)) files.double salts s p y
    page_gives r has = record {
      page = page_one_view (r.pages s p has);
      slots = λ i t live. slot_one_view t (r.slots s p i t has (live_over one whole s p refl (λ i. refl) i t live));
    }

-- ---- all pages

module _ (header : HeldHeader) (keys : List RingEntry) (log : LogView (List Change)) (files : ImageFiles) where
  -- the contents of these spaces have their ids, sizes and key ids
  pub spaces_of : (hs : List HeldSpace) (xs : List SpaceContents) → AllGive header keys log files hs xs → HaveSpaces hs xs
  spaces_of [] [] all = tt
  spaces_of [] (x ∷ xs) all = absurd all
  spaces_of (h ∷ hs) [] all = absurd all
  spaces_of (h ∷ hs) (x ∷ xs) (first, rest) = let g = first.any (λ s. x.info.salt) refl in (g.space, g.size, g.key_id, g.long, spaces_of hs xs rest)

  pub pages_of_all : (hs : List HeldSpace) (xs : List SpaceContents) → AllGive header keys log files hs xs → (s p : ℕ) → has_page hs s p ≡ true → (salts : ℕ → List ℕ) → salts s ≡ salts_of xs s
      → PageGives header keys log (place 16384 p (space_bytes files.spaces s)) files.double salts s p (pages_of xs s p)
  pages_of_all [] [] all s p has salts salt = absurd (true≢false (sym has))
  pages_of_all [] (x ∷ xs) all s p has salts salt = absurd all
  pages_of_all (h ∷ hs) [] all s p has salts salt = absurd all
  pages_of_all (h ∷ hs) (x ∷ xs) (first, rest) s p has salts salt =
      let own = first.any (λ s. x.info.salt) refl in
      by (nat_eq h.space s) refl own.space (λ has salt. pages_of_all hs xs rest s p has salts salt) has
    where
      by : (b : Bool) → nat_eq h.space s ≡ b → x.info.space ≡ h.space → (has_page hs s p ≡ true → salts s ≡ salts_of xs s → PageGives header keys log (place 16384 p (space_bytes files.spaces s)) files.double salts s p (pages_of xs s p)) → (if b then nat_lt p h.pages else has_page hs s p) ≡ true → PageGives header keys log (place 16384 p (space_bytes files.spaces s)) files.double salts s p (pages_of (x ∷ xs) s p)
      by true is space later lt =
          let e : h.space ≡ s = grind (arith, nat_tests) in
          let below : p < h.pages = grind (arith, nat_tests) in
          let named : nat_eq x.info.space s ≡ true = ap (λ (n : ℕ). nat_eq n s) space ∙ is in
          let here : salts h.space ≡ x.info.salt = ap salts e ∙ salt ∙ cond-true (nat_eq x.info.space s) x.info.salt (salts_of xs s) named in
          let gives = (first.any salts here).pages p below in
          let moved : PageGives header keys log (place 16384 p (space_bytes files.spaces s)) files.double salts s p (page_in x p) = subst (λ (z : ℕ). PageGives header keys log (place 16384 p (space_bytes files.spaces z)) files.double salts z p (page_in x p)) e gives in
          subst (λ (y : Page). PageGives header keys log (place 16384 p (space_bytes files.spaces s)) files.double salts s p y) (sym (cond-true (nat_eq x.info.space s) (page_in x p) (pages_of xs s p) named)) moved
      by false is space later has =
          let other : nat_eq x.info.space s ≡ false = ap (λ (n : ℕ). nat_eq n s) space ∙ is in
          let gives = later has (salt ∙ cond-false (nat_eq x.info.space s) x.info.salt (salts_of xs s) other) in
          subst (λ (y : Page). PageGives header keys log (place 16384 p (space_bytes files.spaces s)) files.double salts s p y) (sym (cond-false (nat_eq x.info.space s) (page_in x p) (pages_of xs s p) other)) gives

  -- the pages of the image are those of the contents
  pub view_recovers : (c : List SpaceContents) → AllGive header keys log files header.spaces c → ViewRecovers (store_theory header keys (salts_of c)) (view log (image_of files)) (pages_of c)
  view_recovers c all = record {
    pages = λ s p has. page_whole header keys log files (salts_of c) s p (pages_of c) (pages_of c s p) refl (pages_of_all header.spaces c all s p has (salts_of c) refl).page;
    slots = λ s p i t has live.
        slot_whole header keys log files (salts_of c) s p (pages_of c) (pages_of c s p) refl t
        ((pages_of_all header.spaces c all s p has (salts_of c) refl).slots i t (live_over (view log (image_of files)) (page_view log (place 16384 p (space_bytes files.spaces s)) files.double) s p refl (λ i. refl) i t live));
  }

  -- ---- and back

  module _ (c : List SpaceContents) (r : ViewRecovers (store_theory header keys (salts_of c)) (view log (image_of files)) (pages_of c)) where
    -- a space among the header's, and its contents among these, hold nothing less
    walk : (id : ℕ) (hs : List HeldSpace) (xs : List SpaceContents) (i : ℕ) (h : HeldSpace) (rest : List HeldSpace) → are_in_order id hs ≡ true → HaveSpaces hs xs → IsFound header.spaces c hs xs → drop i hs ≡ h ∷ rest
        → SpaceHoldsNone header keys log (space_bytes files.spaces h.space) files.double h → ⊥
    walk id [] xs i h rest order have found at none = none_item h rest (sym (drop_nil i) ∙ at)
    walk id (g ∷ gs) [] i h rest order have found at none = absurd have
    walk id (g ∷ gs) (x ∷ xs) zero h rest order (space, size, key_id, long, more) found at none =
        let o = ordered id g gs order in
        let e : g ≡ h = same_item g h gs rest at in
        let here : SpaceHoldsNone header keys log (space_bytes files.spaces g.space) files.double g = subst (λ (z : HeldSpace). SpaceHoldsNone header keys log (space_bytes files.spaces z.space) files.double z) (sym e) none in
        here.none x (salts_of c) (first_salt header.spaces c g gs x xs space found (omega (arith, o.some))) (record {
          space = space;
          size = size;
          key_id = key_id;
          long = long;
          pages = λ p lt. page_gives header keys log files (salts_of c) g.space p (pages_of c) (page_in x p) (first_page header.spaces c g gs x xs space found p lt) r (first_has header.spaces c g gs x xs space found p lt);
        })
    walk id (g ∷ gs) (x ∷ xs) (suc i) h rest order (space, size, key_id, long, more) found at none =
        let o = ordered id g gs order in
        walk g.space gs xs i h rest o.rest more (found_rest header.spaces c g gs x xs space found o.rest) at none

    pub none_recovers : are_in_order 0 header.spaces ≡ true → HaveSpaces header.spaces c → (h : HeldSpace) → IsSpaceAt header.spaces h → SpaceHoldsNone header keys log (space_bytes files.spaces h.space) files.double h → ⊥
    none_recovers order have h named none = walk 0 header.spaces c named.index h (drop (named.index + 1) header.spaces) order have (found_whole header.spaces c) named.is none

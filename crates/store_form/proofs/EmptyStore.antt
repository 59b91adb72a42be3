-- What the files of a store as it is created recover to: its spaces, with each page from page 1 on unused.
use Rattle.std.proofs.Common.{◌≡◌, ◌≢◌, ℕ, zero, suc, ◌+◌, ◌-◌, ◌*◌, ◌<◌, ◌≤◌, Bool, true, false, true≢false, nat_eq, nat_lt, if◌then◌else◌, List, [], ◌∷◌, length, replicate, slice_index_or, Option, Some, None, refl, sym, ap, ◌∙◌, subst, inl, inr, arith}
use Rattle.std.proofs.lemmas.Bool.Decides.{nat_tests}
use Rattle.std.proofs.lemmas.Option.{none-some}
use Rattle.std.proofs.lemmas.List.{length-replicate}
use Rattle.std.specs.Prelude.{Ok}
use Rattle.byte_list.specs.Bytes.{zeros}
use Rattle.byte_list.proofs.RangeLaws.{length-zeros, range-zeros}
use Rattle.disk_model.specs.Event.{Event, is_there, reads}
use Rattle.disk_model.specs.Image.{Image}
use Rattle.disk_model.specs.declared.names.FileName.{FileName}
use Rattle.disk_model.specs.declared.names.FileName.TheVariants.{Log, Double, Space}
use Rattle.key_ring.specs.Ring.{RingEntry}
use Rattle.page_places.specs.Placed.{IsPlaced, OwnText, ZeroBytes}
use Rattle.page_places.specs.Texts.{held, slot_held}
use Rattle.page_places.specs.Views.{view}
use Rattle.page_text.specs.Text.{IsText}
use Rattle.places.specs.Places.{place}
use Rattle.redo_text.specs.declared.change.Change.{Change}
use Rattle.space_head.specs.Head.{head_of}
use Rattle.space_head.specs.declared.space.SpaceInfo.{SpaceInfo}
use Rattle.store_image.specs.Places.{LogView}
use Rattle.store_image.specs.Recovers as pages
use Rattle.store_image.specs.View.{Slot, Text, Holds, Zero, IsChosen, IsCopy, IsLive, Home as ByHome, Unused as ByNone}
use Rattle.store_model.specs.Fold.{empty, empty_space}
use Rattle.store_model.specs.declared.contents.PlainPage.{PlainPage}
use Rattle.store_model.specs.declared.contents.SpaceContents.{SpaceContents}
use Rattle.store_files.specs.Header.{HeldHeader, HeldSpace, IsWritableHeader, header_in}
use Rattle.store_files.specs.Pages.{Page, Head, Unused, HaveSpaces, MeansPage, has_page, head_of_space, head_page, page_held, page_in, pages_of, salts_of}
use Rattle.store_files.specs.Run.{IsClear, IsRun}
use Rattle.store_files.proofs.TextsHeld.{text_at}
use Rattle.crash_image.specs.Recovers.{AreLong, Recovers, RecoversBy, SpacesLong}
use Rattle.crash_image.specs.StoreTheory.{store_theory}
use Rattle.store_form.specs.Creation.{first_text}
use Rattle.store_form.proofs.CreatedFiles.{log_made, space_made, length-made, length-space, made_clear, made_header, made_run, space_first, space_other}
use Rattle.store_form.specs.Made.{AreMadeSpaces, IsMadeInfo}
use Rattle.store_form.proofs.FirstTexts.{first_held, first_is_text}
use Rattle.store_form.proofs.ZeroPlaces.{zero_home, zero_slot}

-- each of their files is as it is made
abbrev pub AreSpaceFiles : (FileName → List ℕ) → List SpaceInfo → Type 0
AreSpaceFiles bytes [] = Unit {0}
AreSpaceFiles bytes (s ∷ ss) = (bytes (Space s.space) ≡ space_made s) × AreSpaceFiles bytes ss

none_at : (n i : ℕ) (none : Option PlainPage) → slice_index_or (replicate n none) i none ≡ none
none_at zero i none = refl
none_at (suc n) zero none = refl
none_at (suc n) (suc i) none = none_at n i none

-- what is known of a space that has the page
record IsSpaceOf (spaces : List SpaceInfo) (bytes : FileName → List ℕ) (s p : ℕ) : Type 0 where
  info : SpaceInfo
  id : info.space ≡ s
  below : p < info.pages
  some : 2 ≤ info.pages
  made : IsMadeInfo info
  file : bytes (Space s) ≡ space_made info
  page : (q : ℕ) → pages_of (empty spaces) s q ≡ page_in (empty_space info) q

space_of : (hs : List HeldSpace) (spaces : List SpaceInfo) (bytes : FileName → List ℕ) (s p : ℕ) → AreMadeSpaces hs spaces → AreSpaceFiles bytes spaces → has_page hs s p ≡ true → IsSpaceOf spaces bytes s p
space_of [] spaces bytes s p are files has = absurd (true≢false (sym has))
space_of (h ∷ hs) [] bytes s p are files has = absurd are
space_of (h ∷ hs) (x ∷ xs) bytes s p (id, pages, key_id, some, made, rest) files has = by (nat_eq x.space s) refl (λ below. space_of hs xs bytes s p rest files.1 below)
  where
    held_too : (b : Bool) → nat_eq x.space s ≡ b → nat_eq h.space s ≡ b
    held_too b test = ap (λ (n : ℕ). nat_eq n s) (sym id) ∙ test

    by : (b : Bool) → nat_eq x.space s ≡ b → (has_page hs s p ≡ true → IsSpaceOf xs bytes s p) → IsSpaceOf (x ∷ xs) bytes s p
    by true test later =
        let below : nat_lt p h.pages ≡ true = ap (λ (b : Bool). if b then nat_lt p h.pages else has_page hs s p) (sym (held_too true test)) ∙ has in
        let lt : p < h.pages = grind (arith, nat_tests) in
        let same : x.space ≡ s = grind (arith, nat_tests) in
        record {
          info = x;
          id = same;
          below = omega (arith, lt, pages);
          some = some;
          made = made;
          file = ap (λ (n : ℕ). bytes (Space n)) (sym same) ∙ files.0;
          page = λ q. ap (λ (b : Bool). if b then page_in (empty_space x) q else pages_of (empty xs) s q) test;
        }
    by false test later =
        let below : has_page hs s p ≡ true = ap (λ (b : Bool). if b then nat_lt p h.pages else has_page hs s p) (sym (held_too false test)) ∙ has in
        let found = later below in
        record {
          info = found.info;
          id = found.id;
          below = found.below;
          some = found.some;
          made = found.made;
          file = found.file;
          page = λ q. ap (λ (b : Bool). if b then page_in (empty_space x) q else pages_of (empty xs) s q) test ∙ found.page q;
        }

spaces_long : (hs : List HeldSpace) (spaces : List SpaceInfo) (image : Image) → AreMadeSpaces hs spaces → AreSpaceFiles image.bytes spaces → SpacesLong image hs
spaces_long [] spaces image are files = tt
spaces_long (h ∷ hs) [] image are files = absurd are
spaces_long (h ∷ hs) (x ∷ xs) image (id, pages, key_id, some, made, rest) files =
    (ap (λ (n : ℕ). length (image.bytes (Space n))) (sym id) ∙ ap length files.0 ∙ length-space x made some ∙ ap (λ (n : ℕ). n * 16384) pages, spaces_long hs xs image rest files.1)

have_spaces : (hs : List HeldSpace) (spaces : List SpaceInfo) → AreMadeSpaces hs spaces → HaveSpaces hs (empty spaces)
have_spaces [] [] are = tt
have_spaces [] (x ∷ xs) are = absurd are
have_spaces (h ∷ hs) [] are = absurd are
have_spaces (h ∷ hs) (x ∷ xs) (id, pages, key_id, some, made, rest) =
    let none : Option PlainPage = None in
    let long : length (replicate (x.pages - 1) none) ≡ x.pages - 1 = length-replicate (x.pages - 1) none in
    (id, pages, key_id, omega (arith, long, some, pages), have_spaces hs xs rest)

-- what a home shows: page 0 its text, and the others zero bytes
home_first : (spaces : List SpaceInfo) (bytes : FileName → List ℕ) (s p : ℕ) (f : IsSpaceOf spaces bytes s p) → place 16384 0 (bytes (Space s)) ≡ first_text f.info
home_first spaces bytes s p f = ap (place 16384 0) f.file ∙ space_first f.info f.made f.some

home_other : (spaces : List SpaceInfo) (bytes : FileName → List ℕ) (s p : ℕ) (f : IsSpaceOf spaces bytes s p) → p ≢ 0 → place 16384 p (bytes (Space s)) ≡ zeros 16384
home_other spaces bytes s p f ne = ap (place 16384 p) f.file ∙ space_other f.info f.made f.some p ne f.below

module _ (header : HeldHeader) (spaces : List SpaceInfo) (w : IsWritableHeader header) (are : AreMadeSpaces header.spaces spaces) (image : Image) (log : image.bytes Log ≡ log_made header) (double : image.bytes Double ≡ zeros (64 * 16896))
    (files : AreSpaceFiles image.bytes spaces) where
  -- the log says nothing from block 2 on
  abbrev pub empty_log : LogView (List Change)
  empty_log = record { from = 2; end = 2; run = [] }

  abbrev of : (s p : ℕ) → has_page header.spaces s p ≡ true → IsSpaceOf spaces image.bytes s p
  of s p has = space_of header.spaces spaces image.bytes s p are files has

  no_slot : (i : ℕ) (x : Slot) → i < 64 → slot_held (place 16896 i (image.bytes Double)) ≡ Some x → ⊥
  unfolding place
  no_slot i x lt is =
      let zero_there : place 16896 i (image.bytes Double) ≡ zeros 16896 = ap (place 16896 i) double ∙ range-zeros (i * 16896) 16896 (64 * 16896) (omega (arith, lt)) in
      none-some x (sym (ap slot_held zero_there ∙ zero_slot 16896 (omega arith)) ∙ is)

  pub no_copy : (s p i : ℕ) (t : Text) → IsCopy (view empty_log image) s p i t → ⊥
  no_copy s p i t copy = no_slot i (record { space = s; page = p; text = t }) copy.within copy.is

  placed : (s p : ℕ) → has_page header.spaces s p ≡ true → IsPlaced p (place 16384 p (image.bytes (Space s)))
  placed s zero has = let f = of s 0 has in OwnText (text_at 8192 0 (first_text f.info)) (ap (held 0) (home_first spaces image.bytes s 0 f) ∙ first_held f.info f.made)
  placed s (suc p) has = let f = of s (suc p) has in let ne : suc p ≢ 0 = λ e. omega (arith, e) in ZeroBytes (ap (held (suc p)) (home_other spaces image.bytes s (suc p) f ne) ∙ zero_home (suc p) 16384 ne (omega arith))

  module _ (keys : List RingEntry) where
    abbrev theory : pages.Theory
    theory = store_theory header keys (salts_of (empty spaces))

    head_means_here : (s : ℕ) (f : IsSpaceOf spaces image.bytes s 0) → MeansPage header keys (salts_of (empty spaces)) s 0 (text_at 8192 0 (first_text f.info)) (Head f.info)
    head_means_here s f = (refl, f.id, f.made.typed, subst (λ (n : ℕ). IsText 16384 n 0 8192 0 None (head_page f.info) (first_text f.info)) f.id (first_is_text f.info f.made))

    page_recovers : (s p : ℕ) → has_page header.spaces s p ≡ true → pages.PageRecovers theory (view empty_log image) (pages_of (empty spaces)) s p
    page_recovers s zero has =
        let f = of s 0 has in
        record {
          chosen = Some (text_at 8192 0 (first_text f.info));
          is = ByHome (text_at 8192 0 (first_text f.info)) (ap (held 0) (home_first spaces image.bytes s 0 f) ∙ first_held f.info f.made) refl;
          gives = (Head f.info, head_means_here s f, omega arith, f.page 0);
        }
    page_recovers s (suc p) has =
        let f = of s (suc p) has in
        let ne : suc p ≢ 0 = λ e. omega (arith, e) in
        record {
          chosen = None;
          is = ByNone (ap (held (suc p)) (home_other spaces image.bytes s (suc p) f ne) ∙ zero_home (suc p) 16384 ne (omega arith)) (λ i t copy. no_copy s (suc p) i t copy) refl;
          gives = (ne, f.page (suc p) ∙ ap page_held (none_at (f.info.pages - 1) p None));
        }

    pub recovers_by : RecoversBy image keys header empty_log (empty spaces)
    recovers_by = record {
      reading = record {
        long = record {
          log = ap length log ∙ length-made header w;
          double = ap length double ∙ length-zeros (64 * 16896);
          spaces = spaces_long header.spaces spaces image are files;
        };
        run = record {
          run = subst (λ (file : List ℕ). IsRun header.blocks file 2 2) (sym log) (made_run header w);
          entries = refl;
        };
        of_store = tt;
        placed = placed;
        spaces = have_spaces header.spaces spaces are;
        clear = subst (λ (file : List ℕ). IsClear header.blocks file (2 + header.blocks)) (sym log) (made_clear header w (2 + header.blocks) (omega arith));
      };
      pages = record {
        pages = page_recovers;
        slots = λ s p i t has live. absurd (no_copy s p i t live.copy);
      };
    }

    unfoldable pub empty_recovers : Recovers image keys (empty spaces) 1
    empty_recovers = record {
      header = header;
      is_header = ap (λ (file : List ℕ). header_in (place 4096 0 file)) log ∙ made_header header w;
      log = empty_log;
      is_last = refl;
      by = recovers_by;
    }

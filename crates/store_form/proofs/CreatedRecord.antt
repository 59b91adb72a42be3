-- The record of writes of a creation is that of a new store.
use Rattle.std.proofs.Common.{◌≡◌, ◌⊎◌, inl, inr, ℕ, ◌<◌, ◌≤◌, Bool, true, false, nat_eq, nat_lt, if◌then◌else◌, List, [], ◌∷◌, ◌++◌, None, refl, sym, ap, subst, ◌∙◌, arith}
use Rattle.std.proofs.lemmas.Bool.Decides.{nat_tests}
use Rattle.std.proofs.lemmas.List.{append-nil}
use Rattle.disk_model.specs.Event.{Event, record_of}
use Rattle.key_ring.specs.Ring.{RingEntry}
use Rattle.page_places.specs.Texts.{text_in}
use Rattle.page_text.specs.Text.{IsText}
use Rattle.space_head.specs.declared.space.SpaceInfo.{SpaceInfo}
use Rattle.store_files.specs.Header.{HeldHeader, HeldSpace}
use Rattle.store_files.specs.Pages.{Head, MeansPage, Page, has_page, head_page, page_in, pages_of, salts_of}
use Rattle.store_files.proofs.TextsHeld.{text_at}
use Rattle.store_image.specs.LifeStages.{AreCreated}
use Rattle.store_image.specs.Record.{Item, PageText, RingBlock, IsAmongBlocks, IsAmongTexts}
use Rattle.store_image.specs.View.{Text}
use Rattle.store_model.specs.Fold.{empty, empty_space}
use Rattle.crash_image.specs.StoreTheory.{store_theory}
use Rattle.crash_image.specs.Writes.{written_items}
use Rattle.store_form.specs.Created.{AreFirstPages, IsFirstPage, IsFirstTextOf, RecordsCreation, WritesFirstPages}
use Rattle.store_form.specs.Creation.{first_text}
use Rattle.store_form.specs.Made.{AreMadeSpaces, CanBeMade, DifferInId, HasNotId, IsMadeInfo}
use Rattle.store_form.proofs.FirstTexts.{first_in, first_is_text}

-- the space of which a text is the first one
record IsFirstOf (hs : List HeldSpace) (spaces : List SpaceInfo) (s : ℕ) (t : Text) : Type 0 where
  info : SpaceInfo
  made : IsMadeInfo info
  id : info.space ≡ s
  text : t ≡ text_in (first_text info)
  page : pages_of (empty spaces) s 0 ≡ page_in (empty_space info) 0
  has : has_page hs s 0 ≡ true

not_id : (id : ℕ) (xs : List SpaceInfo) (s : ℕ) (t : Text) → HasNotId id xs → IsFirstTextOf xs s t → nat_eq id s ≡ false
not_id id [] s t not first = absurd first
not_id id (x ∷ xs) s t not (inl (is, text)) = ap (nat_eq id) (sym is) ∙ not.0
not_id id (x ∷ xs) s t not (inr later) = not_id id xs s t not.2 later

found_first : (hs : List HeldSpace) (spaces : List SpaceInfo) (s : ℕ) (t : Text) → AreMadeSpaces hs spaces → DifferInId spaces → IsFirstTextOf spaces s t → IsFirstOf hs spaces s t
found_first hs [] s t are differ first = absurd first
found_first [] (x ∷ xs) s t are differ first = absurd are
found_first (h ∷ hs) (x ∷ xs) s t (id, pages, key_id, some, made, rest) differ (inl (is, text)) =
    let test : nat_eq x.space s ≡ true = grind (arith, nat_tests) in
    let held : nat_eq h.space s ≡ true = ap (λ (n : ℕ). nat_eq n s) (sym id) ∙ test in
    let more : 0 < h.pages = omega (arith, some, pages) in
    let below : nat_lt 0 h.pages ≡ true = grind (arith, nat_tests) in
    record {
      info = x;
      made = made;
      id = is;
      text = text;
      page = ap (λ (b : Bool). if b then page_in (empty_space x) 0 else pages_of (empty xs) s 0) test;
      has = ap (λ (b : Bool). if b then nat_lt 0 h.pages else has_page hs s 0) held ∙ below;
    }
found_first (h ∷ hs) (x ∷ xs) s t (id, pages, key_id, some, made, rest) differ (inr later) =
    let found = found_first hs xs s t rest differ.1 later in
    let test : nat_eq x.space s ≡ false = not_id x.space xs s t differ.0 later in
    let held : nat_eq h.space s ≡ false = ap (λ (n : ℕ). nat_eq n s) (sym id) ∙ test in
    record {
      info = found.info;
      made = found.made;
      id = found.id;
      text = found.text;
      page = ap (λ (b : Bool). if b then page_in (empty_space x) 0 else pages_of (empty xs) s 0) test ∙ found.page;
      has = ap (λ (b : Bool). if b then nat_lt 0 h.pages else has_page hs s 0) held ∙ found.has;
    }

among_first : (spaces : List SpaceInfo) (items : List Item) (s p : ℕ) (t : Text) → AreFirstPages spaces items → IsAmongTexts items s p t → IsFirstPage spaces (PageText s p t)
among_first spaces [] s p t all among = absurd among
among_first spaces (PageText z q u ∷ items) s p t all (inl (is_s, is_p, is_t)) =
    subst (λ (n : ℕ). IsFirstPage spaces (PageText n p t)) (sym is_s) (subst (λ (n : ℕ). IsFirstPage spaces (PageText z n t)) (sym is_p) (subst (λ (x : Text). IsFirstPage spaces (PageText z q x)) (sym is_t) all.0))
among_first spaces (PageText z q u ∷ items) s p t all (inr later) = among_first spaces items s p t all.1 later
among_first spaces (RingBlock n v b ∷ items) s p t all among = absurd all.0

no_block : (spaces : List SpaceInfo) (items : List Item) (n v : ℕ) (b : List ℕ) → AreFirstPages spaces items → IsAmongBlocks items n v b → ⊥
no_block spaces [] n v b all among = among
no_block spaces (PageText z q u ∷ items) n v b all among = no_block spaces items n v b all.1 among
no_block spaces (RingBlock m w c ∷ items) n v b all among = all.0

module _ (header : HeldHeader) (spaces : List SpaceInfo) (can : CanBeMade header spaces) (keys : List RingEntry) where
  first_means : (s : ℕ) (t : Text) → IsFirstOf header.spaces spaces s t → MeansPage header keys (salts_of (empty spaces)) s 0 t (pages_of (empty spaces) s 0)
  first_means s t f =
      let is : text_at 8192 0 (first_text f.info) ≡ t = sym (f.text ∙ first_in f.info f.made) in
      subst (λ (x : Page). MeansPage header keys (salts_of (empty spaces)) s 0 t x) (sym f.page)
      (subst (λ (x : Text). MeansPage header keys (salts_of (empty spaces)) s 0 x (Head f.info)) is
      (refl, f.id, f.made.typed, subst (λ (n : ℕ). IsText 16384 n 0 8192 0 None (head_page f.info) (first_text f.info)) f.id (first_is_text f.info f.made)))

  are_created : (items : List Item) → AreFirstPages spaces items → AreCreated (store_theory header keys (salts_of (empty spaces))) items (pages_of (empty spaces))
  are_created items all = record {
    there = λ s p t among.
        let first = among_first spaces items s p t all among in
        subst (λ (n : ℕ). has_page header.spaces s n ≡ true) (sym first.0) (found_first header.spaces spaces s t can.spaces_are can.differ first.2).has;
    texts = λ s p t among.
        let first = among_first spaces items s p t all among in (
          first.1,
          subst (λ (n : ℕ). MeansPage header keys (salts_of (empty spaces)) s n t (pages_of (empty spaces) s n)) (sym first.0)
              (first_means s t (found_first header.spaces spaces s t can.spaces_are can.differ first.2)),
        );
    no_blocks = λ n v b among. no_block spaces items n v b all among;
  }

pub record_means : (header : HeldHeader) (spaces : List SpaceInfo) → CanBeMade header spaces → (s m : List Event) → WritesFirstPages spaces s m → RecordsCreation header spaces s m
record_means header spaces can s m wrote none keys =
    let is : written_items (record_of m) ≡ wrote.items = wrote.is ∙ ap (λ (l : List Item). wrote.items ++ l) none ∙ append-nil wrote.items in
    subst (λ (l : List Item). AreCreated (store_theory header keys (salts_of (empty spaces))) l (pages_of (empty spaces))) (sym is) (are_created header spaces can keys wrote.items wrote.first)

-- nothing was written
pub record_none : (header : HeldHeader) (spaces : List SpaceInfo) (s : List Event) → RecordsCreation header spaces s s
record_none header spaces s none keys =
    subst (λ (l : List Item). AreCreated (store_theory header keys (salts_of (empty spaces))) l (pages_of (empty spaces))) (sym none)
    (record { there = λ z p t among. absurd among; texts = λ z p t among. absurd among; no_blocks = λ n v b among. among })

-- The keys that were gathered are those that the image needs.
use Rattle.std.proofs.Common.{◌≡◌, ◌≢◌, ◌⊎◌, ℕ, zero, suc, ◌+◌, ◌<◌, ◌≤◌, Bool, true, false, true≢false, nat_eq, nat_lt, if◌then◌else◌, List, [], ◌∷◌, drop, length, Some, refl, sym, ap, subst, ◌∙◌, arith, inl, inr, ⊎_elim, add-one}
use Rattle.std.specs.Prelude.{Contains}
use Rattle.std.proofs.lemmas.Bool.{cases_lt, cond-true, cond-false}
use Rattle.std.proofs.lemmas.Bool.Decides.{nat_tests}
use Rattle.std.proofs.lemmas.List.{drop_all}
use Rattle.places.specs.Places.{place}
use Rattle.page_places.specs.Views.{view}
use Rattle.redo_text.specs.declared.change.Change.{Change}
use Rattle.store_image.specs.Places.{LogView}
use Rattle.store_image.specs.View.{IsChosen, IsLive}
use Rattle.store_files.specs.Header.{HeldHeader, HeldSpace, are_in_order}
use Rattle.store_files.specs.Pages.{has_page, key_id_of}
use Rattle.store_files.proofs.SpacesInOrder.{ordered, other_space}
use Rattle.crash_image.specs.Stands.{Named, OfChosen, OfSlot, OfBlock, OfLog, OfSpace}
use Rattle.image_pages.specs.Choosing.{page_view, no_log}
use Rattle.image_pages.proofs.Views.{chosen_over, live_over}
use Rattle.image_reader.specs.Files.{ImageFiles, image_of, space_bytes}
use Rattle.image_reader.specs.HeaderSpaces.{IsSpaceAt}
use Rattle.image_reader.specs.Naming.{AddsNames, AreNamed, AreOnce, Below, IsBlockName, IsChosenName, IsSlotName, IsPageNameIn, IsNameAt, IsSpaceName}
use Rattle.image_reader.proofs.HeaderSpaces.{has_at, has_named, some_named}
use Rattle.image_reader.proofs.Takes.{none_item, same_item, drop_nil}

-- the key id of a space that the header names
key_at_space : (id : ℕ) (hs : List HeldSpace) (i : ℕ) (h : HeldSpace) (rest : List HeldSpace) → are_in_order id hs ≡ true → drop i hs ≡ h ∷ rest → key_id_of hs h.space ≡ h.key_id
key_at_space id [] i h rest order at = absurd (none_item h rest (sym (drop_nil i) ∙ at))
key_at_space id (g ∷ gs) zero h rest order at =
    let own : nat_eq g.space g.space ≡ true = grind (arith, nat_tests) in
    subst (λ (x : HeldSpace). key_id_of (g ∷ gs) x.space ≡ x.key_id) (same_item g h gs rest at) (cond-true (nat_eq g.space g.space) g.key_id (key_id_of gs g.space) own)
key_at_space id (g ∷ gs) (suc i) h rest order at =
    let o = ordered id g gs order in
    let has = has_at g.space gs i h rest 0 o.rest at (some_named g.space gs i h rest o.rest at) in
    cond-false (nat_eq g.space h.space) g.key_id (key_id_of gs h.space) (other_space g gs h.space 0 o.rest has) ∙ key_at_space g.space gs i h rest o.rest at

-- the space to which a page of the store belongs
pub record IsPageOf (hs : List HeldSpace) (s p : ℕ) : Type 0 where
  pub index : ℕ
  pub space : HeldSpace
  pub is : drop index hs ≡ space ∷ drop (index + 1) hs
  pub id : s ≡ space.space
  pub within : p < space.pages

page_of : (hs : List HeldSpace) (s p : ℕ) → has_page hs s p ≡ true → IsPageOf hs s p
page_of [] s p has = absurd (true≢false (sym has))
page_of (h ∷ hs) s p has = by (nat_eq h.space s) refl (λ rest. page_of hs s p rest) has
  where
    behind : IsPageOf hs s p → IsPageOf (h ∷ hs) s p
    behind f = record { index = suc f.index; space = f.space; is = f.is ∙ ap (λ (k : ℕ). f.space ∷ drop k hs) (add-one f.index) ∙ ap (λ (k : ℕ). f.space ∷ drop k (h ∷ hs)) (sym (add-one (suc f.index))); id = f.id; within = f.within }

    by : (b : Bool) → nat_eq h.space s ≡ b → (has_page hs s p ≡ true → IsPageOf hs s p) → (if b then nat_lt p h.pages else has_page hs s p) ≡ true → IsPageOf (h ∷ hs) s p
    by true same later lt = record { index = 0; space = h; is = refl; id = grind (arith, nat_tests); within = grind (arith, nat_tests) }
    by false same later has = behind (later has)

below_length : (hs : List HeldSpace) (i : ℕ) (h : HeldSpace) (rest : List HeldSpace) → drop i hs ≡ h ∷ rest → i < length hs
below_length hs i h rest at = ⊎_elim (λ (l : i < length hs). l) (λ (ge : length hs ≤ i). absurd (none_item h rest (sym (drop_all i hs ge) ∙ at))) (cases_lt i (length hs))

module _ (files : ImageFiles) (header : HeldHeader) (log : LogView (List Change)) (active : ℕ) (order : are_in_order 0 header.spaces ≡ true) where
  abbrev Needed : ℕ → ℕ → Type 0
  Needed id version = Named (image_of files) header log active id version

  abbrev Blocks : ℕ × ℕ → Type 0
  Blocks = Below (IsBlockName header.blocks files.log log.from) log.end

  abbrev Spaces : ℕ × ℕ → Type 0
  Spaces = Below (IsNameAt files active header.spaces) (length header.spaces)

  key_is : (i : ℕ) (h : HeldSpace) → drop i header.spaces ≡ h ∷ drop (i + 1) header.spaces → key_id_of header.spaces h.space ≡ h.key_id
  key_is i h at = key_at_space 0 header.spaces i h (drop (i + 1) header.spaces) order at

  block_needed : (id version : ℕ) → Blocks (id, version) → Needed id version
  block_needed id version (n, lt, is) = OfBlock n is.0 lt (ap (λ (q : ℕ × ℕ). q.0) is.1) (ap (λ (q : ℕ × ℕ). q.1) is.1)

  module _ (i : ℕ) (h : HeldSpace) (at : drop i header.spaces ≡ h ∷ drop (i + 1) header.spaces) (id version : ℕ) where
    here : IsSpaceAt header.spaces h
    here = record { index = i; is = at }

    abbrev pages : List ℕ
    pages = space_bytes files.spaces h.space

    head_needed : ◌≡◌ {A = ℕ × ℕ} (id, version) (h.key_id, active) → Needed id version
    head_needed e = OfSpace h.space (has_named header.spaces h 0 order here (some_named 0 header.spaces i h _ order at)) (ap (λ (q : ℕ × ℕ). q.0) e ∙ sym (key_is i h at)) (ap (λ (q : ℕ × ℕ). q.1) e)

    chosen_needed : (p : ℕ) → p < h.pages → IsChosenName (place 16384 p pages) files.double h.space p h.key_id (id, version) → Needed id version
    chosen_needed p within c =
        OfChosen h.space p c.0 (has_named header.spaces h p order here within) (chosen_over (page_view no_log (place 16384 p pages) files.double) (view log (image_of files)) h.space p refl (λ i. refl) (Some c.0) c.1) c.2.0
        (ap (λ (q : ℕ × ℕ). q.0) c.2.1 ∙ sym (key_is i h at)) (ap (λ (q : ℕ × ℕ). q.1) c.2.1)

    slot_needed : (p j : ℕ) → p < h.pages → IsSlotName (place 16384 p pages) files.double h.space p h.key_id j (id, version) → Needed id version
    slot_needed p j within c =
        OfSlot h.space p j c.0 (has_named header.spaces h p order here within) (live_over (page_view no_log (place 16384 p pages) files.double) (view log (image_of files)) h.space p refl (λ i. refl) j c.0 c.1) c.2.0
        (ap (λ (q : ℕ × ℕ). q.0) c.2.1 ∙ sym (key_is i h at)) (ap (λ (q : ℕ × ℕ). q.1) c.2.1)

    page_needed : Below (IsPageNameIn pages files.double h.space h.key_id) h.pages (id, version) → Needed id version
    page_needed (p, within, either) =
        ⊎_elim (λ (c : IsChosenName (place 16384 p pages) files.double h.space p h.key_id (id, version)). chosen_needed p within c)
        (λ (l : Below (IsSlotName (place 16384 p pages) files.double h.space p h.key_id) 64 (id, version)). slot_needed p l.0 within l.2) either

    one_needed : IsSpaceName files active h (id, version) → Needed id version
    one_needed name = ⊎_elim (λ (e : ◌≡◌ {A = ℕ × ℕ} (id, version) (h.key_id, active)). head_needed e) (λ (p : Below (IsPageNameIn pages files.double h.space h.key_id) h.pages (id, version)). page_needed p) name

  space_needed : (id version : ℕ) → Spaces (id, version) → Needed id version
  space_needed id version (i, lt, q) = one_needed i q.0 q.1 id version q.2

  pair : (a b c d : ℕ) → a ≡ c → b ≡ d → ◌≡◌ {A = ℕ × ℕ} (a, b) (c, d)
  pair a b c d x y = λ i. (x i, y i)

  -- each that is needed is of a block, of the log, or of a space
  gathered : (id version : ℕ) → Needed id version → Blocks (id, version) ⊎ (◌≡◌ {A = ℕ × ℕ} (id, version) (1, active) ⊎ Spaces (id, version))
  gathered id version (OfBlock n from lt ids versions) = inl (n, lt, (from, pair _ _ _ _ ids versions))
  gathered id version (OfLog ids versions) = inr (inl (pair _ _ _ _ ids versions))
  gathered id version (OfSpace s has ids versions) =
      let f = page_of header.spaces s 0 has in
      let key = ap (key_id_of header.spaces) f.id ∙ key_is f.index f.space f.is in
      inr (inr (f.index, below_length header.spaces f.index f.space _ f.is, (f.space, f.is, inl (pair _ _ _ _ (ids ∙ key) versions))))
  gathered id version (OfChosen s p t has is clear ids versions) =
      let f = page_of header.spaces s p has in
      let key = ap (key_id_of header.spaces) f.id ∙ key_is f.index f.space f.is in
      let one = chosen_over (view log (image_of files)) (page_view no_log (place 16384 p (space_bytes files.spaces s)) files.double) s p refl (λ i. refl) (Some t) is in
      let moved = subst (λ (z : ℕ). IsChosen (page_view no_log (place 16384 p (space_bytes files.spaces z)) files.double) z p (Some t)) f.id one in
      inr (inr (f.index, below_length header.spaces f.index f.space _ f.is, (f.space, f.is, inr (p, f.within, inl (t, moved, (clear, pair _ _ _ _ (ids ∙ key) versions))))))
  gathered id version (OfSlot s p j t has live clear ids versions) =
      let f = page_of header.spaces s p has in
      let key = ap (key_id_of header.spaces) f.id ∙ key_is f.index f.space f.is in
      let one = live_over (view log (image_of files)) (page_view no_log (place 16384 p (space_bytes files.spaces s)) files.double) s p refl (λ i. refl) j t live in
      let moved = subst (λ (z : ℕ). IsLive (page_view no_log (place 16384 p (space_bytes files.spaces z)) files.double) z p j t) f.id one in
      inr (inr (f.index, below_length header.spaces f.index f.space _ f.is, (f.space, f.is, inr (p, f.within, inr (j, live.copy.within, (t, moved, (clear, pair _ _ _ _ (ids ∙ key) versions)))))))

  pub named_of : (a b c d : List (ℕ × ℕ)) → a ≡ [] → AddsNames Blocks a b → AddsNames (λ x. x ≡ (1, active)) b c → AddsNames Spaces c d → AreNamed (image_of files) header log active d
  named_of a b c d empty blocks own spaces = record { all = all; only = only; once = spaces.once (own.once (blocks.once none_once)) }
    where
      none_once : AreOnce a
      none_once i j x li lj is js = let none = ap length empty in absurd (omega (arith, none, li))

      none_there : (x : ℕ × ℕ) → Contains a x → ⊥
      none_there x (k, lt, is) = let none = ap length empty in omega (arith, none, lt)

      all : (id version : ℕ) → Needed id version → Contains d (id, version)
      all id version needed =
          ⊎_elim (λ (x : Blocks (id, version)). spaces.keeps (id, version) (own.keeps (id, version) (blocks.all (id, version) x)))
          (λ rest. ⊎_elim (λ (x : ◌≡◌ {A = ℕ × ℕ} (id, version) (1, active)). spaces.keeps (id, version) (own.all (id, version) x)) (λ (x : Spaces (id, version)). spaces.all (id, version) x) rest) (gathered id version needed)

      only : (id version : ℕ) → Contains d (id, version) → Needed id version
      only id version there =
          ⊎_elim
          (λ (mid : Contains c (id, version)).
          ⊎_elim
          (λ (low : Contains b (id, version)). ⊎_elim (λ (x : Contains a (id, version)). absurd (none_there (id, version) x)) (λ (x : Blocks (id, version)). block_needed id version x) (blocks.only (id, version) low))
          (λ (e : ◌≡◌ {A = ℕ × ℕ} (id, version) (1, active)). OfLog (ap (λ (q : ℕ × ℕ). q.0) e) (ap (λ (q : ℕ × ℕ). q.1) e)) (own.only (id, version) mid))
          (λ (x : Spaces (id, version)). space_needed id version x) (spaces.only (id, version) there)

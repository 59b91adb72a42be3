-- The pages before one that is refused are right.
use Rattle.std.proofs.Common.{◌≡◌, ◌≢◌, ◌⊎◌, inl, inr, ℕ, zero, suc, ◌+◌, ◌<◌, ◌≤◌, Bool, true, false, true≢false, nat_eq, nat_lt, if◌then◌else◌, List, [], ◌∷◌, take, drop, length, Option, Some, None, refl, sym, ap, subst, ◌∙◌, arith, add-one}
use Rattle.std.specs.Prelude.{slice_index_or}
use Rattle.std.proofs.lemmas.Bool.Decides.{nat_tests}
use Rattle.key_ring.specs.Ring.{RingEntry}
use Rattle.places.specs.Places.{place}
use Rattle.redo_text.specs.declared.change.Change.{Change}
use Rattle.space_head.specs.declared.space.SpaceInfo.{SpaceInfo}
use Rattle.page_places.specs.Texts.{page_bytes}
use Rattle.page_places.specs.Views.{view}
use Rattle.store_image.specs.Places.{LogView}
use Rattle.store_image.specs.Recovers.{PageRecovers, Gives}
use Rattle.store_image.specs.View.{Text, View, slot_count}
use Rattle.store_model.specs.declared.contents.PlainPage.{PlainPage}
use Rattle.store_model.specs.declared.contents.SpaceContents.{SpaceContents}
use Rattle.store_files.specs.Header.{HeldHeader, HeldSpace, are_in_order}
use Rattle.store_files.specs.Pages.{Page, Head as HeadPage, Unused, Used, MeansPage, has_page, page_held, page_in}
use Rattle.store_files.proofs.SpacesInOrder.{ordered}
use Rattle.crash_image.specs.StoreTheory.{store_theory}
use Rattle.image_reader.specs.Files.{ImageFiles, image_of, space_bytes}
use Rattle.image_reader.specs.HeaderSpaces.{IsSpaceAt, IsPageAt, IsHeaderInfo}
use Rattle.image_reader.specs.Refusals.{Precedes, HasHead, IsReadUnder, HoldsTo, IsPageRight, IsHeadRight, AreRightBefore}
use Rattle.image_reader.specs.Spaces.{PageGives, PageHolds, HeadHolds, PagesHold, SpaceHolds, AllGive}
use Rattle.image_reader.proofs.HeaderSpaces.{least}
use Rattle.image_reader.proofs.Recovery.{page_whole, slot_whole, live_one}
use Rattle.image_reader.proofs.Takes.{none_item, same_item, drop_nil}

-- an element and what is behind it
at_rest : (hs : List HeldSpace) (j : ℕ) (h : HeldSpace) (rest : List HeldSpace) → drop j hs ≡ h ∷ rest → drop j hs ≡ h ∷ drop (j + 1) hs
at_rest [] j h rest at = absurd (none_item h rest (sym (drop_nil j) ∙ at))
at_rest (g ∷ gs) zero h rest at = ap (λ (x : HeldSpace). x ∷ gs) (same_item g h gs rest at)
at_rest (g ∷ gs) (suc j) h rest at = let e : suc (j + 1) ≡ suc j + 1 = omega arith in at_rest gs j h rest at ∙ ap (λ (k : ℕ). h ∷ drop k (g ∷ gs)) e

-- what page 0 recovers to hangs on no salt
module _ (header : HeldHeader) (keys : List RingEntry) (a b : ℕ → List ℕ) (v : View (List Change)) (c : ℕ → ℕ → Page) (s : ℕ) where
  means_any : (t : Text) (x : Page) → MeansPage header keys a s 0 t x → MeansPage header keys b s 0 t x
  means_any t (HeadPage info) m = m
  means_any t Unused m = m
  means_any t (Used page) m = absurd (m.0 refl)

  gives_any : (o : Option Text) → Gives (store_theory header keys a) v c s 0 o → Gives (store_theory header keys b) v c s 0 o
  gives_any (Some t) (x, m, le, e) = (x, means_any t x m, le, e)
  gives_any None g = g

  head_any : PageRecovers (store_theory header keys a) v c s 0 → PageRecovers (store_theory header keys b) v c s 0
  head_any r = record { chosen = r.chosen; is = r.is; gives = gives_any r.chosen r.gives }

module _ (files : ImageFiles) (keys : List RingEntry) (header : HeldHeader) (text : LogView (List Change)) where
  abbrev Right : ℕ → ℕ → Type 0
  Right s p = IsPageRight (image_of files) keys header text s p

  abbrev HeadIs : ℕ → Type 0
  HeadIs s = IsHeadRight (image_of files) keys header text s

  abbrev Gives1 : (ℕ → List ℕ) → ℕ → ℕ → Page → Type 0
  Gives1 salts s p x = PageGives header keys text (place page_bytes p (space_bytes files.spaces s)) files.double salts s p x

  pub holds_to : (s p : ℕ) (salt : List ℕ) (x : Page) → ((salts : ℕ → List ℕ) → salts s ≡ salt → Gives1 salts s p x) → HoldsTo (image_of files) keys header text s p salt x slot_count
  holds_to s p salt x g = record {
    is = λ salts same. page_whole header keys text files salts s p (λ z q. x) x refl (g salts same).page;
    slots = λ j t lt live salts same. slot_whole header keys text files salts s p (λ z q. x) x refl t ((g salts same).slots j t (live_one header keys text files salts s p j t live));
  }

  module _ (h : HeldSpace) (named : IsSpaceAt header.spaces h) where
    pub page_at : (p : ℕ) → p < h.pages → IsPageAt header.spaces h.space p
    page_at p within = record { space = h; named = named; id = refl; within = within }

    -- ---- of the space itself

    module _ (info : SpaceInfo) (some : 0 < h.pages) (holds : HeadHolds text (place page_bytes 0 (space_bytes files.spaces h.space)) files.double h.space info) where
      pub head_of : HasHead (image_of files) keys header text h.space info
      head_of = record { is = λ salts. page_whole header keys text files salts h.space 0 (λ z q. HeadPage info) (HeadPage info) refl (holds.any header keys salts).page }

      pub head_to : (salt : List ℕ) → HoldsTo (image_of files) keys header text h.space 0 salt (HeadPage info) slot_count
      head_to salt = holds_to h.space 0 salt (HeadPage info) (λ salts same. holds.any header keys salts)

      pub under_head : (p : ℕ) → p < h.pages → IsReadUnder (image_of files) keys header text h.space p info.salt
      under_head p within = record { page = page_at p within; salted = λ _. record { info = info; head = head_of; is = refl } }

      pub head_right : Right h.space 0
      head_right = record { salt = info.salt; under = record { page = page_at 0 some; salted = λ other. absurd (other refl) }; holds = HeadPage info; to = head_to info.salt }

      pub head_is : IsHeaderInfo h info → HeadIs h.space
      head_is is = record { space = h; named = named; id = refl; info = info; head = head_of; is = is }

      pub page_right : (i : ℕ) (pages : List (Option PlainPage)) → i < length pages → suc i < h.pages → PagesHold header keys text (space_bytes files.spaces h.space) files.double info.salt h.space pages → Right h.space (suc i)
      page_right i pages lt within each = record {
        salt = info.salt;
        under = under_head (suc i) within;
        holds = page_held (slice_index_or pages i None);
        to = holds_to h.space (suc i) info.salt (page_held (slice_index_or pages i None))
            (λ salts same. subst (λ (n : ℕ). Gives1 salts h.space n (page_held (slice_index_or pages i None))) (add-one i) ((each.each i lt).any salts same));
      }

    -- ---- of a space that holds contents

    module _ (x : SpaceContents) (holds : SpaceHolds header keys text (space_bytes files.spaces h.space) files.double h x) where
      own_head : (some : 0 < h.pages) → HasHead (image_of files) keys header text h.space x.info
      own_head some = record {
        is = λ salts. head_any header keys (λ s. x.info.salt) salts (view text (image_of files)) (λ z q. HeadPage x.info) h.space
            (page_whole header keys text files (λ s. x.info.salt) h.space 0 (λ z q. HeadPage x.info) (HeadPage x.info) refl ((holds.any (λ s. x.info.salt) refl).pages 0 some).page);
      }

      pub space_page : (some : 0 < h.pages) (q : ℕ) → q < h.pages → Right h.space q
      space_page some q below = record {
        salt = x.info.salt;
        under = record { page = page_at q below; salted = λ _. record { info = x.info; head = own_head some; is = refl } };
        holds = page_in x q;
        to = holds_to h.space q x.info.salt (page_in x q) (λ salts same. (holds.any salts same).pages q below);
      }

      pub space_head : (some : 0 < h.pages) → HeadIs h.space
      space_head some =
          let g = holds.any (λ s. x.info.salt) refl in
          record { space = h; named = named; id = refl; info = x.info; head = own_head some; is = record { space = g.space; size = g.size; key_id = g.key_id } }

  -- ---- of the spaces before

  -- a page of a space of a lesser id than the space at a place is one of those that hold contents
  pub record IsHeldBefore (z q : ℕ) : Type 0 where
    pub space : HeldSpace
    pub index : ℕ
    pub rest : List HeldSpace
    pub id : space.space ≡ z
    pub some : 0 < space.pages
    pub below : q < space.pages
    pub contents : SpaceContents
    pub holds : SpaceHolds header keys text (space_bytes files.spaces space.space) files.double space contents

  found : (id : ℕ) (hs : List HeldSpace) (xs : List SpaceContents) (i : ℕ) (h : HeldSpace) (rest : List HeldSpace) (z q : ℕ) → are_in_order id hs ≡ true → AllGive header keys text files (take i hs) xs → drop i hs ≡ h ∷ rest → z < h.space → has_page hs z q ≡ true
      → (f : IsHeldBefore z q) × (drop f.index hs ≡ f.space ∷ f.rest)
  found id [] xs i h rest z q order all at lt has = absurd (none_item h rest (sym (drop_nil i) ∙ at))
  found id (g ∷ gs) xs zero h rest z q order all at lt has =
      let e = ap (λ (x : HeldSpace). x.space) (same_item g h gs rest at) in
      let le = least id g gs z q order has in
      absurd (omega (arith, lt, e, le))
  found id (g ∷ gs) [] (suc i) h rest z q order all at lt has = absurd all
  found id (g ∷ gs) (x ∷ xs) (suc i) h rest z q order (first, more) at lt has =
      let o = ordered id g gs order in
      by o.some (nat_eq g.space z) refl (found g.space gs xs i h rest z q o.rest more at lt) has
    where
      by : 2 ≤ g.pages → (b : Bool) → nat_eq g.space z ≡ b → (has_page gs z q ≡ true → (f : IsHeldBefore z q) × (drop f.index gs ≡ f.space ∷ f.rest)) → (if b then nat_lt q g.pages else has_page gs z q) ≡ true → (f : IsHeldBefore z q) × (drop f.index (g ∷ gs) ≡ f.space ∷ f.rest)
      by two true same later has =
          let e : g.space ≡ z = grind (arith, nat_tests) in
          let below : q < g.pages = grind (arith, nat_tests) in
          (record { space = g; index = 0; rest = gs; id = e; some = omega (arith, two); below = below; contents = x; holds = first }, refl)
      by two false same later has =
          let (f, at) = later has in
          (record { space = f.space; index = suc f.index; rest = f.rest; id = f.id; some = f.some; below = f.below; contents = f.contents; holds = f.holds }, at)

  module _ (order : are_in_order 0 header.spaces ≡ true) (h : HeldSpace) (named : IsSpaceAt header.spaces h) (held : List SpaceContents) (all : AllGive header keys text files (take named.index header.spaces) held) where
    held_before : (z q : ℕ) → has_page header.spaces z q ≡ true → z < h.space → (f : IsHeldBefore z q) × IsSpaceAt header.spaces f.space
    held_before z q has lt =
        let (f, at) = found 0 header.spaces held named.index h (drop (named.index + 1) header.spaces) z q order all named.is lt has in
        (f, record { index = f.index; is = at_rest header.spaces f.index f.space f.rest at })

    page_before : (z q : ℕ) → has_page header.spaces z q ≡ true → z < h.space → Right z q
    page_before z q has lt = let (f, at) = held_before z q has lt in subst (λ (s : ℕ). Right s q) f.id (space_page f.space at f.contents f.holds f.some q f.below)

    head_before : (z : ℕ) → has_page header.spaces z 0 ≡ true → z < h.space → HeadIs z
    head_before z has lt = let (f, at) = held_before z 0 has lt in subst HeadIs f.id (space_head f.space at f.contents f.holds f.some)

    -- with what is known of the space itself
    pub right_before : (p : ℕ) → ((q : ℕ) → q < p → Right h.space q) → (0 < p → HeadIs h.space) → AreRightBefore (image_of files) keys header text h.space p
    right_before p pages head = record { pages = each; heads = its }
      where
        each : (z q : ℕ) → has_page header.spaces z q ≡ true → Precedes z q h.space p → Right z q
        each z q has (inl lt) = page_before z q has lt
        each z q has (inr (same, lt)) = subst (λ (s : ℕ). Right s q) (sym same) (pages q lt)

        its : (z : ℕ) → has_page header.spaces z 0 ≡ true → Precedes z 0 h.space p → HeadIs z
        its z has (inl lt) = head_before z has lt
        its z has (inr (same, lt)) = subst HeadIs (sym same) (head lt)

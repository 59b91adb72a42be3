-- Where a space of a header stands among its spaces, and in contents.
use Rattle.std.proofs.Common.{◌≡◌, ℕ, zero, suc, ◌+◌, ◌<◌, ◌≤◌, take, Bool, true, false, true≢false, nat_eq, nat_lt, if◌then◌else◌, List, [], ◌∷◌, drop, refl, sym, ap, subst, ◌∙◌, arith}
use Rattle.std.proofs.lemmas.Bool.Decides.{nat_tests}
use Rattle.std.proofs.lemmas.Bool.{cond-true, cond-false}
use Rattle.places.specs.Places.{place}
use Rattle.store_model.specs.declared.contents.SpaceContents.{SpaceContents}
use Rattle.store_files.specs.Header.{HeldSpace, are_in_order}
use Rattle.store_files.specs.Pages.{page_in, pages_of, salts_of, has_page}
use Rattle.store_files.proofs.SpacesInOrder.{above, ordered, other_space, has_first, has_rest}
use Rattle.image_reader.specs.Files.{ImageFiles, space_bytes}
use Rattle.image_reader.specs.HeaderSpaces.{IsSpaceAt}
use Rattle.image_reader.specs.Homes.{AreHomesRight}
use Rattle.image_reader.proofs.Takes.{none_item, same_item, drop_nil}
use Rattle.page_places.specs.Placed.{IsPlaced}
use Rattle.page_places.specs.Texts.{page_bytes}

-- the store has the pages of a space that its header names
pub has_at : (id : ℕ) (hs : List HeldSpace) (i : ℕ) (h : HeldSpace) (rest : List HeldSpace) (p : ℕ) → are_in_order id hs ≡ true → drop i hs ≡ h ∷ rest → p < h.pages → has_page hs h.space p ≡ true
has_at id [] i h rest p order at lt = absurd (none_item h rest (sym (drop_nil i) ∙ at))
has_at id (g ∷ gs) zero h rest p order at lt = let e = same_item g h gs rest at in subst (λ (x : HeldSpace). has_page (g ∷ gs) x.space p ≡ true) e (has_first g gs p (let same = ap (λ (x : HeldSpace). x.pages) e in omega (arith, lt, same)))
has_at id (g ∷ gs) (suc i) h rest p order at lt = let o = ordered id g gs order in has_rest g gs h.space p o.rest (has_at g.space gs i h rest p o.rest at lt)

pub has_named : (hs : List HeldSpace) (h : HeldSpace) (p : ℕ) → are_in_order 0 hs ≡ true → IsSpaceAt hs h → p < h.pages → has_page hs h.space p ≡ true
has_named hs h p order named lt = has_at 0 hs named.index h (drop (named.index + 1) hs) p order named.is lt

pub some_named : (id : ℕ) (hs : List HeldSpace) (i : ℕ) (h : HeldSpace) (rest : List HeldSpace) → are_in_order id hs ≡ true → drop i hs ≡ h ∷ rest → 0 < h.pages
some_named id [] i h rest order at = absurd (none_item h rest (sym (drop_nil i) ∙ at))
some_named id (g ∷ gs) zero h rest order at = let o = ordered id g gs order in subst (λ (x : HeldSpace). 0 < x.pages) (same_item g h gs rest at) (omega (arith, o.some))
some_named id (g ∷ gs) (suc i) h rest order at = let o = ordered id g gs order in some_named g.space gs i h rest o.rest at

-- ---- a fact of each page of each space

pub homes_all : (files : ImageFiles) (hs : List HeldSpace) → AreHomesRight files hs → (s p : ℕ) → has_page hs s p ≡ true → IsPlaced p (place page_bytes p (space_bytes files.spaces s))
homes_all files [] are s p has = absurd (true≢false (sym has))
homes_all files (h ∷ hs) (first, rest) s p has = by (nat_eq h.space s) refl (homes_all files hs rest s p) has
  where
    by : (b : Bool) → nat_eq h.space s ≡ b → (has_page hs s p ≡ true → IsPlaced p (place page_bytes p (space_bytes files.spaces s))) → (if b then nat_lt p h.pages else has_page hs s p) ≡ true → IsPlaced p (place page_bytes p (space_bytes files.spaces s))
    by true same later lt =
        let e : h.space ≡ s = grind (arith, nat_tests) in
        let below : p < h.pages = grind (arith, nat_tests) in
        subst (λ (z : ℕ). IsPlaced p (place page_bytes p (space_bytes files.spaces z))) e (first p below)
    by false same later has = later has

-- ---- what comes before a space, as the ids ascend

pub least : (id : ℕ) (g : HeldSpace) (gs : List HeldSpace) (z q : ℕ) → are_in_order id (g ∷ gs) ≡ true → has_page (g ∷ gs) z q ≡ true → g.space ≤ z
least id g gs z q order has = let o = ordered id g gs order in by (nat_eq g.space z) refl (above g.space gs z q o.rest) has
  where
    by : (b : Bool) → nat_eq g.space z ≡ b → (has_page gs z q ≡ true → g.space < z) → (if b then nat_lt q g.pages else has_page gs z q) ≡ true → g.space ≤ z
    by true same later has = let e : g.space ≡ z = grind (arith, nat_tests) in omega (arith, e)
    by false same later has = let more = later has in omega (arith, more)

-- a page of a space of a lesser id is one of the spaces before
pub before_in : (id : ℕ) (hs : List HeldSpace) (i : ℕ) (h : HeldSpace) (rest : List HeldSpace) (z q : ℕ) → are_in_order id hs ≡ true → drop i hs ≡ h ∷ rest → z < h.space → has_page hs z q ≡ true → has_page (take i hs) z q ≡ true
before_in id [] i h rest z q order at lt has = absurd (none_item h rest (sym (drop_nil i) ∙ at))
before_in id (g ∷ gs) zero h rest z q order at lt has =
    let e = ap (λ (x : HeldSpace). x.space) (same_item g h gs rest at) in
    let le = least id g gs z q order has in
    absurd (omega (arith, lt, e, le))
before_in id (g ∷ gs) (suc i) h rest z q order at lt has = let o = ordered id g gs order in by (nat_eq g.space z) (before_in g.space gs i h rest z q o.rest at lt) has
  where
    by : (b : Bool) → (has_page gs z q ≡ true → has_page (take i gs) z q ≡ true) → (if b then nat_lt q g.pages else has_page gs z q) ≡ true → (if b then nat_lt q g.pages else has_page (take i gs) z q) ≡ true
    by true later has = has
    by false later has = later has

-- ---- contents of the spaces from one on

-- what the contents say of these spaces, all contents say
pub record IsFound (all : List HeldSpace) (c : List SpaceContents) (hs : List HeldSpace) (xs : List SpaceContents) : Type 0 where
  pub has : (s p : ℕ) → has_page hs s p ≡ true → has_page all s p ≡ true
  pub page : (s p : ℕ) → has_page hs s p ≡ true → pages_of c s p ≡ pages_of xs s p
  pub salt : (s p : ℕ) → has_page hs s p ≡ true → salts_of c s ≡ salts_of xs s

pub found_whole : (all : List HeldSpace) (c : List SpaceContents) → IsFound all c all c
found_whole all c = record { has = λ s p is. is; page = λ s p is. refl; salt = λ s p is. refl }

module _ (all : List HeldSpace) (c : List SpaceContents) (h : HeldSpace) (hs : List HeldSpace) (x : SpaceContents) (xs : List SpaceContents) (own : x.info.space ≡ h.space) (found : IsFound all c (h ∷ hs) (x ∷ xs)) where
  pub found_rest : are_in_order h.space hs ≡ true → IsFound all c hs xs
  found_rest order = record {
    has = λ s p is. found.has s p (has_rest h hs s p order is);
    page = λ s p is. found.page s p (has_rest h hs s p order is) ∙ cond-false (nat_eq x.info.space s) (page_in x p) (pages_of xs s p) (ap (λ (n : ℕ). nat_eq n s) own ∙ other_space h hs s p order is);
    salt = λ s p is. found.salt s p (has_rest h hs s p order is) ∙ cond-false (nat_eq x.info.space s) x.info.salt (salts_of xs s) (ap (λ (n : ℕ). nat_eq n s) own ∙ other_space h hs s p order is);
  }

  itself : nat_eq x.info.space h.space ≡ true
  itself = let e = own in grind (arith, nat_tests)

  pub first_has : (p : ℕ) → p < h.pages → has_page all h.space p ≡ true
  first_has p lt = found.has h.space p (has_first h hs p lt)

  pub first_page : (p : ℕ) → p < h.pages → pages_of c h.space p ≡ page_in x p
  first_page p lt = found.page h.space p (has_first h hs p lt) ∙ cond-true (nat_eq x.info.space h.space) (page_in x p) (pages_of xs h.space p) itself

  pub first_salt : 0 < h.pages → salts_of c h.space ≡ x.info.salt
  first_salt some = found.salt h.space 0 (has_first h hs 0 some) ∙ cond-true (nat_eq x.info.space h.space) x.info.salt (salts_of xs h.space) itself

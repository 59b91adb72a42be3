-- A space is found among those of a header, by its place.
use Rattle.std.proofs.Common.{◌≡◌, ◌≢◌, ℕ, zero, suc, ◌+◌, ◌<◌, ◌≤◌, Bool, true, false, true≢false, nat_eq, nat_lt, if◌then◌else◌, List, [], ◌∷◌, length, drop, map, slice_index_or, refl, sym, ap, subst, ◌∙◌, arith, ⊎_elim, add-one}
use Rattle.std.proofs.lemmas.Bool.{cases_lt}
use Rattle.std.proofs.lemmas.Bool.Decides.{nat_tests}
use Rattle.std.proofs.lemmas.List.{drop_all, drop_more, length-map}
use Rattle.store_files.specs.Header.{HeldSpace, are_in_order}
use Rattle.store_files.specs.Pages.{has_page, key_id_of}
use Rattle.store_files.proofs.SpacesInOrder.{ordered, other_space, has_first, has_rest}
use Rattle.store_form.specs.Said.{space_said}
use Rattle.store_form.specs.declared.header.HeaderSpace.{HeaderSpace}
use Rattle.recovery.specs.SpaceList.{IsPlaceOf, held_at}

abbrev pub zero_space : HeaderSpace
zero_space = record { space = 0; pages = 0; key_id = 0 }

pub held_said : (xs : List HeaderSpace) (i : ℕ) → held_at (map space_said xs) i ≡ space_said (slice_index_or xs i zero_space)
held_said [] i = refl
held_said (x ∷ xs) zero = refl
held_said (x ∷ xs) (suc i) = held_said xs i

module _ (s p : ℕ) (x : HeldSpace) (rest : List HeldSpace) where
  has_here : x.space ≡ s → has_page (x ∷ rest) s p ≡ nat_lt p x.pages
  has_here same = let e : nat_eq x.space s ≡ true = grind (arith, nat_tests) in ap (λ (b : Bool). if b then nat_lt p x.pages else has_page rest s p) e

  has_other : x.space ≢ s → has_page (x ∷ rest) s p ≡ has_page rest s p
  has_other differ = let e : nat_eq x.space s ≡ false = grind (arith, nat_tests) in ap (λ (b : Bool). if b then nat_lt p x.pages else has_page rest s p) e

  key_here : x.space ≡ s → key_id_of (x ∷ rest) s ≡ x.key_id
  key_here same = let e : nat_eq x.space s ≡ true = grind (arith, nat_tests) in ap (λ (b : Bool). if b then x.key_id else key_id_of rest s) e

  key_other : x.space ≢ s → key_id_of (x ∷ rest) s ≡ key_id_of rest s
  key_other differ = let e : nat_eq x.space s ≡ false = grind (arith, nat_tests) in ap (λ (b : Bool). if b then x.key_id else key_id_of rest s) e

-- ---- the walk over the spaces

-- none of the first i spaces is this one
pub record NoneYet (xs : List HeaderSpace) (s p i : ℕ) : Type 0 where
  pub has : has_page (map space_said (drop i xs)) s p ≡ has_page (map space_said xs) s p
  pub key : key_id_of (map space_said (drop i xs)) s ≡ key_id_of (map space_said xs) s

pub none_yet : (xs : List HeaderSpace) (s p : ℕ) → NoneYet xs s p 0
none_yet xs s p = record { has = refl; key = refl }

module _ (xs : List HeaderSpace) (s p i : ℕ) (none : NoneYet xs s p i) where
  abbrev here : HeaderSpace
  here = slice_index_or xs i zero_space

  module _ (lt : i < length xs) where
    parts : map space_said (drop i xs) ≡ space_said here ∷ map space_said (drop (i + 1) xs)
    parts = ap (map space_said) (drop_more xs i zero_space lt)

    pub none_more : here.space ≢ s → NoneYet xs s p (i + 1)
    none_more differ = record {
      has = sym (ap (λ (l : List HeldSpace). has_page l s p) parts ∙ has_other s p (space_said here) (map space_said (drop (i + 1) xs)) differ) ∙ none.has;
      key = sym (ap (λ (l : List HeldSpace). key_id_of l s) parts ∙ key_other s p (space_said here) (map space_said (drop (i + 1) xs)) differ) ∙ none.key;
    }

    has_said : here.space ≡ s → has_page (map space_said xs) s p ≡ nat_lt p here.pages
    has_said same = sym none.has ∙ ap (λ (l : List HeldSpace). has_page l s p) parts ∙ has_here s p (space_said here) (map space_said (drop (i + 1) xs)) same

    pub place_is : here.space ≡ s → p < here.pages → IsPlaceOf (map space_said xs) s p i
    place_is same below = let test : nat_lt p here.pages ≡ true = grind (arith, nat_tests) in record {
      below = omega (arith, lt, length-map xs space_said);
      space = ap (λ (h : HeldSpace). h.space) (held_said xs i) ∙ same;
      page = let e = ap (λ (h : HeldSpace). h.pages) (held_said xs i) in omega (arith, e, below);
      has = has_said same ∙ test;
      key_id = sym none.key ∙ ap (λ (l : List HeldSpace). key_id_of l s) parts ∙ key_here s p (space_said here) (map space_said (drop (i + 1) xs)) same ∙ sym (ap (λ (h : HeldSpace). h.key_id) (held_said xs i));
    }

    pub page_past : here.space ≡ s → here.pages ≤ p → has_page (map space_said xs) s p ≡ false
    page_past same above = let test : nat_lt p here.pages ≡ false = grind (arith, nat_tests) in has_said same ∙ test

  pub none_at_all : length xs ≤ i → has_page (map space_said xs) s p ≡ false
  none_at_all le = sym none.has ∙ ap (λ (l : List HeaderSpace). has_page (map space_said l) s p) (drop_all i xs le)

-- ---- places and pages

-- each page of the store is one of the space at a place
pub place_found : (hs : List HeldSpace) (s p : ℕ) → has_page hs s p ≡ true → (i : ℕ) × IsPlaceOf hs s p i
place_found [] s p has = absurd (true≢false (sym has))
place_found (h ∷ hs) s p has = by (nat_eq h.space s) refl (λ later. place_found hs s p later) has
  where
    by : (b : Bool) → nat_eq h.space s ≡ b → (has_page hs s p ≡ true → (i : ℕ) × IsPlaceOf hs s p i) → (if b then nat_lt p h.pages else has_page hs s p) ≡ true → (i : ℕ) × IsPlaceOf (h ∷ hs) s p i
    by true test later lt =
        let same : h.space ≡ s = grind (arith, nat_tests) in
        let below : p < h.pages = grind (arith, nat_tests) in
        (0, record { below = omega arith; space = same; page = below; has = has_here s p h hs same ∙ lt; key_id = key_here s p h hs same })
    by false test later rest =
        let differ : h.space ≢ s = grind (arith, nat_tests) in
        let f = later rest in
        let i = f.0 in
        let at = f.1 in
        let below = at.below in
        (suc i, record { below = omega (arith, below); space = at.space; page = at.page; has = has_other s p h hs differ ∙ at.has; key_id = key_other s p h hs differ ∙ at.key_id })

-- each page of the space at a place is one of the store
pub place_has : (id : ℕ) (hs : List HeldSpace) (i p : ℕ) → are_in_order id hs ≡ true → i < length hs → p < (held_at hs i).pages → IsPlaceOf hs (held_at hs i).space p i
place_has id [] i p order lt below = absurd (omega (arith, lt))
place_has id (h ∷ hs) zero p order lt below = record { below = omega arith; space = refl; page = below; has = has_first h hs p below; key_id = key_here h.space p h hs refl }
place_has id (h ∷ hs) (suc i) p order lt below =
    let o = ordered id h hs order in
    let at = place_has h.space hs i p o.rest (omega (arith, lt)) below in
    let s = (held_at hs i).space in
    let test = other_space h hs s p o.rest at.has in
    let differ : h.space ≢ s = grind (arith, nat_tests) in
    record { below = lt; space = refl; page = below; has = has_rest h hs s p o.rest at.has; key_id = key_other s p h hs differ ∙ at.key_id }

-- each space has a page 0
pub place_some : (id : ℕ) (hs : List HeldSpace) (i : ℕ) → are_in_order id hs ≡ true → i < length hs → 0 < (held_at hs i).pages
place_some id [] i order lt = absurd (omega (arith, lt))
place_some id (h ∷ hs) zero order lt = let o = ordered id h hs order in let s = o.some in omega (arith, s)
place_some id (h ∷ hs) (suc i) order lt = place_some h.space hs i (ordered id h hs order).rest (omega (arith, lt))

-- a space behind another has a greater id
above_id : (id : ℕ) (hs : List HeldSpace) (i : ℕ) → are_in_order id hs ≡ true → i < length hs → id < (held_at hs i).space
above_id id [] i order lt = absurd (omega (arith, lt))
above_id id (h ∷ hs) zero order lt = (ordered id h hs order).lower
above_id id (h ∷ hs) (suc i) order lt =
    let o = ordered id h hs order in
    let low = o.lower in
    let more = above_id h.space hs i o.rest (omega (arith, lt)) in
    omega (arith, low, more)

-- so two places with one id are one
pub one_place : (id : ℕ) (hs : List HeldSpace) (i j : ℕ) → are_in_order id hs ≡ true → i < length hs → j < length hs → (held_at hs i).space ≡ (held_at hs j).space → i ≡ j
one_place id [] i j order li lj same = absurd (omega (arith, li))
one_place id (h ∷ hs) zero zero order li lj same = refl
one_place id (h ∷ hs) zero (suc j) order li lj same = let more = above_id h.space hs j (ordered id h hs order).rest (omega (arith, lj)) in absurd (omega (arith, same, more))
one_place id (h ∷ hs) (suc i) zero order li lj same = let more = above_id h.space hs i (ordered id h hs order).rest (omega (arith, li)) in absurd (omega (arith, same, more))
one_place id (h ∷ hs) (suc i) (suc j) order li lj same = ap suc (one_place h.space hs i j (ordered id h hs order).rest (omega (arith, li)) (omega (arith, lj)) same)

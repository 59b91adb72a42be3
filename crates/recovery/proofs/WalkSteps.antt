-- A list is walked from its front: what the elements so far have, one more, and the first that hasn't.
use Rattle.std.proofs.Common.{◌≡◌, ℕ, zero, suc, ◌+◌, ◌<◌, ◌≤◌, List, [], ◌∷◌, ◌++◌, length, take, drop, map, slice_index_or, refl, sym, subst, ◌∙◌, inl, inr, add-one, arith}
use Rattle.std.proofs.lemmas.List.{take_all}
use Rattle.recovery.specs.Walks.{AllHave, FirstHas, PairsHave}

pub none_item : {A : Type 0} (x : A) (xs : List A) → ◌≡◌ {A = List A} [] (x ∷ xs) → ⊥
none_item x xs e = cc

pub same_item : {A : Type 0} (x y : A) (xs ys : List A) → x ∷ xs ≡ y ∷ ys → x ≡ y
same_item x y xs ys e = cc

pub drop_nil : {A : Type 0} (i : ℕ) → ◌≡◌ {A = List A} (drop i []) []
drop_nil zero = refl
drop_nil (suc i) = refl

module _ {A : Type 0} (P : A → Type 0) where
  pub all_none : (xs : List A) → AllHave P (take 0 xs)
  all_none xs = tt

  one_more : (xs : List A) (i : ℕ) (x : A) (rest : List A) → AllHave P (take i xs) → drop i xs ≡ x ∷ rest → P x → AllHave P (take (suc i) xs)
  one_more [] i x rest all at p = absurd (none_item x rest (sym (drop_nil {A = A} i) ∙ at))
  one_more (y ∷ ys) zero x rest all at p = (subst P (sym (same_item y x ys rest at)) p, tt)
  one_more (y ∷ ys) (suc i) x rest all at p = (all.0, one_more ys i x rest all.1 at p)

  pub all_more : (xs : List A) (i : ℕ) (x : A) (rest : List A) → AllHave P (take i xs) → drop i xs ≡ x ∷ rest → P x → AllHave P (take (i + 1) xs)
  all_more xs i x rest all at p = subst (λ (k : ℕ). AllHave P (take k xs)) (sym (add-one i)) (one_more xs i x rest all at p)

  pub all_whole : (xs : List A) (i : ℕ) → length xs ≤ i → AllHave P (take i xs) → AllHave P xs
  all_whole xs i le all = subst (AllHave P) (take_all i xs le) all

  pub all_at : (xs : List A) (i : ℕ) (x : A) (rest : List A) → AllHave P xs → drop i xs ≡ x ∷ rest → P x
  all_at [] i x rest all at = absurd (none_item x rest (sym (drop_nil {A = A} i) ∙ at))
  all_at (y ∷ ys) zero x rest all at = subst P (same_item y x ys rest at) all.0
  all_at (y ∷ ys) (suc i) x rest all at = all_at ys i x rest all.1 at

  module _ (Q : A → Type 0) where
    -- the element behind the first ones
    pub first_at : (xs : List A) (i : ℕ) (x : A) (rest : List A) → AllHave P (take i xs) → drop i xs ≡ x ∷ rest → Q x → FirstHas P Q xs
    first_at [] i x rest all at q = absurd (none_item x rest (sym (drop_nil {A = A} i) ∙ at))
    first_at (y ∷ ys) zero x rest all at q = inl (subst Q (sym (same_item y x ys rest at)) q)
    first_at (y ∷ ys) (suc i) x rest all at q = inr (all.0, first_at ys i x rest all.1 at q)

module _ {A B : Type 0} (f : A → B) (P : B → Type 0) where
  pub all_map : (xs : List A) → AllHave (λ x. P (f x)) xs → AllHave P (map f xs)
  all_map [] all = tt
  all_map (x ∷ xs) all = (all.0, all_map xs all.1)

  pub all_unmap : (xs : List A) → AllHave P (map f xs) → AllHave (λ x. P (f x)) xs
  all_unmap [] all = tt
  all_unmap (x ∷ xs) all = (all.0, all_unmap xs all.1)

  pub first_map : (Q : B → Type 0) (xs : List A) → FirstHas (λ x. P (f x)) (λ x. Q (f x)) xs → FirstHas P Q (map f xs)
  first_map Q [] first = first
  first_map Q (x ∷ xs) (inl q) = inl q
  first_map Q (x ∷ xs) (inr (p, first)) = inr (p, first_map Q xs first)

-- ---- two lists beside one another

module _ {A B C : Type 0} (f : A → B) (R : B → C → Type 0) where
  pairs_suc : (xs : List A) (i : ℕ) (x : A) (rest : List A) (ys : List C) (y : C) → PairsHave R (map f (take i xs)) ys → drop i xs ≡ x ∷ rest → R (f x) y → PairsHave R (map f (take (suc i) xs)) (ys ++ y ∷ [])
  pairs_suc [] i x rest ys y have at r = absurd (none_item x rest (sym (drop_nil {A = A} i) ∙ at))
  pairs_suc (z ∷ zs) zero x rest [] y have at r = (subst (λ (w : A). R (f w) y) (sym (same_item z x zs rest at)) r, tt)
  pairs_suc (z ∷ zs) zero x rest (w ∷ ws) y have at r = absurd have
  pairs_suc (z ∷ zs) (suc i) x rest [] y have at r = absurd have
  pairs_suc (z ∷ zs) (suc i) x rest (w ∷ ws) y have at r = (have.0, pairs_suc zs i x rest ws y have.1 at r)

  pub pairs_more : (xs : List A) (i : ℕ) (x : A) (rest : List A) (ys : List C) (y : C) → PairsHave R (map f (take i xs)) ys → drop i xs ≡ x ∷ rest → R (f x) y → PairsHave R (map f (take (i + 1) xs)) (ys ++ y ∷ [])
  pairs_more xs i x rest ys y have at r = subst (λ (k : ℕ). PairsHave R (map f (take k xs)) (ys ++ y ∷ [])) (sym (add-one i)) (pairs_suc xs i x rest ys y have at r)

  -- what stands at the same place
  pub pairs_at : (xs : List A) (i : ℕ) (x : A) (rest : List A) (ys : List C) (d : C) → PairsHave R (map f xs) ys → drop i xs ≡ x ∷ rest → (i < length ys) × R (f x) (slice_index_or ys i d)
  pairs_at [] i x rest ys d have at = absurd (none_item x rest (sym (drop_nil {A = A} i) ∙ at))
  pairs_at (z ∷ zs) i x rest [] d have at = absurd have
  pairs_at (z ∷ zs) zero x rest (w ∷ ws) d have at = (omega arith, subst (λ (v : A). R (f v) w) (same_item z x zs rest at) have.0)
  pairs_at (z ∷ zs) (suc i) x rest (w ∷ ws) d have at = let later = pairs_at zs i x rest ws d have.1 at in (let lt = later.0 in omega (arith, lt), later.1)

pub pairs_left : {A B : Type 0} (R : A → B → Type 0) (xs : List A) (ys : List B) → PairsHave R xs ys → AllHave (λ x. (y : B) × R x y) xs
pairs_left R [] ys have = tt
pairs_left R (x ∷ xs) [] have = absurd have
pairs_left R (x ∷ xs) (y ∷ ys) have = ((y, have.0), pairs_left R xs ys have.1)

-- the first that hasn't is one of them
pub first_is : {A : Type 0} (P Q R : A → Type 0) (xs : List A) → FirstHas P Q xs → AllHave R xs → (x : A) × Q x × R x
first_is P Q R [] first all = absurd first
first_is P Q R (x ∷ xs) (inl q) all = (x, q, all.0)
first_is P Q R (x ∷ xs) (inr (p, first)) all = first_is P Q R xs first all.1

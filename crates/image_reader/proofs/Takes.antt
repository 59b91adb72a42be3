-- A fact of the first elements of a list, and of one more.
use Rattle.std.proofs.Common.{◌≡◌, ℕ, zero, suc, ◌+◌, List, [], ◌∷◌, ◌++◌, drop, take, refl, sym, ap, ◌∙◌, add-one}

pub none_item : {A : Type 0} (x : A) (xs : List A) → ◌≡◌ {A = List A} [] (x ∷ xs) → ⊥
none_item x xs e = cc

pub same_item : {A : Type 0} (x y : A) (xs ys : List A) → x ∷ xs ≡ y ∷ ys → x ≡ y
same_item x y xs ys e = cc

pub drop_nil : {A : Type 0} (i : ℕ) → ◌≡◌ {A = List A} (drop i []) []
drop_nil zero = refl
drop_nil (suc i) = refl

one_more : {A : Type 0} (xs : List A) (i : ℕ) (x : A) (rest : List A) → drop i xs ≡ x ∷ rest → take (suc i) xs ≡ take i xs ++ x ∷ []
one_more {A} [] i x rest e = absurd (none_item x rest (sym (drop_nil {A = A} i) ∙ e))
one_more {A} (y ∷ ys) zero x rest e = ap (λ (z : A). z ∷ []) (same_item y x ys rest e)
one_more {A} (y ∷ ys) (suc i) x rest e = ap (λ (l : List A). y ∷ l) (one_more ys i x rest e)

pub take_item : {A : Type 0} (xs : List A) (i : ℕ) (x : A) (rest : List A) → drop i xs ≡ x ∷ rest → take (i + 1) xs ≡ take i xs ++ x ∷ []
take_item {A} xs i x rest e = ap (λ (k : ℕ). take k xs) (add-one i) ∙ one_more xs i x rest e

-- A fact of a list that is shown element by element: of what is left it says what it says of all.
use Rattle.std.proofs.Common.{◌≡◌, ℕ, ◌+◌, List, [], ◌∷◌, drop, sym, subst}

pub record Passes {A : Type 0} (P : List A → Type 0) (xs : List A) (i : ℕ) : Type 0 where
  pub more : P (drop i xs) → P xs
  pub back : P xs → P (drop i xs)

module _ {A : Type 0} (P : List A → Type 0) (xs : List A) where
  pub passes_first : Passes P xs 0
  passes_first = record { more = λ p. p; back = λ p. p }

  pub passes_next : (i : ℕ) (x : A) → Passes P xs i → drop i xs ≡ x ∷ drop (i + 1) xs → (P (drop (i + 1) xs) → P (x ∷ drop (i + 1) xs)) → (P (x ∷ drop (i + 1) xs) → P (drop (i + 1) xs)) → Passes P xs (i + 1)
  passes_next i x passes left with_it without = record {
    more = λ p. passes.more (subst P (sym left) (with_it p));
    back = λ p. without (subst P left (passes.back p));
  }

  pub passes_all : (i : ℕ) → Passes P xs i → drop i xs ≡ [] → P [] → P xs
  passes_all i passes none p = passes.more (subst P (sym none) p)

  pub passes_fail : (i : ℕ) (x : A) → Passes P xs i → drop i xs ≡ x ∷ drop (i + 1) xs → (P (x ∷ drop (i + 1) xs) → ⊥) → P xs → ⊥
  passes_fail i x passes left fails p = fails (subst P left (passes.back p))

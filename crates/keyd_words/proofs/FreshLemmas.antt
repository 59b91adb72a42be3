-- Among more numbers than a list has there is one that it hasn't.
use Rattle.std.proofs.Common.{◌≡◌, ◌≢◌, ℕ, ◌≤◌, ◌<◌, ◌⊎◌, length, arith, sym, ◌∙◌, ap, inl, inr, true, false, nat_eq, if◌then◌else◌, List, [], ◌∷◌, zero, suc, subst}
use Rattle.std.proofs.lemmas.Bool.Decides.{nat_tests}
use Rattle.std.proofs.lemmas.Bool.{cases_Bool}

-- no element is this one
unfoldable pub Avoids : ℕ → List ℕ → Type 0
Avoids k [] = Unit {0}
Avoids k (x ∷ xs) = (x ≢ k) × Avoids k xs

without : ℕ → List ℕ → List ℕ
without k [] = []
without k (x ∷ xs) = if nat_eq x k then without k xs else x ∷ without k xs

kept : (k x : ℕ) (xs : List ℕ) → nat_eq x k ≡ false → without k (x ∷ xs) ≡ x ∷ without k xs
unfolding without
kept k x xs e = ap (λ b. if b then without k xs else x ∷ without k xs) e

cut : (k x : ℕ) (xs : List ℕ) → nat_eq x k ≡ true → without k (x ∷ xs) ≡ without k xs
unfolding without
cut k x xs e = ap (λ b. if b then without k xs else x ∷ without k xs) e

no_longer : (k : ℕ) (xs : List ℕ) → length (without k xs) ≤ length xs
unfolding without
no_longer k [] = omega arith
no_longer k (x ∷ xs) =
    let rest = no_longer k xs in
    elim (cases_Bool (nat_eq x k)) [
      | inl hit ↦ let n : length (without k (x ∷ xs)) ≡ length (without k xs) = ap length (cut k x xs hit) in omega (arith, n, rest)
      | inr miss ↦ let n : length (without k (x ∷ xs)) ≡ suc (length (without k xs)) = ap length (kept k x xs miss) in omega (arith, n, rest)
    ]

differs : (x k : ℕ) → nat_eq x k ≡ false → x ≢ k
differs x k e same = grind (arith, nat_tests, e, same)

-- a number is avoided, or taking it out makes the list shorter
look : (k : ℕ) (xs : List ℕ) → Avoids k xs ⊎ (length (without k xs) < length xs)
unfolding Avoids
look k [] = inl tt
look k (x ∷ xs) =
    elim (cases_Bool (nat_eq x k)) [
      | inl hit ↦ let n : length (without k (x ∷ xs)) ≡ length (without k xs) = ap length (cut k x xs hit) in inr (omega (arith, n, no_longer k xs))
      | inr miss ↦ elim (look k xs) [
        | inl rest ↦ inl (differs x k miss, rest)
        | inr less ↦ let n : length (without k (x ∷ xs)) ≡ suc (length (without k xs)) = ap length (kept k x xs miss) in inr (omega (arith, n, less))
      ]
    ]

-- what avoids another number without this one avoids it with this one
back_in : (j k : ℕ) (xs : List ℕ) → k ≢ j → Avoids j (without k xs) → Avoids j xs
unfolding Avoids without
back_in j k [] other avoids = tt
back_in j k (x ∷ xs) other avoids =
    elim (cases_Bool (nat_eq x k)) [
      | inl hit ↦ let same : x ≡ k = grind (arith, nat_tests, hit) in
          (λ e. other (sym same ∙ e), back_in j k xs other (subst (Avoids j) (cut k x xs hit) avoids))
      | inr miss ↦ let both : Avoids j (x ∷ without k xs) = subst (Avoids j) (kept k x xs miss) avoids in (both.0, back_in j k xs other both.1)
    ]

pub fresh : (n : ℕ) (xs : List ℕ) → length xs < n → (k : ℕ) × (1 ≤ k) × (k ≤ n) × Avoids k xs
fresh zero xs short = absurd (omega (arith, short))
fresh (suc n) xs short =
    elim (look (suc n) xs) [
      | inl avoids ↦ (suc n, omega arith, omega arith, avoids)
      | inr less ↦ let found = fresh n (without (suc n) xs) (omega (arith, short, less)) in
          (found.0, found.1, omega (arith, found.2), back_in found.0 (suc n) xs (λ e. omega (arith, e, found.2)) found.3)
    ]

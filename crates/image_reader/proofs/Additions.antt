-- Steps that add keys to a list.
use Rattle.std.proofs.Common.{◌≡◌, ◌≢◌, ◌⊎◌, ℕ, zero, suc, ◌+◌, ◌<◌, ◌≤◌, List, [], ◌∷◌, ◌++◌, length, refl, sym, ap, subst, ◌∙◌, arith, inl, inr, ⊎_elim, length-append}
use Rattle.std.specs.Prelude.{slice_index_or, Contains}
use Rattle.std.proofs.lemmas.Bool.{cases_lt}
use Rattle.std.proofs.lemmas.List.{get_or_at, get_or_append_left}
use Rattle.image_reader.specs.Naming.{AddsNames, AreOnce, Below}

abbrev Name : Type 0
Name = ℕ × ℕ

-- an element within a list is what it is, whatever stands for those behind
pub same_default : (xs : List Name) (i : ℕ) (a b : Name) → i < length xs → slice_index_or xs i a ≡ slice_index_or xs i b
same_default [] i a b lt = absurd (omega (arith, lt))
same_default (x ∷ xs) zero a b lt = refl
same_default (x ∷ xs) (suc i) a b lt = same_default xs i a b (omega (arith, lt))

longer : (xs : List Name) (x : Name) → length (xs ++ x ∷ []) ≡ length xs + 1
longer xs x = length-append xs (x ∷ [])

kept : (xs : List Name) (x y : Name) → Contains xs y → Contains (xs ++ x ∷ []) y
kept xs x y (k, lt, is) = (k, (let l = longer xs x in omega (arith, l, lt)), get_or_append_left xs (x ∷ []) y k lt ∙ is)

added : (xs : List Name) (x y : Name) → y ≡ x → Contains (xs ++ x ∷ []) y
added xs x y e = (length xs, (let l = longer xs x in omega (arith, l)), get_or_at xs x [] y (length xs) refl ∙ sym e)

-- where an element of the longer list stands
module _ (xs : List Name) (x y : Name) (k : ℕ) (lt : k < length (xs ++ x ∷ [])) (is : slice_index_or (xs ++ x ∷ []) k y ≡ y) where
  stands : ((k < length xs) × (slice_index_or xs k y ≡ y)) ⊎ ((k ≡ length xs) × (y ≡ x))
  stands = ⊎_elim (λ (l : k < length xs). inl (l, sym (get_or_append_left xs (x ∷ []) y k l) ∙ is))
      (λ (ge : length xs ≤ k). let e : length xs ≡ k = (let l = longer xs x in omega (arith, l, lt, ge)) in inr (sym e, sym is ∙ get_or_at xs x [] y k e)) (cases_lt k (length xs))

found : (xs : List Name) (x y : Name) → Contains (xs ++ x ∷ []) y → Contains xs y ⊎ (y ≡ x)
found xs x y (k, lt, is) = ⊎_elim (λ (p : (k < length xs) × (slice_index_or xs k y ≡ y)). inl (k, p.0, p.1)) (λ (p : (k ≡ length xs) × (y ≡ x)). inr p.1) (stands xs x y k lt is)

once_more : (xs : List Name) (x : Name) → (Contains xs x → ⊥) → AreOnce xs → AreOnce (xs ++ x ∷ [])
once_more xs x none once i j y li lj is js =
    ⊎_elim
    (λ (p : (i < length xs) × (slice_index_or xs i y ≡ y)).
    ⊎_elim (λ (q : (j < length xs) × (slice_index_or xs j y ≡ y)). once i j y p.0 q.0 p.1 q.1)
    (λ (q : (j ≡ length xs) × (y ≡ x)). absurd (none (subst (λ (z : Name). Contains xs z) q.1 (i, p.0, p.1)))) (stands xs x y j lj js))
    (λ (p : (i ≡ length xs) × (y ≡ x)).
    ⊎_elim (λ (q : (j < length xs) × (slice_index_or xs j y ≡ y)). absurd (none (subst (λ (z : Name). Contains xs z) p.1 (j, q.0, q.1))))
    (λ (q : (j ≡ length xs) × (y ≡ x)). p.0 ∙ sym q.0) (stands xs x y j lj js))
    (stands xs x y i li is)

pub adds_push : (xs : List Name) (x : Name) → (Contains xs x → ⊥) → AddsNames (λ y. y ≡ x) xs (xs ++ x ∷ [])
adds_push xs x none = record { keeps = kept xs x; all = added xs x; only = found xs x; once = once_more xs x none }

pub adds_known : (xs : List Name) (x : Name) → Contains xs x → AddsNames (λ y. y ≡ x) xs xs
adds_known xs x there = record { keeps = λ y is. is; all = λ y e. subst (λ (z : Name). Contains xs z) (sym e) there; only = λ y is. inl is; once = λ once. once }

pub adds_nothing : (P : Name → Type 0) (xs : List Name) → ((x : Name) → P x → ⊥) → AddsNames P xs xs
adds_nothing P xs none = record { keeps = λ x is. is; all = λ x p. absurd (none x p); only = λ x is. inl is; once = λ once. once }

pub adds_as : (P Q : Name → Type 0) (a b : List Name) → ((x : Name) → P x → Q x) → ((x : Name) → Q x → P x) → AddsNames P a b → AddsNames Q a b
adds_as P Q a b to from adds = record {
  keeps = adds.keeps;
  all = λ x q. adds.all x (from x q);
  only = λ x is. ⊎_elim (λ (old : Contains a x). inl old) (λ (p : P x). inr (to x p)) (adds.only x is);
  once = adds.once;
}

pub adds_then : (P Q : Name → Type 0) (a b c : List Name) → AddsNames P a b → AddsNames Q b c → AddsNames (λ x. P x ⊎ Q x) a c
adds_then P Q a b c first second = record {
  keeps = λ x is. second.keeps x (first.keeps x is);
  all = λ x e. ⊎_elim (λ (p : P x). second.keeps x (first.all x p)) (λ (q : Q x). second.all x q) e;
  only = λ x is.
      ⊎_elim (λ (mid : Contains b x). ⊎_elim (λ (old : Contains a x). inl old) (λ (p : P x). inr (inl p)) (first.only x mid)) (λ (q : Q x). inr (inr q)) (second.only x is);
  once = λ once. second.once (first.once once);
}

-- one more of a row
pub adds_next : (P : ℕ → Name → Type 0) (n : ℕ) (a b c : List Name) → AddsNames (Below P n) a b → AddsNames (P n) b c → AddsNames (Below P (n + 1)) a c
adds_next P n a b c first second = adds_as (λ x. Below P n x ⊎ P n x) (Below P (n + 1)) a c to from (adds_then (Below P n) (P n) a b c first second)
  where
    to : (x : Name) → Below P n x ⊎ P n x → Below P (n + 1) x
    to x e = ⊎_elim (λ (p : Below P n x). let lt = p.1 in (p.0, omega (arith, lt), p.2)) (λ (p : P n x). (n, omega arith, p)) e

    from : (x : Name) → Below P (n + 1) x → Below P n x ⊎ P n x
    from x (i, lt, p) = ⊎_elim (λ (l : i < n). inl (i, l, p)) (λ (ge : n ≤ i). let e : i ≡ n = omega (arith, lt, ge) in inr (subst (λ (k : ℕ). P k x) e p)) (cases_lt i n)

pub adds_none : (P : ℕ → Name → Type 0) (xs : List Name) → AddsNames (Below P 0) xs xs
adds_none P xs = adds_nothing (Below P 0) xs (λ x p. let lt = p.1 in omega (arith, lt))

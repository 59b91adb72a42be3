-- Tests over the elements of a list that grows or shrinks by one.
use Rattle.std.proofs.Common.{◌≡◌, ℕ, zero, suc, ◌+◌, ◌<◌, ◌≤◌, Bool, true, false, nat_lt, not, cond, ◌||◌, List, [], ◌∷◌, length, refl, sym, ◌∙◌, ap, arith}
use Rattle.std.specs.List.{insert, remove, list_any, position_or_len}
use Rattle.std.proofs.lemmas.Bool.Decides.{nat_tests}
use Rattle.std.proofs.lemmas.List.Sorted.{list_any-IsPermutation, IsPermutation-insert}

pub both_false : (a b : Bool) → (a || b) ≡ false → (a ≡ false) × (b ≡ false)
both_false false b h = (refl, h)
both_false true b h = cc

pub neither : (a b : Bool) → a ≡ false → b ≡ false → (a || b) ≡ false
neither a b ha hb = ap (λ (x : Bool). x || b) ha ∙ hb

pub any_insert : {X : Type 0} (p : X → Bool) (xs : List X) (i : ℕ) (y : X) → list_any p (insert xs i y) ≡ (p y || list_any p xs)
any_insert p xs i y = sym (list_any-IsPermutation p (y ∷ xs) (insert xs i y) (IsPermutation-insert xs i y))

pub any_weaker : {X : Type 0} (p q : X → Bool) → ((x : X) → p x ≡ false → q x ≡ false) → (xs : List X) → list_any p xs ≡ false → list_any q xs ≡ false
any_weaker p q weaker [] none = refl
any_weaker p q weaker (x ∷ xs) none =
    let each = both_false (p x) (list_any p xs) none in
    neither (q x) (list_any q xs) (weaker x each.0) (any_weaker p q weaker xs each.1)

pub any_removed : {X : Type 0} (p : X → Bool) (xs : List X) (i : ℕ) → list_any p xs ≡ false → list_any p (remove xs i) ≡ false
any_removed p [] zero none = refl
any_removed p [] (suc i) none = refl
any_removed p (x ∷ xs) zero none = (both_false (p x) (list_any p xs) none).1
any_removed p (x ∷ xs) (suc i) none =
    let each = both_false (p x) (list_any p xs) none in
    neither (p x) (list_any p (remove xs i)) each.0 (any_removed p xs i each.1)

one_more : (k : ℕ) → 1 + k ≡ suc k
one_more k = omega arith

-- an element that passes is found
pub found_below : {X : Type 0} (p : X → Bool) (xs : List X) → nat_lt (position_or_len p xs) (length xs) ≡ list_any p xs
found_below p [] = refl
found_below p (x ∷ xs) = by (p x) (found_below p xs)
  where
    by : (b : Bool) → nat_lt (position_or_len p xs) (length xs) ≡ list_any p xs → nat_lt (cond (not b) (1 + position_or_len p xs) 0) (suc (length xs)) ≡ (b || list_any p xs)
    by true same = grind (arith, nat_tests)
    by false same = (let shift : nat_lt (1 + position_or_len p xs) (suc (length xs)) ≡ nat_lt (position_or_len p xs) (length xs) = grind (arith, nat_tests) in shift ∙ same)

pub found_here : {X : Type 0} (p : X → Bool) (xs : List X) (i : ℕ) → i ≡ position_or_len p xs → i < length xs → list_any p xs ≡ true
found_here p xs i is lt = let test : nat_lt (position_or_len p xs) (length xs) ≡ true = grind (arith, nat_tests) in sym (found_below p xs) ∙ test

pub found_nowhere : {X : Type 0} (p : X → Bool) (xs : List X) (i : ℕ) → i ≡ position_or_len p xs → length xs ≤ i → list_any p xs ≡ false
found_nowhere p xs i is le = let test : nat_lt (position_or_len p xs) (length xs) ≡ false = grind (arith, nat_tests) in sym (found_below p xs) ∙ test

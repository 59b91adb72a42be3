-- The bytes of a plain key file have one answer: what the definition relates to them is unique.
use Rattle.std.proofs.Common.{◌≡◌, ℕ, suc, zero, ◌<◌, List, [], ◌∷◌, length, get_or, Some, None, Result, Ok, Err, refl, sym, ap, ◌∙◌, inl, inr, arith}
use Rattle.std.proofs.lemmas.Bool.{eq-eqb, cases_eq, cases_lt, ne_eqb}
use Rattle.key_file.specs.declared.fault.KeyFault.{KeyFault}
use Rattle.key_file.specs.declared.keys.KeyItem.{KeyItem}
use Rattle.key_file.specs.Plain.{IsAscending, ReadsPlain, key_in}
use Rattle.key_file.proofs.RingKeys.{key_in_below}

rest_ascending : (k : KeyItem) (ks : List KeyItem) → IsAscending (k ∷ ks) → IsAscending ks
rest_ascending k ks up i j d below within = up (suc i) (suc j) d (omega arith) (omega arith)

first_below : (k : KeyItem) (ks : List KeyItem) → IsAscending (k ∷ ks) → (j : ℕ) (d : KeyItem) → j < length ks → k.id < (get_or ks j d).id
first_below k ks up j d within = up zero (suc j) d (omega arith) (omega arith)

key_in_first : (k : KeyItem) (ks : List KeyItem) (id : ℕ) → k.id ≡ id → key_in (k ∷ ks) id ≡ Some k.key
key_in_first k ks id e = rw (eq-eqb k.id id e) refl

key_in_rest : (k : KeyItem) (ks : List KeyItem) (id : ℕ) → (k.id ≡ id → ⊥) → key_in (k ∷ ks) id ≡ key_in ks id
key_in_rest k ks id ne = rw (ne_eqb k.id id ne) refl

-- the first id of an ascending list is not above one that it has
no_lower : (k : KeyItem) (ks : List KeyItem) (id : ℕ) (key : List ℕ) → IsAscending (k ∷ ks) → id < k.id → key_in (k ∷ ks) id ≡ Some key → ⊥
no_lower k ks id key up lower is =
    let none : key_in ks id ≡ None = key_in_below ks id (λ j d l. let after = first_below k ks up j d l in omega (arith, after)) in
    let gone : key_in (k ∷ ks) id ≡ None = key_in_rest k ks id (λ e. omega arith) ∙ none in
    cc

same_first : (x : KeyItem) (xs : List KeyItem) (y : KeyItem) (ys : List KeyItem) → IsAscending (x ∷ xs) → IsAscending (y ∷ ys)
    → ((id : ℕ) → key_in (x ∷ xs) id ≡ key_in (y ∷ ys) id) → x.id ≡ y.id
same_first x xs y ys up up' same = elim (cases_lt x.id y.id) [
  | inl lower ↦ absurd (no_lower y ys x.id x.key up' lower (sym (same x.id) ∙ key_in_first x xs x.id refl))
  | inr from ↦ elim (cases_lt y.id x.id) [
    | inl lower ↦ absurd (no_lower x xs y.id y.key up lower (same y.id ∙ key_in_first y ys y.id refl))
    | inr to ↦ omega arith
  ]
]

abbrev item_of : ℕ → List ℕ → KeyItem
item_of i k = record { id = i; key = k }

item_same : (x y : KeyItem) → x.id ≡ y.id → x.key ≡ y.key → x ≡ y
item_same x y e f = ap (λ (i : ℕ). item_of i x.key) e ∙ ap (λ (k : List ℕ). item_of y.id k) f

-- ascending lists with the same keys are equal
same_lists : (xs ys : List KeyItem) → IsAscending xs → IsAscending ys → ((id : ℕ) → key_in xs id ≡ key_in ys id) → xs ≡ ys
same_lists [] [] up up' same = refl
same_lists [] (y ∷ ys) up up' same = let is = same y.id ∙ key_in_first y ys y.id refl in cc
same_lists (x ∷ xs) [] up up' same = let is = sym (same x.id) ∙ key_in_first x xs x.id refl in cc
same_lists (x ∷ xs) (y ∷ ys) up up' same =
    let id : x.id ≡ y.id = same_first x xs y ys up up' same in
    let keys : Some x.key ≡ Some y.key = sym (key_in_first x xs x.id refl) ∙ same x.id ∙ key_in_first y ys x.id (sym id) in
    let key : x.key ≡ y.key = cc in
    let rest : xs ≡ ys = same_lists xs ys (rest_ascending x xs up) (rest_ascending y ys up') (λ i. elim (cases_eq x.id i) [
      | inl here ↦
          key_in_below xs i (λ j d l. let after = first_below x xs up j d l in omega (arith, after, here))
          ∙ sym (key_in_below ys i (λ j d l. let after = first_below y ys up' j d l in omega (arith, after, here, id)))
      | inr other ↦ sym (key_in_rest x xs i other) ∙ same i ∙ key_in_rest y ys i (λ e. other (id ∙ e))
    ]) in
    let first : x ≡ y = item_same x y id key in
    cc

pub ReadsPlain-unique : (bytes : List ℕ) (r s : Result (List KeyItem) KeyFault) → ReadsPlain bytes r → ReadsPlain bytes s → r ≡ s
ReadsPlain-unique bytes (Ok keys) (Ok other) h k =
    ap Ok (same_lists keys other h.2.ascending k.2.ascending (λ id. h.2.keys_are id ∙ sym (k.2.keys_are id)))
ReadsPlain-unique bytes (Ok keys) (Err fault) h (inl k) = let none = h.0 in cc
ReadsPlain-unique bytes (Ok keys) (Err fault) h (inr k) = let some = h.1 in let none = k.1 in cc
ReadsPlain-unique bytes (Err fault) (Ok keys) (inl h) k = let none = k.0 in cc
ReadsPlain-unique bytes (Err fault) (Ok keys) (inr h) k = let some = k.1 in let none = h.1 in cc
ReadsPlain-unique bytes (Err fault) (Err other) (inl h) (inl k) = cc
ReadsPlain-unique bytes (Err fault) (Err other) (inl h) (inr k) = let none = k.0 in cc
ReadsPlain-unique bytes (Err fault) (Err other) (inr h) (inl k) = let none = h.0 in cc
ReadsPlain-unique bytes (Err fault) (Err other) (inr h) (inr k) = let a = h.2 in let b = k.2 in cc

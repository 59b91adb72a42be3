-- What the look-ups of a map by pairs say of a ring.
use Rattle.std.proofs.Common.{◌≡◌, ℕ, ◌+◌, ◌<◌, ◌≤◌, length, false, ◌&&◌, cond, eqb, List, [], ◌∷◌, Option, Some, None, IsSome, IsNone, refl, sym, ap, ◌∙◌, subst, arith, inl, inr}
use Rattle.std.specs.Ordering.{is_eq, is_gt, is_lt, nat_cmp}
use Rattle.std.specs.declared.cmp.Ordering.TheVariants.{Less, Equal, Greater}
use Rattle.std.specs.Cmp.{nat_cmp_is, tied_then}
use Rattle.std.specs.Option.{is_some}
use Rattle.std.specs.BTreeMap.{BTreeMap, get, is_at}
use Rattle.std.specs.BTreeMap.Range.{IsEntryInRange, IsInRange, IsRangeOf}
use Rattle.std.specs.declared.ops.Bound.{Bound}
use Rattle.std.specs.declared.ops.Bound.TheVariants.{Included}
use Rattle.std.specs.Map.{lookup}
use Rattle.std.proofs.lemmas.Bool.{eq-eqb, cases_lt}
use Rattle.key_ring.specs.Ring.{RingEntry, HasAdded, IsLatest, ring_key, pair_cmp}

eqb_below : (a b : ℕ) → a < b → eqb b a ≡ false
eqb_below a b h = grind arith

eqb_above : (a b : ℕ) → b < a → eqb b a ≡ false
eqb_above a b h = grind arith

-- two numbers are compared as equal where they are
pub is_eq-nat_cmp : (a b : ℕ) → is_eq (nat_cmp a b) ≡ eqb b a
is_eq-nat_cmp a b = elim (cases_lt a b) [
  | inl below ↦ rw (← nat_cmp_is a b Less below) (sym (eqb_below a b below))
  | inr from ↦ elim (cases_lt b a) [
    | inl above ↦ rw (← nat_cmp_is a b Greater above) (sym (eqb_above a b above))
    | inr to ↦ let same : a ≡ b = omega arith in rw (← nat_cmp_is a b Equal same) (sym (eq-eqb b a (sym same)))
  ]
]

-- a pair is found by its two numbers
pub is_eq-pair_cmp : (id v i w : ℕ) → is_eq (pair_cmp (id, v) (i, w)) ≡ (eqb i id && eqb w v)
is_eq-pair_cmp id v i w = sym (tied_then (nat_cmp id i) (nat_cmp v w)) ∙ rw (is_eq-nat_cmp id i, is_eq-nat_cmp v w) refl

pub lookup-ring_key : (es : List RingEntry) (id v : ℕ) → lookup (is_at (pair_cmp (id, v))) es ≡ ring_key es id v
lookup-ring_key [] id v = refl
lookup-ring_key (e ∷ es) id v = rw (is_eq-pair_cmp id v e.0.0 e.0.1, lookup-ring_key es id v) refl

-- ---- the range from (id, 0) to (id, 2^32 - 1)

le_first : (a b : ℕ × ℕ) → is_gt (pair_cmp a b) ≡ false → a.0 ≤ b.0
le_first a b h = elim (cases_lt b.0 a.0) [
  | inl above ↦ let no = rw (← nat_cmp_is a.0 b.0 Greater above) at h in absurd (cc)
  | inr within ↦ within
]

le_second : (i a b : ℕ) → a ≤ b → is_gt (pair_cmp (i, a) (i, b)) ≡ false
le_second i a b h = rw (← nat_cmp_is i i Equal refl) (elim (cases_lt a b) [
  | inl below ↦ rw (← nat_cmp_is a b Less below) refl
  | inr from ↦ let same : a ≡ b = omega arith in rw (← nat_cmp_is a b Equal same) refl
])

not_lt_second : (i a b : ℕ) → is_lt (pair_cmp (i, a) (i, b)) ≡ false → b ≤ a
not_lt_second i a b h = let h' = rw (← nat_cmp_is i i Equal refl) at h in elim (cases_lt a b) [
  | inl below ↦ let no = rw (← nat_cmp_is a b Less below) at h' in absurd (cc)
  | inr from ↦ from
]

abbrev pub from_id : ℕ → Bound (ℕ × ℕ)
from_id id = Included (id, 0)

abbrev pub to_id : ℕ → Bound (ℕ × ℕ)
to_id id = Included (id, 4294967295)

in_range : (id v : ℕ) → v < 4294967296 → IsInRange pair_cmp (from_id id) (to_id id) (id, v)
in_range id v h = (le_second id 0 v (omega arith), le_second id v 4294967295 (omega arith))

is_some_get : (m : BTreeMap (ℕ × ℕ) (List ℕ)) (id v : ℕ) → IsSome (ring_key m.entries id v) → IsSome (get pair_cmp m (id, v))
is_some_get m id v h = subst IsSome (sym (lookup-ring_key m.entries id v)) h

-- the range, by the ends that the code computed
pub id_range : (m : BTreeMap (ℕ × ℕ) (List ℕ)) (id : ℕ) (a b : ℕ × ℕ) → a ≡ (id, 0) → b ≡ (id, 4294967295) → (r : List RingEntry)
    → IsRangeOf pair_cmp (Included a) (Included b) m r → IsRangeOf pair_cmp (from_id id) (to_id id) m r
id_range m id a b start end r h =
    subst (λ (y : ℕ × ℕ). IsRangeOf pair_cmp (from_id id) (Included y) m r) end (subst (λ (x : ℕ × ℕ). IsRangeOf pair_cmp (Included x) (Included b) m r) start h)

-- the last entry of the range has the greatest version of the id
pub last_is_latest : (m : BTreeMap (ℕ × ℕ) (List ℕ)) (id : ℕ) (p : ℕ × ℕ) (x : List ℕ)
    → IsEntryInRange pair_cmp (from_id id) (to_id id) m (p, x)
    → ((q : ℕ × ℕ) → IsInRange pair_cmp (from_id id) (to_id id) q → IsSome (get pair_cmp m q) → is_lt (pair_cmp p q) ≡ false)
    → IsLatest m.entries id p.1
last_is_latest m id p x there last =
    let low : id ≤ p.0 = le_first (id, 0) p there.0.0 in
    let high : p.0 ≤ id = le_first p (id, 4294967295) there.0.1 in
    let same : p.0 ≡ id = omega arith in
    record {
      there = subst (λ (i : ℕ). IsSome (ring_key m.entries i p.1)) same (subst IsSome (sym there.1 ∙ lookup-ring_key m.entries p.0 p.1) refl);
      greatest = λ v small h.
          not_lt_second id p.1 v (subst (λ (i : ℕ). is_lt (pair_cmp (i, p.1) (id, v)) ≡ false) same (last (id, v) (in_range id v small) (is_some_get m id v h)));
    }

-- where the range is empty there is no key of the id
pub none_of_id : (m : BTreeMap (ℕ × ℕ) (List ℕ)) (id : ℕ)
    → ((q : ℕ × ℕ) → IsInRange pair_cmp (from_id id) (to_id id) q → get pair_cmp m q ≡ None)
    → (v : ℕ) → v < 4294967296 → IsNone (ring_key m.entries id v)
none_of_id m id none v small = subst IsNone (sym (none (id, v) (in_range id v small)) ∙ lookup-ring_key m.entries id v) refl

-- ---- a key that is put in

-- the ring after `insert` at a place where there was no key; old is what `insert` gave back
pub insert-HasAdded : (m n : BTreeMap (ℕ × ℕ) (List ℕ)) (id v : ℕ) (key : List ℕ) (old : Option (List ℕ))
    → ((q : ℕ × ℕ) → get pair_cmp n q ≡ cond (is_at (pair_cmp (id, v)) q) (Some key) (get pair_cmp m q))
    → length n.entries ≡ length m.entries + cond (is_some old) 0 1
    → old ≡ get pair_cmp m (id, v)
    → false ≡ is_some (get pair_cmp m (id, v))
    → HasAdded m.entries n.entries id v key
insert-HasAdded m n id v key old updates long was none = record {
  keys = λ i w. sym (lookup-ring_key n.entries i w) ∙ updates (i, w) ∙ rw (is_eq-pair_cmp id v i w, lookup-ring_key m.entries i w) refl;
  one_more = let gone : is_some old ≡ false = ap is_some was ∙ sym none in rw gone at long;
}

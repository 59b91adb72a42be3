-- A ring of keys: the pairs of id and version, ascending, with the bytes of their keys.
use Rattle.std.specs.Prelude.{◌≡◌, ℕ, ◌+◌, ◌^◌, ◌<◌, ◌≤◌, ◌==◌, ◌&&◌, if◌then◌else◌, List, [], ◌∷◌, length, map, All, Option, Some, None, IsSome}
use Rattle.std.specs.Ordering.{nat_cmp, ordering_then}
use Rattle.std.specs.declared.cmp.Ordering.{Ordering}
use Rattle.std.specs.List.Sorted.{IsStrictlySortedBy}

-- an id and a version, with the bytes of the key
abbrev pub RingEntry : Type 0
RingEntry = (ℕ × ℕ) × List ℕ

-- the map as a function: the key of an id and a version
abbrev pub ring_key : List RingEntry → ℕ → ℕ → Option (List ℕ)
ring_key [] id version = None
ring_key (e ∷ es) id version = if e.0.0 == id && e.0.1 == version then Some e.1 else ring_key es id version

-- the pairs of id and version
abbrev pub pairs_of : List RingEntry → List (ℕ × ℕ)
pairs_of es = map (λ e. e.0) es

-- by id, then by version
abbrev pub pair_cmp : ℕ × ℕ → ℕ × ℕ → Ordering
pair_cmp a b = ordering_then (nat_cmp a.0 b.0) (nat_cmp a.1 b.1)

-- what holds of every ring: the pairs ascend strictly, and each version is at least 1
pub record IsRing (es : List RingEntry) : Type 0 where
  pub ascending : IsStrictlySortedBy pair_cmp (pairs_of es)
  pub versions : All (λ p. 1 ≤ p.1) (pairs_of es)

-- the new ring has the key at its place, and elsewhere what the old one has
pub record HasAdded (old new : List RingEntry) (id version : ℕ) (key : List ℕ) : Type 0 where
  pub keys : (i v : ℕ) → ring_key new i v ≡ (if i == id && v == version then Some key else ring_key old i v)
  pub one_more : length new ≡ length old + 1

-- the greatest version of an id
pub record IsLatest (es : List RingEntry) (id version : ℕ) : Type 0 where
  pub there : IsSome (ring_key es id version)
  pub greatest : (v : ℕ) → v < 2 ^ 32 → IsSome (ring_key es id v) → v ≤ version

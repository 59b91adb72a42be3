-- The keys that a version needs, and the versions of a ring.
use Rattle.std.proofs.Common.{◌≡◌, ℕ, suc, zero, ◌<◌, ◌≤◌, ◌&&◌, ◌==◌, Bool, true, false, if◌then◌else◌, List, [], ◌∷◌, length, map, Option, Some, None, IsSome, refl, sym, ap, ◌∙◌, subst, arith}
use Rattle.std.specs.List.{All}
use Rattle.std.proofs.lemmas.Bool.{and_parts}
use Rattle.std.proofs.lemmas.Bool.Decides.{nat_tests}
use Rattle.key_ring.specs.Ring.{RingEntry, pairs_of, ring_key}

same_number : (a b : ℕ) → (a == b) ≡ true → a ≡ b
same_number a b is = grind (arith, nat_tests)

-- each version of a ring is at least 1
pub version_some : (ring : List RingEntry) (id version : ℕ) → All (λ p. 1 ≤ p.1) (pairs_of ring) → IsSome (ring_key ring id version) → 1 ≤ version
version_some [] id version all some = absurd (cc)
version_some (e ∷ es) id version all some = by (e.0.0 == id && e.0.1 == version) refl (λ rest. version_some es id version (λ k d lt. all (suc k) d (omega arith)) rest)
  where
    by : (b : Bool) → (e.0.0 == id && e.0.1 == version) ≡ b → (IsSome (ring_key es id version) → 1 ≤ version) → 1 ≤ version
    by true test later =
        let same : e.0.1 ≡ version = same_number e.0.1 version (and_parts _ _ test).1 in
        let least : 1 ≤ e.0.1 = all 0 e.0 (omega arith) in
        omega (arith, same, least)
    by false test later = later (subst (λ (b : Bool). IsSome (if b then Some e.1 else ring_key es id version)) test some)

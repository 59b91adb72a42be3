-- What a ring that loaded has: the keys of file k as version k, counted from 1.
use Rattle.std.proofs.Common.{◌≡◌, ℕ, zero, suc, ◌+◌, ◌<◌, ◌≤◌, List, [], ◌∷◌, length, get_or, Option, Ok, refl, ap, subst, ◌∙◌, arith}
use Rattle.std.proofs.lemmas.Bool.{eq-eqb, ne_eqb}
use Rattle.io_core.specs.Files.{Files}
use Rattle.key_ring.specs.Ring.{RingEntry, ring_key}
use Rattle.key_file.specs.declared.derivation.KeyDigest.{KeyDigest}
use Rattle.key_file.specs.declared.keys.KeyItem.{KeyItem}
use Rattle.key_file.specs.Plain.{key_in}
use Rattle.key_file.specs.Load.{KeysOf}
use Rattle.key_file.specs.Loaded.{LoadsFrom}

module _ (files : Files) (filekey : Option (List ℕ)) (digest : KeyDigest) where
  -- later files leave the earlier versions as they are
  kept : (n : ℕ) (names : List (List ℕ)) (ring last : List RingEntry) → LoadsFrom files filekey digest n names ring (Ok last)
      → (id v : ℕ) → v ≤ n → ring_key last id v ≡ ring_key ring id v
  kept n [] ring last h id v le = let same : last ≡ ring = cc in ap (λ (r : List RingEntry). ring_key r id v) same
  kept n (name ∷ names) ring last h id v le =
      kept (n + 1) names h.2.ring last h.2.rest_loads id v (omega arith)
      ∙ h.2.added.keys_are id v ∙ rw (ne_eqb v (n + 1) (λ e. omega arith)) refl

  -- each file reads, and its keys are those of its version
  pub version_of_file : (n : ℕ) (names : List (List ℕ)) (ring last : List RingEntry) → LoadsFrom files filekey digest n names ring (Ok last)
      → (k : ℕ) (d : List ℕ) → k < length names
      → (keys : List KeyItem) × KeysOf files (n + k) filekey digest (get_or names k d) (Ok keys) × ((id : ℕ) → ring_key last id (n + k + 1) ≡ key_in keys id)
  version_of_file n [] ring last h k d l = absurd (omega arith)
  version_of_file n (name ∷ names) ring last h zero d l = (
    h.0,
    subst (λ (i : ℕ). KeysOf files i filekey digest name (Ok h.0)) (omega arith) h.1,
    λ id. subst (λ (i : ℕ). ring_key last id (i + 1) ≡ key_in h.0 id) (omega arith)
        (kept (n + 1) names h.2.ring last h.2.rest_loads id (n + 1) (omega arith) ∙ h.2.added.keys_are id (n + 1) ∙ rw (eq-eqb (n + 1) (n + 1) refl) refl),
  )
  version_of_file n (name ∷ names) ring last h (suc k) d l =
      let later = version_of_file (n + 1) names h.2.ring last h.2.rest_loads k d (omega arith) in
      let same : n + 1 + k ≡ n + suc k = omega arith in (
        later.0,
        subst (λ (i : ℕ). KeysOf files i filekey digest (get_or names k d) (Ok later.0)) same later.1,
        λ id. subst (λ (i : ℕ). ring_key last id (i + 1) ≡ key_in later.0 id) same (later.2 id),
      )

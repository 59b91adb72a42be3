-- A cache of local keys after its calls.
use Rattle.std.proofs.Common.{◌≡◌, ℕ, Bool, true, List, Option, Some, Result, Ok, Err, OnOk, OnErr, sym, ap, subst, ◌∙◌, inl, inr, rules}
use Rattle.std.specs.Map.{lookup}
use Rattle.lru.specs.LruCache.{LruCache, lru_cache, promoted, put_entries}
use Rattle.lru.proofs.CallerLemmas.{Contains-lookup, Contains-promoted, Contains-put_entries}
use Rattle.key_ring.specs.declared.cache.LocalName.{LocalName}
use Rattle.key_ring.specs.contracts.cache.LocalNamePartialEq as name_eq
use Rattle.key_ring.specs.Local.{IsCacheOf, local_key}
use Rattle.key_ring.specs.Ring.{RingEntry}

abbrev eq : LocalName → LocalName → Bool
eq = (name_eq.TheImpl.eq-value).it

same_name : (x y : LocalName) → eq x y ≡ true → x ≡ y
same_name x y h = search rules

abbrev local_of : List RingEntry → LocalName → Option (List ℕ)
local_of ring name = local_key ring name.id name.version name.salt

-- what the cache finds is the local key
pub found_local : (ring : List RingEntry) (cache : List (LocalName × List ℕ)) (name : LocalName) (x : List ℕ)
    → IsCacheOf ring cache → lookup (eq name) cache ≡ Some x → Some x ≡ local_of ring name
found_local ring cache name x kept h =
    let at = Contains-lookup (eq name) cache x h in
    subst (λ k. Some x ≡ local_of ring k) (sym (same_name name at.0 at.2)) (sym (kept (at.0, x) at.1))

-- a look-up changes the order alone
pub promoted_cache : (ring : List RingEntry) (cache : List (LocalName × List ℕ)) (name : LocalName) → IsCacheOf ring cache → IsCacheOf ring (promoted (eq name) cache)
promoted_cache ring cache name kept e there = kept e (Contains-promoted (eq name) cache e there)

put_cache : (ring : List RingEntry) (m : LruCache LocalName (List ℕ)) (name : LocalName) (x : List ℕ)
    → IsCacheOf ring m.entries → Some x ≡ local_of ring name → IsCacheOf ring (put_entries eq m name x)
put_cache ring m name x kept is e there = elim (Contains-put_entries eq m name x e there) [
  | inl before ↦ kept e before
  | inr now ↦
      let same : e.0 ≡ name = elim now.1 [ inl one ↦ one | inr other ↦ sym (same_name name e.0 other.2) ] in
      ap (local_of ring) same ∙ sym is ∙ ap Some (sym now.0)
]

-- a local key is kept or, where there is no memory, left out
pub kept_after_put : {R E : Type 0} (ring : List RingEntry) (m n : LruCache LocalName (List ℕ)) (name : LocalName) (x : List ℕ) (r : Result R E)
    → OnOk r (n ≡ lru_cache (put_entries eq m name x) m.cap) → OnErr r (n ≡ m)
    → IsCacheOf ring m.entries → Some x ≡ local_of ring name → IsCacheOf ring n.entries
kept_after_put ring m n name x (Ok y) put stays kept is = subst (λ c. IsCacheOf ring c.entries) (sym put) (put_cache ring m name x kept is)
kept_after_put ring m n name x (Err y) put stays kept is = subst (λ c. IsCacheOf ring c.entries) (sym stays) kept

-- Local keys.
use Rattle.std.specs.Prelude.{◌≡◌, ℕ, List, Option, Some, option_map, Contains}
use Rattle.aes_core.specs.Cipher.{encrypted}
use Rattle.key_ring.specs.declared.cache.LocalName.{LocalName}
use Rattle.key_ring.specs.Ring.{RingEntry, ring_key}

-- the local key of an id, a version and a salt: the salt as one block under the key, if there is one
abbrev pub local_key : List RingEntry → ℕ → ℕ → List ℕ → Option (List ℕ)
local_key ring id version salt = option_map (λ key. encrypted key salt) (ring_key ring id version)

-- each entry of the cache is this ring's local key
abbrev pub IsCacheOf : List RingEntry → List (LocalName × List ℕ) → Type 0
IsCacheOf ring cache = (e : LocalName × List ℕ) → Contains cache e → local_key ring e.0.id e.0.version e.0.salt ≡ Some e.1

-- Why a ring takes no key, one rule for each refusal.
use Rattle.std.specs.Prelude.{◌≡◌, ℕ, List, length, IsSome, IsNone}
use Rattle.aes_core.specs.Cipher.{IsKeyLength}
use Rattle.key_ring.specs.declared.ring.RingFault.{RingFault}
use Rattle.key_ring.specs.declared.ring.RingFault.TheVariants.{BadLength, Twice, OutOfMemory}
use Rattle.key_ring.specs.Ring.{RingEntry, ring_key}

-- the length comes first, then the place; the rest is want of memory
abbrev pub IsRefusal : List RingEntry → ℕ → ℕ → List ℕ → RingFault → Type 0
IsRefusal ring id version key (BadLength n) = (n ≡ length key) × (¬ IsKeyLength n)
IsRefusal ring id version key (Twice i v) = (i ≡ id) × (v ≡ version) × IsKeyLength (length key) × IsSome (ring_key ring id version)
IsRefusal ring id version key OutOfMemory = IsKeyLength (length key) × IsNone (ring_key ring id version)

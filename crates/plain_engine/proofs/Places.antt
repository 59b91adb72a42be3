-- The places of the ring.
use Rattle.std.proofs.Common.{◌≡◌, ◌≢◌, ℕ, ◌+◌, ◌*◌, ◌<◌, ◌≤◌, ◌⊎◌, inl, inr, ⊎_elim, arith}
use Rattle.std.proofs.lemmas.Bool.{cases_lt}
use Rattle.plain_engine.specs.Log.{ring_place}

pub place_low : (n : ℕ) → 3 ≤ ring_place n
unfolding ring_place
place_low n = omega arith

pub place_high : (n : ℕ) → ring_place n < 259
unfolding ring_place
place_high n = omega arith

-- blocks of one window of the ring have places of their own
pub places_apart : (i j : ℕ) → i < 256 → j < 256 → i ≢ j → ring_place (i + 2) ≢ ring_place (j + 2)
unfolding ring_place
places_apart i j is js other same = omega (arith, other)

-- a block 256 later has the same place
pub place_again : (i : ℕ) → ring_place (i + 256) ≡ ring_place i
unfolding ring_place
place_again i = omega arith

pub ranges_apart : (i j : ℕ) → i < 256 → j < 256 → i ≢ j → (ring_place (i + 2) * 4096 + 4096 ≤ ring_place (j + 2) * 4096) ⊎ (ring_place (j + 2) * 4096 + 4096 ≤ ring_place (i + 2) * 4096)
ranges_apart i j is js other =
    let apart = places_apart i j is js other in
    ⊎_elim (λ (lt : ring_place (i + 2) < ring_place (j + 2)). inl (omega arith)) (λ (ge : ring_place (j + 2) ≤ ring_place (i + 2)). inr (omega (arith, apart))) (cases_lt (ring_place (i + 2)) (ring_place (j + 2)))

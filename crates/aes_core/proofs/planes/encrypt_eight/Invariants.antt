use Rattle.std.proofs.Common.{◌≡◌, ℕ, List, [], ◌<◌, ◌-◌, get_or}
use Rattle.aes_core.specs.Cipher.{after_rounds}
use Rattle.aes_core.specs.Planes.{AreKeyPlanes, ArePlanes, block_in}
use Rattle.aes_core.proofs.planes.encrypt_eight.Given as goal

abbrev pub invariant-loop-r : goal.invariant-loop-r
invariant-loop-r l =
    ArePlanes l.state
    × ((w : List ℕ) → AreKeyPlanes l.keys w l.rounds → (b : ℕ) → b < 8 → block_in l.state b ≡ after_rounds w (get_or l.fn.blocks b []) (l.r - 1))

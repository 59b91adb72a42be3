use Rattle.std.proofs.Common.{◌≡◌, ℕ, List, [], ◌<◌, ◌-◌, get_or}
use Rattle.aes_core.specs.Cipher.{before_rounds}
use Rattle.aes_core.specs.Planes.{AreKeyPlanes, ArePlanes, block_in}
use Rattle.aes_core.proofs.planes.decrypt_eight.Given as goal

abbrev pub invariant-loop-n : goal.invariant-loop-n
invariant-loop-n l =
    ArePlanes l.state
    × ((w : List ℕ) → AreKeyPlanes l.keys w l.rounds → (b : ℕ) → b < 8 → block_in l.state b ≡ before_rounds w l.rounds (get_or l.fn.blocks b []) (l.n - 1))

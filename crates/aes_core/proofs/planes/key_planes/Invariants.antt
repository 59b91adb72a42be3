use Rattle.std.proofs.Common.{ℕ, ◌<◌}
use Rattle.aes_core.specs.Cipher.{bytes_of}
use Rattle.aes_core.specs.Planes.{round_planes}
use Rattle.aes_core.proofs.PlaneLists.{HoldsKey}
use Rattle.aes_core.proofs.planes.key_planes.Given as goal

abbrev pub invariant-loop-r : goal.invariant-loop-r
invariant-loop-r l = (q : ℕ) → q < l.r → HoldsKey (round_planes l.out q) (bytes_of l.keys) q

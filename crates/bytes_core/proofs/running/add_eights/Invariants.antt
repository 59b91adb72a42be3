use Rattle.std.proofs.Common.{◌≡◌, ℕ, ◌*◌, take}
use Rattle.bytes_core.specs.Crc.{after_bytes, IsTablesOf}
use Rattle.bytes_core.proofs.running.add_eights.Given as goal

abbrev pub invariant-loop-i : goal.invariant-loop-i
invariant-loop-i l = (p : ℕ) → IsTablesOf p l.tables → l.register ≡ after_bytes p l.start (take (8 * l.i) l.bytes)

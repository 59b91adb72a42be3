use Rattle.std.proofs.Common.{◌≡◌, ℕ, List, ◌*◌, take}
use Rattle.bytes_core.specs.Crc.{after_bytes, IsTablesOf}
use Rattle.bytes_core.specs.declared.tables.Tables.{Tables}
use Rattle.bytes_core.proofs.running.add_lanes.Given as goal

-- the register r has the first 8 * i bytes of a lane
abbrev pub Lane : Tables → ℕ → ℕ → ℕ → List ℕ → Type 0
Lane t i r start bytes = (p : ℕ) → IsTablesOf p t → r ≡ after_bytes p start (take (8 * i) bytes)

abbrev pub invariant-loop-i : goal.invariant-loop-i
invariant-loop-i l = record {
  first : Lane l.tables l.i l.a l.start l.first;
  second : Lane l.tables l.i l.b 0 l.second;
  third : Lane l.tables l.i l.c 0 l.third;
}

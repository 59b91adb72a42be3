use Rattle.std.proofs.Common.{◌≡◌, ℕ, ◌<◌, List, [], drop, map, IsNone, Result, string_bytes}
use Rattle.std.specs.Option.{option_copied}
use Rattle.io_core.specs.Told.{Told}
use Rattle.key_ring.specs.Ring.{RingEntry, ring_key}
use Rattle.key_file.specs.declared.load_fault.LoadFault.{LoadFault}
use Rattle.key_file.specs.Loaded.{IsDue, LoadsFrom}
use Rattle.key_file.proofs.ring_files.load_in_order.Given as goal

-- what the rest of the files gives to the ring so far, all of them give, and what the rest calls for, all of them do
abbrev pub invariant-loop-index : goal.invariant-loop-index
invariant-loop-index g l =
    (g.L.Library.files l.files ≡ g.L.Library.files l.initial.files)
    × ((id v : ℕ) → l.index < v → IsNone (ring_key l.ring id v))
    × (g.L.Library.faults l.files ≡ g.L.Library.faults l.initial.files)
    × (g.L.Library.absences l.files ≡ g.L.Library.absences l.initial.files)
    × (g.L.Library.memory_refusals l.files ≡ g.L.Library.memory_refusals l.initial.files)
    × Told
    (λ fs. (r : Result (List RingEntry) LoadFault) → LoadsFrom fs (option_copied l.filekey) l.digest l.index (drop l.index (map string_bytes l.names)) l.ring r
    → LoadsFrom fs (option_copied l.filekey) l.digest 0 (map string_bytes l.names) [] r)
    (g.L.Library.files l.initial.files)
    × Told
    (λ fs. (due : List ℕ) → IsDue fs (option_copied l.filekey) l.digest l.index (drop l.index (map string_bytes l.names)) due
    → IsDue fs (option_copied l.filekey) l.digest 0 (map string_bytes l.names) due)
    (g.L.Library.files l.initial.files)

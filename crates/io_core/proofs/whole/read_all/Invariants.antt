use Rattle.std.proofs.Common.{◌≡◌, ◌≤◌, ◌-◌, vec_len}
use Rattle.io_core.specs.Stream.{prefixed}
use Rattle.io_core.proofs.whole.read_all.Given as goal

-- the bytes so far, and what is to come, are what was to come at first, and no call failed
abbrev pub invariant-pieces : goal.invariant-pieces
invariant-pieces g l =
    (g.S.Source.left l.fn.source ≡ prefixed l.bytes.items (g.S.Source.left l.source))
    × (vec_len l.bytes ≤ l.limit)
    × (g.S.Source.faults l.source ≡ g.S.Source.faults l.fn.source)
    × (g.S.Source.memory_refusals l.source ≡ g.S.Source.memory_refusals l.fn.source)

abbrev pub decreases-pieces : goal.decreases-pieces
decreases-pieces g l = l.limit - vec_len l.bytes

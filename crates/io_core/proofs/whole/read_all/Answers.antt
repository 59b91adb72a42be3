use Rattle.std.proofs.Common.{◌++◌, take}
use Rattle.io_core.proofs.Streams.{taken_then}
use Rattle.io_core.proofs.whole.read_all.Goals as goal

pub returns-then-count-limit-clause-left : goal.returns-then-count-limit-clause-left
returns-then-count-limit-clause-left g c =
    (c.pieces.bytes.items ++ take c.in_ok-count.count c.take.new.into, taken_then _ _ _ c.pieces.bytes.items _ c.pieces.invariant.0 c.in_ok-count.ensures.next)

pub returns-in_err-extend_from_slice-clause-left :
    goal.returns-in_err-extend_from_slice-clause-left
returns-in_err-extend_from_slice-clause-left g c =
    (c.pieces.bytes.items ++ take c.in_ok-count.count c.take.new.into, taken_then _ _ _ c.pieces.bytes.items _ c.pieces.invariant.0 c.in_ok-count.ensures.next)

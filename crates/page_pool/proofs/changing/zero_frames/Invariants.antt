use Rattle.std.proofs.Common.{◌≡◌, replicate, None}
use Rattle.store_model.specs.Fold.{used}
use Rattle.page_pool.proofs.changing.zero_frames.Given as goal

abbrev pub invariant-loop-i : goal.invariant-loop-i
invariant-loop-i l = l.frames.items ≡ replicate l._i (used None)

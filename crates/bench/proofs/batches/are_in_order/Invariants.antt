use Rattle.std.proofs.Common.{◌≡◌, ◌+◌, ℕ, ◌<◌}
use Rattle.doublewrite.specs.Batch.{text_at}
use Rattle.doublewrite.specs.Text.{page_number_of}
use Rattle.bench.proofs.batches.are_in_order.Given as goal

abbrev pub invariant-loop-i : goal.invariant-loop-i
invariant-loop-i l = (j : ℕ) → j < l.i → page_number_of (text_at l.batch j) ≡ l.first + j

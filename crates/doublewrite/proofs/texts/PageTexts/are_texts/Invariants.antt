use Rattle.std.proofs.Common.{ℕ, ◌<◌, [], slice_index_or}
use Rattle.doublewrite.specs.Text.{IsPageText}
use Rattle.doublewrite.proofs.texts.PageTexts.are_texts.Given as goal

abbrev pub invariant-loop-i : goal.invariant-loop-i
invariant-loop-i l = (j : ℕ) → j < l.i → IsPageText (slice_index_or l.self j [])

use Rattle.std.proofs.Common.{◌≡◌, ◌≤◌, ◌<◌, ◌-◌, ℕ, false}
use Rattle.redo_text.specs.Reading.{block_flags, is_first}
use Rattle.redo_log.specs.Log.{pending_at, pending_count}
use Rattle.redo_log.proofs.log.Log.last_first.Given as goal

abbrev pub invariant-loop-i : goal.invariant-loop-i
invariant-loop-i l = (j : ℕ) → pending_count l.self - l.i ≤ j → j < pending_count l.self → is_first (block_flags (pending_at l.self j)) ≡ false

use Rattle.std.proofs.Common.{◌≡◌, ◌⊎◌}
use Rattle.redo_log.specs.Log.{handed_over}
use Rattle.log_drill.proofs.crashing.drill_out.Given as goal

abbrev pub invariant-loop-turn : goal.invariant-loop-turn
invariant-loop-turn l = (l.log.blocks ≡ 32) × ((l.log ≡ l.fn.log) ⊎ (l.log ≡ handed_over l.fn.log))

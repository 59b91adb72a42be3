use Rattle.std.proofs.Common.{◌≡◌}
use Rattle.log_drill.proofs.crashing.drill_checkpoint.Given as goal

abbrev pub invariant-loop-turn : goal.invariant-loop-turn
invariant-loop-turn l = (l.log.blocks ≡ 32) × (l.log ≡ l.fn.log)

use Rattle.std.proofs.Common.{◌≡◌}
use Rattle.bench.proofs.redo.append_all.Given as goal

abbrev pub invariant-loop : goal.invariant-loop
invariant-loop l = l.log.blocks ≡ 4096

use Rattle.image_log.proofs.WholeMtrs.{Begun}
use Rattle.image_log.proofs.run.whole_mtr.Given as goal

abbrev pub invariant-loop-i : goal.invariant-loop-i
invariant-loop-i l = Begun l.blocks l.log l.number l.i

use Rattle.image_log.proofs.WholeMtrs.{Leads}
use Rattle.image_log.proofs.run.run_from.Given as goal

abbrev pub invariant-loop-round : goal.invariant-loop-round
invariant-loop-round l = Leads l.blocks l.log l.from l.sizes.items l.end l._round

use Rattle.image_log.proofs.Entries.{Gathers}
use Rattle.image_log.proofs.log.entries_of.Given as goal

abbrev pub invariant-loop-size : goal.invariant-loop-size
invariant-loop-size l = Gathers l.header l.keys l.log l.from l.run.sizes.items l.run.end l.entries.items l.first l.size-index

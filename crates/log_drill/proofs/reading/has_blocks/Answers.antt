use Rattle.disk_model.proofs.Moments.{at_is}
use Rattle.log_drill.proofs.reading.has_blocks.Goals as goal

pub read_place-requires-clause-inside : goal.read_place-requires-clause-inside
read_place-requires-clause-inside g c = at_is c.loop-n.invariant.0 c.requires.inside

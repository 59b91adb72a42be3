use Rattle.std.proofs.Common.{subst}
use Rattle.script_core.specs.Batches.{HasBatch}
use Rattle.script_core.proofs.BatchLemmas.{tells_take, tells_put, tells_other}
use Rattle.script_core.proofs.batches.Batches.note.Goals as goal

pub returns-in-Take : goal.returns-in-Take
returns-in-Take c before tells = tells_take c.args.self.now.out before tells c.args.act.now c.in-Take.batch c.in-Take.space c.in-Take.count c.in-Take.is (subst HasBatch c.in-Take.is c.requires)

pub returns-in-Put : goal.returns-in-Put
returns-in-Put c before tells = tells_put c.args.self.now.out before tells c.args.act.now c.in-Put.batch c.in-Put.is (subst HasBatch c.in-Put.is c.requires)

pub returns-in_default : goal.returns-in_default
returns-in_default c before tells = tells_other c.args.self.now.out before tells c.args.act.now c.in_default.not-Take c.in_default.not-Put

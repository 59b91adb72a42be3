use Rattle.std.proofs.Common.{sym}
use Rattle.image_log.proofs.checkpoint.checkpoint_in.Goals as goal

pub returns-in-Some : goal.returns-in-Some
returns-in-Some c = sym c.in-Some.ensures.some

pub returns-in-None : goal.returns-in-None
returns-in-None c = sym c.in-None.ensures.none

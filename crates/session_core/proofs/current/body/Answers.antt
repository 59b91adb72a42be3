use Rattle.session_core.proofs.CurrentLaws.{body_is}
use Rattle.session_core.proofs.current.body.Goals as goal

pub returns : goal.returns
returns c = body_is c.args.page.now c.requires

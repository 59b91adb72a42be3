use Rattle.session_core.proofs.ChangeChecks.{kind_missing, put_missing}
use Rattle.session_core.proofs.committing.check_named.Goals as goal

pub returns-in-Put-clause-refused : goal.returns-in-Put-clause-refused
returns-in-Put-clause-refused c = put_missing c.args.store.now.spaces c.args.change.now _ _ _ _ c.check_page.result c.in-Put.is c.check_page.ensures.refused

pub returns-in-Kind-clause-refused : goal.returns-in-Kind-clause-refused
returns-in-Kind-clause-refused c = kind_missing c.args.store.now.spaces c.args.change.now _ _ _ c.check_page-in-Kind.result c.in-Kind.is c.check_page-in-Kind.ensures.refused

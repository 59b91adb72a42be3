use Rattle.session_core.proofs.SettleLaws.{synced_in_part}
use Rattle.session_core.proofs.session.SessionCore.sync.Goals as goal

pub returns-clause-refused : goal.returns-clause-refused
returns-clause-refused g c = synced_in_part g.D.Disk.past c.args.self.now c.settle.new.self c.settle.result c.in_ok-check.ensures.up c.settle.ensures.refused

use Rattle.io_core.proofs.Causes.{told_same}
use Rattle.binlog_text.proofs.tests.read_log.Goals as goal

pub events-preserved : goal.events-preserved
events-preserved c = told_same c.next.ensures.same c.next.follows.holds-at-none.keeps

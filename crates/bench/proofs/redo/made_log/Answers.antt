use Rattle.bench.proofs.MadeLog.{places_made}
use Rattle.bench.proofs.redo.made_log.Goals as goal

pub returns : goal.returns
returns g c = places_made (g.D.Disk.past c.args.disk.now) (g.D.Disk.past c.make.new.self) c.in-Ok.ensures.ok

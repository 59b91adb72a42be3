use Rattle.std.proofs.lemmas.Result.{on_ok_weaker}
use Rattle.disk_model.specs.Event.{Make}
use Rattle.disk_model.specs.declared.names.FileName.TheVariants.{Log}
use Rattle.disk_model.proofs.Moments.{at_each, at_grow, at_is}
use Rattle.plain_engine.proofs.Fresh.{now_make}
use Rattle.plain_engine.proofs.format.make_log.Goals as goal
use Rattle.plain_engine.specs.Block.{log_bytes}

pub make-requires : goal.make-requires
make-requires g c = at_each (λ es e. e.absent) c.requires

pub returns-clause-ok : goal.returns-clause-ok
returns-clause-ok g c = on_ok_weaker c.make.result (λ is. at_is is (at_grow (Make Log log_bytes) now_make c.requires)) c.make.ensures.ok

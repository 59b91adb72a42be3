use Rattle.std.proofs.lemmas.Result.{on_ok_weaker}
use Rattle.disk_model.specs.Past.{Past}
use Rattle.disk_model.proofs.Moments.{at_last}
use Rattle.places.specs.Batches.{From}
use Rattle.redo_log.specs.Recorded.{KeepsItems}
use Rattle.log_drill.proofs.LogFiles.{fresh_made}
use Rattle.log_drill.proofs.Sessions.{items_made}
use Rattle.log_drill.proofs.session.make_log.Goals as goal

pub write_first-requires : goal.write_first-requires
write_first-requires g c = fresh_made (g.D.Disk.past c.args.disk.now) (g.D.Disk.past c.make.new.self) c.in_default.ensures.ok

pub returns-clause-items : goal.returns-clause-items
returns-clause-items g c =
    let old : Past = g.D.Disk.past c.args.disk.now in
    let mid : Past = g.D.Disk.past c.make.new.self in
    let new : Past = g.D.Disk.past c.write_first.new.disk in
    on_ok_weaker c.write_first.result (λ places. items_made old mid new 143360 c.in_default.ensures.ok (at_last (From KeepsItems mid) mid new c.write_first.ensures.items)) c.write_first.ensures.places

use Rattle.std.proofs.Common.{length}
use Rattle.disk_model.specs.Event.{Sync}
use Rattle.disk_model.specs.declared.names.FileName.TheVariants.{Log}
use Rattle.disk_model.proofs.Moments.{one_sync}
use Rattle.plain_engine.proofs.Events.{ready_sync, ready_safe}
use Rattle.plain_engine.proofs.log.sync_log.Goals as goal

pub returns-clause-step : goal.returns-clause-step
returns-clause-step g c =
    let blocks = c.args.log.now.blocks.items in
    let acked = c.args.log.now.acked in
    one_sync (Sync Log) c.requires (ready_safe blocks c.args.log.now.settled (length blocks) acked) (ready_safe blocks (length blocks) (length blocks) acked)
    (ready_sync blocks c.args.log.now.settled (length blocks) acked) c.sync.ensures.ok c.sync.ensures.err

use Rattle.std.proofs.Common.{length, ap, ◌∙◌, arith}
use Rattle.redo_log.proofs.BlockSteps.{long_at}
use Rattle.redo_log.proofs.log.Log.last_first.Goals as goal

pub begins-requires : goal.begins-requires
begins-requires c =
    let count = c.pending_count-n.ensures.count in
    ap length c.pending_block.ensures ∙ long_at c.args.self.now c.pending_count-n.ensures.open _ (omega (arith, count, c.loop-i-test.true))

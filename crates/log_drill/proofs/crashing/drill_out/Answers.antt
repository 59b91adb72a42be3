use Rattle.std.proofs.Common.{◌≡◌, ℕ, subst}
use Rattle.disk_model.specs.Contents.{events}
use Rattle.redo_log.specs.Log.{durable}
use Rattle.log_drill.specs.Kept.{MayBegin}
use Rattle.log_drill.proofs.Sessions.{kept_or_handed, on_ok, same_durable}
use Rattle.log_drill.proofs.crashing.drill_out.Goals as goal

pub returns-clause-journal : goal.returns-clause-journal
returns-clause-journal c = λ keys count k.
    let old = c.args.log.now in
    let handed = c.loop-turn.invariant.1 in
    let w = c.in_ok-write_all.ensures.journal keys count (kept_or_handed keys count (events c.args.disk.now.contents) old k c.loop-turn.log handed) in
    let at : durable c.loop-turn.log ≡ durable old = same_durable old c.loop-turn.log handed in
    on_ok c.crash_rows.result (subst (λ (f : ℕ). MayBegin keys count f c.write_all.new.log (events c.write_all.new.disk.contents)) at w.0, w.1)

use Rattle.std.proofs.Common.{◌≡◌, ◌-◌, length, subst, arith, rules}
use Rattle.std.proofs.lemmas.Result.{on_err_weaker}
use Rattle.disk_model.specs.Past.{At}
use Rattle.disk_model.proofs.Moments.{one_more, ended_by, begins, at_each, at_is, at_last, finished}
use Rattle.plain_engine.proofs.Events.{ready_safe, ready_moment, safe_alone, on_err_always}
use Rattle.plain_engine.proofs.TurnCounts.{turns_same, none_of}
use Rattle.plain_engine.specs.Layer.{IsCrashSafe, LogReady, PlainMoment}
use Rattle.plain_engine.proofs.log.write_out.Goals as goal

pub returns-then-log-len-clause-step : goal.returns-then-log-len-clause-step
returns-then-log-len-clause-step g c =
    let blocks = c.args.log.now.blocks.items in
    let settled = c.args.log.now.settled in
    let acked = c.args.log.now.acked in
    let all : settled ≡ length blocks = search rules in
    finished (begins (IsCrashSafe blocks) _ (at_each (ready_safe blocks settled settled acked) c.requires.ready))
    (subst (λ n. At (LogReady blocks n n acked) (g.D.Disk.past c.args.disk.now)) all c.requires.ready)

pub returns-in_err-write_pending-clause-step : goal.returns-in_err-write_pending-clause-step
returns-in_err-write_pending-clause-step g c =
    let blocks = c.args.log.now.blocks.items in
    ended_by _ _ c.from_residual.ensures.1 (safe_alone blocks c.args.log.now.settled c.args.log.now.acked c.in_err-write_pending.ensures.step)

pub returns-in_err-write_pending-clause-kept : goal.returns-in_err-write_pending-clause-kept
returns-in_err-write_pending-clause-kept g c =
    let step = c.in_err-write_pending.ensures.step in
    on_err_always c.from_residual.result (at_last (PlainMoment c.args.log.now.blocks.items c.args.log.now.settled c.args.log.now.acked) _ _ step.moments)

pub returns-clause-step : goal.returns-clause-step
returns-clause-step g c =
    let blocks = c.args.log.now.blocks.items in
    one_more (safe_alone blocks c.args.log.now.settled c.args.log.now.acked c.in_ok-write_pending.ensures.step) c.sync_log.ensures.step

pub returns-clause-kept : goal.returns-clause-kept
returns-clause-kept g c =
    let blocks = c.args.log.now.blocks.items in
    let before = c.in_ok-write_pending.ensures.step.next in
    on_err_weaker c.sync_log.result (λ same. at_is same (at_each (ready_moment blocks c.args.log.now.settled (length blocks) c.args.log.now.acked) before)) c.sync_log.ensures.same

pub returns-then-log-len-clause-turns : goal.returns-then-log-len-clause-turns
returns-then-log-len-clause-turns g c =
    let all : c.args.log.now.settled ≡ length c.args.log.now.blocks.items = search rules in
    let none : length c.args.log.now.blocks.items - c.args.log.now.settled ≡ 0 = omega (arith, all) in
    turns_same c.args.turns.now _ c.requires.counted (none_of _ none)

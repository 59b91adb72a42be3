use Rattle.std.proofs.Common.{◌≡◌, ◌+◌, ◌-◌, ◌≤◌, ◌∙◌, ap, length, arith, rules, subst}
use Rattle.disk_model.proofs.Moments.{begins, and_then, at_each, after, ended_by, finished}
use Rattle.disk_model.specs.Past.{At}
use Rattle.plain_engine.proofs.Events.{ready_moment}
use Rattle.plain_engine.specs.Turns.{turns_after}
use Rattle.plain_engine.proofs.TurnCounts.{turns_same, turns_more}
use Rattle.plain_engine.specs.Layer.{PlainMoment, LogReady}
use Rattle.plain_engine.proofs.log.write_pending.Goals as goal

pub loop-i-init : goal.loop-i-init
loop-i-init g c = record {
  ready = c.requires.ready;
  moments = begins (PlainMoment c.args.log.now.blocks.items c.args.log.now.settled c.args.log.now.acked) _ (at_each (ready_moment c.args.log.now.blocks.items c.args.log.now.settled c.args.log.now.settled c.args.log.now.acked) c.requires.ready);
  turns = turns_same c.args.turns.now _ c.requires.counted (omega arith);
  faults = omega arith;
  memory_refusals = omega arith;
  later = g.met.D.Disk.is_later_reflexive c.args.disk.now;
}

pub write_block-requires-clause-ready : goal.write_block-requires-clause-ready
write_block-requires-clause-ready g c = c.loop-i.invariant.ready

pub returns-in_err-write_block-clause-step : goal.returns-in_err-write_block-clause-step
returns-in_err-write_block-clause-step g c = ended_by _ _ c.from_residual.ensures.1 (after c.loop-i.invariant.moments c.in_err-write_block.ensures.step)

pub loop-i-preserved : goal.loop-i-preserved
loop-i-preserved g c = record {
  ready = c.in_ok-write_block.ensures.step.next;
  moments = and_then (PlainMoment c.args.log.now.blocks.items c.args.log.now.settled c.args.log.now.acked) _ _ _ c.loop-i.invariant.moments c.in_ok-write_block.ensures.step.moments;
  turns =
      let before : c.loop-i.i - c.args.log.now.settled + 1 ≡ c.loop-i.i + 1 - c.args.log.now.settled = omega (arith, c.loop-i.auto.i-end) in
      c.in_ok-write_block.ensures.turns ∙ ap (λ n. turns_after n 1) c.loop-i.invariant.turns ∙ turns_more c.args.turns.now (c.loop-i.i - c.args.log.now.settled) 1 ∙ ap (turns_after c.args.turns.now) before;
  faults = omega (arith, c.loop-i.invariant.faults, c.in_ok-write_block.ensures.cause.later);
  memory_refusals = omega (arith, c.loop-i.invariant.memory_refusals, c.in_ok-write_block.ensures.memory.later);
  later = g.met.D.Disk.is_later_transitive _ _ _ c.loop-i.invariant.later c.in_ok-write_block.ensures.later;
}

pub returns-clause-step : goal.returns-clause-step
returns-clause-step g c =
    let long : c.len-i-end.result ≡ length c.args.log.now.blocks.items = search rules in
    let order : c.args.log.now.settled ≤ c.len-i-end.result = omega (arith, long) in
    let all : c.loop-i.i ≡ length c.args.log.now.blocks.items = omega (arith, c.loop-i.auto.i-end order, long) in
    finished c.loop-i.invariant.moments (subst (λ n. At (LogReady c.args.log.now.blocks.items c.args.log.now.settled n c.args.log.now.acked) (g.D.Disk.past c.loop-i.disk)) all c.loop-i.invariant.ready)

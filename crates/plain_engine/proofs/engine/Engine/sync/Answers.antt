use Rattle.std.proofs.Common.{◌≡◌, ◌∙◌, length, refl, ap, Err, inl, inr, arith, rules}
use Rattle.disk_model.proofs.Moments.{and_then, at_last, at_each, weaker}
use Rattle.plain_engine.specs.declared.fault.EngineFault.TheVariants.{DiskFault}
use Rattle.plain_engine.specs.Layer.{IsCrashSafe, PlainMoment}
use Rattle.plain_engine.proofs.Events.{ready_moment, moment_safe}
use Rattle.plain_engine.proofs.Keeping.{sound_after, failed_of}
use Rattle.plain_engine.proofs.engine.Engine.sync.Goals as goal

pub write_out-requires-clause-room : goal.write_out-requires-clause-room
write_out-requires-clause-room g c = omega (arith, c.self.invariant.count, c.self.invariant.room)

pub write_out-requires-clause-order : goal.write_out-requires-clause-order
write_out-requires-clause-order g c = omega (arith, c.self.invariant.count, c.self.invariant.order)

pub invariant_of-self : goal.invariant_of-self
invariant_of-self g c =
    let e = c.in-Err.ensures in
    sound_after g.D.Disk.past g.D.Disk.may_fail_to_tell _ c.self.inside.log.blocks.items c.write_out.new.disk c.self.inside.log.settled c.self.inside.log.acked c.write_out.new.turns c.after_fault-state.result.0
    c.self.invariant e.step.moments c.self.invariant.order e.kept (λ up. absurd (c.after_fault-state.ensures.down up)) (λ up. absurd (c.after_fault-state.ensures.down up)) (λ fed. inl (c.self.invariant.all_acked c.in_ok-check_up.ensures.up)) c.self.invariant.told

pub returns-in-Err-clause-stands : goal.returns-in-Err-clause-stands
returns-in-Err-clause-stands g c = (invariant_of-self g c).since

pub tell_acked-requires-clause-order : goal.tell_acked-requires-clause-order
tell_acked-requires-clause-order g c =
    let long : c.len-self-inside.result ≡ length c.self.inside.log.blocks.items = search rules in
    omega (arith, long, c.self.invariant.told, c.self.invariant.order, c.self.invariant.count)

pub invariant_of-self-in-Err-tell_acked : goal.invariant_of-self-in-Err-tell_acked
invariant_of-self-in-Err-tell_acked g c =
    let blocks = c.self.inside.log.blocks.items in
    let n = c.len-self-inside.result in
    let acked = c.self.inside.log.acked in
    let long : n ≡ length blocks = search rules in
    let told = c.in-Err-tell_acked.ensures.step in
    let moments = and_then (IsCrashSafe blocks) _ _ _ c.in_default.ensures.step.moments (weaker (moment_safe blocks n acked) told.moments) in
    sound_after g.D.Disk.past g.D.Disk.may_fail_to_tell _ blocks c.tell_acked.new.disk n acked c.write_out.new.turns c.after_fault-state-in-Err-tell_acked.result.0
    c.self.invariant moments (omega (arith, long, c.self.invariant.count)) (at_last (PlainMoment blocks n acked) _ _ told.moments)
    (λ up. absurd (c.after_fault-state-in-Err-tell_acked.ensures.down up)) (λ up. absurd (c.after_fault-state-in-Err-tell_acked.ensures.down up))
    (λ fed. inr (c.write_out.new.disk, c.in-Err-tell_acked.ensures.tells (failed_of {T = Unit {0}} c.in-Err-tell_acked.e _ c.after_fault-state-in-Err-tell_acked.ensures.refused fed)))
    (omega (arith, long, c.self.invariant.told, c.self.invariant.order, c.self.invariant.count))

pub returns-in-Err-tell_acked-clause-stands : goal.returns-in-Err-tell_acked-clause-stands
returns-in-Err-tell_acked-clause-stands g c = (invariant_of-self-in-Err-tell_acked g c).since

pub invariant_of-self-2 : goal.invariant_of-self-2
invariant_of-self-2 g c =
    let blocks = c.self.inside.log.blocks.items in
    let n = c.len-self-inside.result in
    let long : n ≡ length blocks = search rules in
    let told = c.in_default-tell_acked.ensures.step in
    let moments = and_then (IsCrashSafe blocks) _ _ _ c.in_default.ensures.step.moments (weaker (moment_safe blocks n c.self.inside.log.acked) told.moments) in
    sound_after g.D.Disk.past g.D.Disk.may_fail_to_tell _ blocks c.tell_acked.new.disk n n c.write_out.new.turns c.self.inside.state
    c.self.invariant moments (omega (arith, long, c.self.invariant.count)) (at_each (ready_moment blocks n n n) told.next) (λ up. told.next) (λ up. refl) (λ fed. inl refl) (omega arith)

pub returns-clause-ok : goal.returns-clause-ok
returns-clause-ok g c =
    let long : c.len-self-inside.result ≡ length c.self.inside.log.blocks.items = search rules in
    (omega (arith, long, c.self.invariant.count), refl, refl, c.in_ok-check_up.ensures.up)

pub returns-clause-stands : goal.returns-clause-stands
returns-clause-stands g c = (invariant_of-self-2 g c).since

pub returns-in-Err-clause-exact : goal.returns-in-Err-clause-exact
returns-in-Err-clause-exact g c = (invariant_of-self g c).exact

pub returns-in-Err-tell_acked-clause-exact : goal.returns-in-Err-tell_acked-clause-exact
returns-in-Err-tell_acked-clause-exact g c = (invariant_of-self-in-Err-tell_acked g c).exact

pub returns-clause-exact : goal.returns-clause-exact
returns-clause-exact g c = (invariant_of-self-2 g c).exact

pub returns-in-Err-clause-all_acked : goal.returns-in-Err-clause-all_acked
returns-in-Err-clause-all_acked g c = (invariant_of-self g c).tells

pub returns-in-Err-tell_acked-clause-all_acked : goal.returns-in-Err-tell_acked-clause-all_acked
returns-in-Err-tell_acked-clause-all_acked g c = (invariant_of-self-in-Err-tell_acked g c).tells

pub returns-clause-all_acked : goal.returns-clause-all_acked
returns-clause-all_acked g c = (invariant_of-self-2 g c).tells

pub returns-in-Err-tell_acked-clause-tells : goal.returns-in-Err-tell_acked-clause-tells
returns-in-Err-tell_acked-clause-tells g c = λ turn is.
    let fault : c.after_fault-state-in-Err-tell_acked.result.1 ≡ DiskFault turn = cc in
    let failed = c.after_fault-state-in-Err-tell_acked.ensures.why turn fault in
    inr (c.write_out.new.disk, c.tell_acked.ensures.tells (c.in-Err-tell_acked.is ∙ ap (λ e. Err e) failed))

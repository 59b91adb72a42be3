use Rattle.std.proofs.Common.{refl, ◌∷◌, arith, subst, sym}
use Rattle.disk_model.specs.Event.{Event, Tell}
use Rattle.disk_model.specs.Past.{Is}
use Rattle.disk_model.specs.declared.names.Mark.TheVariants.{Acked}
use Rattle.disk_model.proofs.Moments.{one_call}
use Rattle.plain_engine.proofs.Events.{ready_tell, ready_moment, less_told}
use Rattle.plain_engine.specs.Layer.{PlainMoment}
use Rattle.plain_engine.proofs.log.tell_acked.Goals as goal

pub returns-clause-step : goal.returns-clause-step
returns-clause-step g c =
    let blocks = c.args.log.now.blocks.items in
    let n = c.args.log.now.settled in
    let acked = c.args.log.now.acked in
    let told = ready_tell blocks n n acked n (omega arith) in
    one_call (Is (Tell (Acked n))) (Tell (Acked n)) c.requires.ready (ready_moment blocks n n acked)
    (λ d is es r. subst (λ (e : Event). PlainMoment blocks n acked (e ∷ es)) (sym is) (less_told blocks n acked n c.requires.order (Tell (Acked n) ∷ es) (ready_moment blocks n n n (Tell (Acked n) ∷ es) (told es r))))
    refl told c.tell.ensures.ok c.tell.ensures.err

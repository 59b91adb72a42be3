use Rattle.std.proofs.Common.{refl, [], ◌∷◌, subst, sym}
use Rattle.disk_model.specs.Event.{Event, Tell}
use Rattle.disk_model.specs.Past.{Is}
use Rattle.disk_model.specs.declared.names.Mark.TheVariants.{Started}
use Rattle.disk_model.proofs.Moments.{one_call}
use Rattle.plain_engine.proofs.Events.{ready_start, ready_safe}
use Rattle.plain_engine.specs.Layer.{IsCrashSafe}
use Rattle.plain_engine.proofs.log.tell_started.Goals as goal

pub returns-clause-step : goal.returns-clause-step
returns-clause-step g c =
    one_call (Is (Tell Started)) (Tell Started) c.requires (ready_safe [] 0 0 0)
    (λ d is es r. subst (λ (e : Event). IsCrashSafe [] (e ∷ es)) (sym is) (ready_safe [] 0 0 0 (Tell Started ∷ es) (ready_start [] 0 0 es r))) refl (ready_start [] 0 0) c.tell.ensures.ok c.tell.ensures.err

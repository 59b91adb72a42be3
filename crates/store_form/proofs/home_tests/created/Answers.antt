use Rattle.std.proofs.Common.{◌∙◌, List, ap, map}
use Rattle.store_files.specs.Header.{HeldHeader}
use Rattle.store_form.specs.Plan.{held_plan, in_id_order}
use Rattle.store_form.specs.declared.plan.SpacePlan.{SpacePlan}
use Rattle.store_form.proofs.home_tests.created.Goals as goal

pub returns-in-Ok : goal.returns-in-Ok
returns-in-Ok g c = ap (λ (h : HeldHeader). h.spaces) c.in-Ok.ensures.made.header ∙ ap (λ (plans : List SpacePlan). map held_plan (in_id_order plans)) c.in_ok-plan.ensures.spaces

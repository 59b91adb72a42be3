use Rattle.std.proofs.Common.{◌≡◌, ◌∙◌, List, sym, subst, arith}
use Rattle.disk_model.proofs.Moments.{at_each, at_is}
use Rattle.rand_core.specs.Stream.{Stream}
use Rattle.space_head.specs.declared.space.SpaceInfo.{SpaceInfo}
use Rattle.store_form.specs.Created.{HasNoFile}
use Rattle.store_form.specs.Plan.{spaces_made}
use Rattle.store_form.proofs.PlanLaws.{has_no_file, no_salt}
use Rattle.store_form.proofs.store_made.make_store.Goals as goal

pub write_store-requires-clause-absent : goal.write_store-requires-clause-absent
write_store-requires-clause-absent g c =
    let plan = c.args.plan.now in
    let stream : Stream = g.R.Rng.stream c.args.rng.now in
    let slice : c.as_slice-2.result.now ≡ spaces_made plan stream = c.as_slice-2.ensures ∙ c.in-Ok-draw_store.ensures.spaces in
    at_is c.find_plans.ensures.same (at_each (λ es none. subst (λ (l : List SpaceInfo). HasNoFile l es) (sym slice) (has_no_file plan stream es none)) c.in-Ok.ensures.none)

pub returns-in-Err-clause-left : goal.returns-in-Err-clause-left
returns-in-Err-clause-left g c = record { salts = 0; few = omega arith; left = no_salt (g.R.Rng.stream c.args.rng.now) }

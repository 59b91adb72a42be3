use Rattle.std.proofs.Common.{◌≡◌, ◌∙◌, length, ap, arith}
use Rattle.store_form.proofs.PlanLaws.{length-ordered}
use Rattle.store_form.proofs.store_made.find_plans.Goals as goal

pub returns-in-Err-clause-calls : goal.returns-in-Err-clause-calls
returns-in-Err-clause-calls g c =
    let size : length c.as_slice.result.now ≡ length c.args.plan.now.spaces = ap length (c.as_slice.ensures.value ∙ c.in-Ok.ensures) ∙ length-ordered c.args.plan.now.spaces in
    omega (arith, c.check_files.ensures.calls, size)

pub returns-in-Ok-check_keys-clause-calls : goal.returns-in-Ok-check_keys-clause-calls
returns-in-Ok-check_keys-clause-calls g c =
    let size : length c.as_slice.result.now ≡ length c.args.plan.now.spaces = ap length (c.as_slice.ensures.value ∙ c.in-Ok.ensures) ∙ length-ordered c.args.plan.now.spaces in
    omega (arith, c.check_files.ensures.calls, size)

pub returns-in-Err-check_keys-clause-calls : goal.returns-in-Err-check_keys-clause-calls
returns-in-Err-check_keys-clause-calls g c =
    let size : length c.as_slice.result.now ≡ length c.args.plan.now.spaces = ap length (c.as_slice.ensures.value ∙ c.in-Ok.ensures) ∙ length-ordered c.args.plan.now.spaces in
    omega (arith, c.check_files.ensures.calls, size)

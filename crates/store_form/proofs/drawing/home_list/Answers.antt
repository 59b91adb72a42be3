use Rattle.std.proofs.Common.{◌≡◌, ◌∙◌, ◌-◌, ◌≤◌, ℕ, List, [], ◌∷◌, ◌++◌, replicate, ap, arith}
use Rattle.space_head.specs.declared.space.Home.{Home}
use Rattle.space_head.specs.declared.space.Home.TheVariants.{Unused, Clean}
use Rattle.store_form.proofs.PlanLaws.{homes_more}
use Rattle.store_form.proofs.drawing.home_list.Goals as goal

pub loop-i-preserved : goal.loop-i-preserved
loop-i-preserved c =
    let some : 1 ≤ c.loop-i.i = omega (arith, c.loop-i.auto.i) in
    (c.in_ok-push-2.ensures.items ∙ ap (λ (l : List Home). l ++ Unused ∷ []) c.loop-i.invariant.0 ∙ homes_more c.loop-i.i some, omega (arith, c.loop-i-test.true))

pub returns : goal.returns
returns c =
    let e : c.loop-i.i - 1 ≡ c.args.pages - 1 = omega (arith, c.loop-i-test.false, c.loop-i.auto.i, c.loop-i.invariant.1) in
    c.of.ensures ∙ c.loop-i.invariant.0 ∙ ap (λ (n : ℕ). Clean 0 ∷ replicate n Unused) e

use Rattle.std.proofs.Common.{◌≡◌, ◌∙◌, ℕ, ◌≤◌, List, [], length, drop, Option, sym, ap, subst, arith}
use Rattle.std.specs.Prelude.{MatchOption}
use Rattle.std.proofs.lemmas.List.{drop_all}
use Rattle.store_form.specs.Plan.{HasNeededKeys, IsLeastMissing}
use Rattle.store_form.specs.declared.plan.SpacePlan.{SpacePlan}
use Rattle.store_form.proofs.KeyChecks.{least_missing, missing_after}
use Rattle.store_form.proofs.checks.missing_key.Goals as goal

pub returns : goal.returns
returns c =
    let keys = c.args.ring.now in
    let active = c.args.active in
    let ps = c.args.plans.now in
    let past : length ps ≤ c.loop-i.i = omega (arith, c.loop-i-test.false) in
    let none : drop c.loop-i.i ps ≡ [] = drop_all c.loop-i.i ps past in
    let end = ap (λ (l : List SpacePlan). missing_after keys active c.loop-i.least l) (sym none) ∙ c.loop-i.invariant in
    subst (λ (r : Option ℕ). MatchOption r (HasNeededKeys keys active ps) (IsLeastMissing keys active ps)) (sym end) (least_missing keys active ps)

use Rattle.std.proofs.Common.{◌≡◌, ◌∙◌, ℕ, ◌≤◌, List, [], length, drop, map, Option, sym, ap, subst, arith}
use Rattle.std.specs.Prelude.{MatchOption}
use Rattle.std.proofs.lemmas.List.{drop_all}
use Rattle.space_head.specs.declared.space.SpaceInfo.{SpaceInfo}
use Rattle.store_form.specs.Plan.{HasNeededKeys, IsLeastMissing}
use Rattle.store_form.specs.declared.plan.SpacePlan.{SpacePlan}
use Rattle.store_form.proofs.KeyChecks.{least_missing, missing_after}
use Rattle.session_core.specs.Keys.{planned}
use Rattle.session_core.proofs.missing.first_lacking.Goals as goal

pub returns-clause-lacking : goal.returns-clause-lacking
returns-clause-lacking c =
    let keys = c.args.ring.now in
    let version = c.args.version in
    let ps = map planned c.args.spaces.now in
    let past : length c.args.spaces.now ≤ c.loop-info.info-index = omega arith in
    let none : drop c.loop-info.info-index c.args.spaces.now ≡ [] = drop_all c.loop-info.info-index c.args.spaces.now past in
    let end = ap (λ (l : List SpaceInfo). missing_after keys version c.loop-info.least (map planned l)) (sym none) ∙ c.loop-info.invariant in
    subst (λ (r : Option ℕ). MatchOption r (HasNeededKeys keys version ps) (IsLeastMissing keys version ps)) (sym end) (least_missing keys version ps)

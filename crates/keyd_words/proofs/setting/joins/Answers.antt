use Rattle.std.proofs.Common.{rules, ◌≡◌, ◌≤◌, ◌∙◌, sym, arith, Some, None, subst, ◌+◌, ◌-◌}
use Rattle.std.proofs.lemmas.Bool.Decides.{nat_tests}
use Rattle.keyd_words.specs.declared.text.NewSpace.{NewSpace}
use Rattle.keyd_words.specs.Settings.{space_in_value, pages_of_spaces, IsFree}
use Rattle.keyd_words.specs.Values.{pages_allowed}
use Rattle.keyd_words.proofs.AllowedLemmas.{joins_by, joins_space}
use Rattle.keyd_words.proofs.setting.joins.Goals as goal

pub returns-in_default : goal.returns-in_default
returns-in_default c = (
  (λ e. joins_by c.args.spaces.now c.args.value.now (λ x is. let both : None ≡ Some x = sym c.in_default.is ∙ c.space_in.ensures ∙ is in cc both)),
  (λ joins. search rules),
)

pub returns-then-is_free : goal.returns-then-is_free
returns-then-is_free c =
    let space = c.in-Some.space in
    let spaces = c.args.spaces.now in
    let found : space_in_value c.args.value.now ≡ Some space = sym c.space_in.ensures ∙ c.in-Some.is in
    let free : IsFree space.space spaces = c.is_free.ensures.0 (search (rules, c.if-is_free.true)) in (
      (λ small. let low : space.pages ≤ 16384 - c.pages_of.result = grind (arith, nat_tests, small) in
          joins_by spaces c.args.value.now
          (λ x is. let same : space ≡ x = let both : Some space ≡ Some x = sym found ∙ is in cc both in
          subst (λ (y : NewSpace). IsFree y.space spaces × (pages_of_spaces spaces + y.pages ≤ pages_allowed)) same (free, omega (arith, low, c.pages_of.ensures, c.requires)))),
      (λ joins. let fit = (joins_space spaces c.args.value.now space joins found).1 in
          let low : space.pages ≤ 16384 - c.pages_of.result = omega (arith, fit, c.pages_of.ensures) in grind (arith, nat_tests, low)),
    )

pub returns-else-is_free : goal.returns-else-is_free
returns-else-is_free c =
    let space = c.in-Some.space in
    let spaces = c.args.spaces.now in
    let found : space_in_value c.args.value.now ≡ Some space = sym c.space_in.ensures ∙ c.in-Some.is in
    ((λ e. absurd (search (rules, c.if-is_free.false, e))), (λ joins. c.is_free.ensures.1 (joins_space spaces c.args.value.now space joins found).0))

use Rattle.std.proofs.Common.{false, refl, arith, length}
use Rattle.std.proofs.lemmas.List.{drop_more}
use Rattle.recovery.specs.Heads.{IsRight, IsWrong}
use Rattle.recovery.specs.declared.heads.HeadField.{HeadField}
use Rattle.recovery.specs.declared.heads.Width.TheVariants.{One}
use Rattle.recovery.proofs.WalkSteps.{first_at}
use Rattle.recovery.proofs.heads.first_wrong.Goals as goal

pub returns-then-not-is_right-clause-some : goal.returns-then-not-is_right-clause-some
returns-then-not-is_right-clause-some c =
    let xs = c.args.fields.now in
    let i = c.loop-field.field-index in
    first_at (λ (f : HeadField). IsRight f c.args.text.now) (IsWrong _ c.args.text.now) xs i _ _ c.loop-field.invariant (drop_more xs i (record { at = 0; width = One; wanted = 0; is_most = false }) (omega (arith, c.loop-field-test.true)))
    (record { is = refl; wrong = c.is_right.ensures.no c.if-not-is_right.true })

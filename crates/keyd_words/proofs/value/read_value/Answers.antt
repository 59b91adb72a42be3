use Rattle.std.proofs.Common.{rules, ◌≡◌, sym, subst, ap, inl, inr, [], ◌∷◌, Some, None, Option, refl}
use Rattle.std.specs.Borrow.{Bor}
use Rattle.std.specs.Result.{IsErrAnd}
use Rattle.cause_core.proofs.Causes.{handed}
use Rattle.keyd_words.specs.declared.fault.SettingFault.{SettingFault}
use Rattle.keyd_words.specs.declared.table.ValueForm.{ValueForm}
use Rattle.keyd_words.specs.declared.value.OptionValue.{OptionValue}
use Rattle.keyd_words.specs.Table.{Argument}
use Rattle.keyd_words.specs.Values.{value_words, IsSetTo, AreWordsOf, ForMisfit}
use Rattle.keyd_words.proofs.ValueLemmas.{misfit_value, missing_value}
use Rattle.keyd_words.proofs.value.read_value.Goals as goal

pub returns-in_default-clause-ok : goal.returns-in_default-clause-ok
unfolding IsSetTo value_words
returns-in_default-clause-ok c = (inl refl, subst (λ f. IsSetTo f None) (sym c.in_default.is) tt)

pub returns-in_default-word-clause-err : goal.returns-in_default-word-clause-err
returns-in_default-word-clause-err c v are set =
    missing_value c.in-Some.form v (subst (λ w. AreWordsOf w v) c.in_default-word.is are) (subst (λ f. IsSetTo f v) c.in-Some.is set)

refuses : Option (Bor Argument) → Option ValueForm → SettingFault → Type 0
refuses w f e = ForMisfit e ((v : Option OptionValue) → AreWordsOf w v → IsSetTo f v → ⊥)

pub returns-in_err-value_of-clause-err : goal.returns-in_err-value_of-clause-err
unfolding refuses
returns-in_err-value_of-clause-err c =
    let fault = c.in_err-value_of.field-0.0 in
    let same : IsErrAnd c.from_residual.result (λ e. e ≡ fault) = search rules in
    let is : refuses (Some c.in-Some-word.word) (Some c.in-Some.form) fault = misfit_value fault c.in-Some.form c.in-Some-word.word c.in_err-value_of.ensures.err in
    let there : refuses c.args.word c.args.form fault = subst (λ f. refuses c.args.word f fault) (sym c.in-Some.is) (subst (λ w. refuses w (Some c.in-Some.form) fault) (sym c.in-Some-word.is) is) in
    handed (refuses c.args.word c.args.form) c.from_residual.result fault same there

pub returns-clause-ok : goal.returns-clause-ok
unfolding IsSetTo value_words
returns-clause-ok c =
    let v = c.in_ok-value_of.field-0 in (
      subst (λ w. AreWordsOf w (Some v)) (sym c.in-Some-word.is) (inr (ap (λ w. w ∷ []) (sym c.in_ok-value_of.ensures.ok.0))),
      subst (λ f. IsSetTo f (Some v)) (sym c.in-Some.is) c.in_ok-value_of.ensures.ok.1,
    )

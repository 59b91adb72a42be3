use Rattle.std.proofs.Common.{◌≡◌, sym, ◌∙◌, subst, List, map}
use Rattle.disk_model.specs.declared.calls.Choice.{Choice}
use Rattle.keyd_words.specs.declared.value.OptionValue.{OptionValue}
use Rattle.keyd_words.specs.declared.value.OptionValue.TheVariants as value
use Rattle.keyd_words.specs.Values.{WritesNumber, value_word, AreChoices, IsValueOf, ForMisfit, choice_letter}
use Rattle.keyd_words.proofs.ValueLemmas.{no_number, no_digest, no_algorithm, no_space, misfit_first_choices, misfit_second_choices}
use Rattle.keyd_words.proofs.value.value_of.Goals as goal

pub returns-in_ok-of-in-FileName-clause-ok : goal.returns-in_ok-of-in-FileName-clause-ok
unfolding value_word IsValueOf
returns-in_ok-of-in-FileName-clause-ok c = (sym c.in_ok-of-in-FileName.ensures, subst (λ f. IsValueOf f (value.FileName c.in_ok-of-in-FileName.field-0)) (sym c.in-FileName.is) tt)

pub returns-in_ok-of-in-FileKey-clause-ok : goal.returns-in_ok-of-in-FileKey-clause-ok
unfolding value_word IsValueOf
returns-in_ok-of-in-FileKey-clause-ok c = (sym c.in_ok-of-in-FileKey.ensures, subst (λ f. IsValueOf f (value.FileKey c.in_ok-of-in-FileKey.field-0)) (sym c.in-FileKey.is) tt)

pub returns-in-Some-clause-ok : goal.returns-in-Some-clause-ok
unfolding value_word IsValueOf
returns-in-Some-clause-ok c = (sym c.as_bytes.ensures.value ∙ c.in-Some.ensures.spelled, subst (λ f. IsValueOf f (value.Number c.in-Some.number)) (sym c.in-Number.is) (c.in-Some.ensures.from, c.in-Some.ensures.to))

pub returns-in-None-clause-err : goal.returns-in-None-clause-err
returns-in-None-clause-err c =
    let unread = subst (λ w. (n : _) → WritesNumber w c.in-Number.low c.in-Number.high n → ⊥) c.as_bytes.ensures.value c.in-None.ensures in
    subst (λ f. (v : OptionValue) → c.args.word.now ≡ value_word v → IsValueOf f v → ⊥) (sym c.in-Number.is) (no_number c.args.word.now c.in-Number.low c.in-Number.high unread)

pub returns-in-Some-digest_of-clause-ok : goal.returns-in-Some-digest_of-clause-ok
unfolding value_word IsValueOf
returns-in-Some-digest_of-clause-ok c = (c.in-Some-digest_of.ensures, subst (λ f. IsValueOf f (value.Digest c.in-Some-digest_of.digest)) (sym c.in-Digest.is) tt)

pub returns-in-None-digest_of-clause-err : goal.returns-in-None-digest_of-clause-err
returns-in-None-digest_of-clause-err c = subst (λ f. (v : OptionValue) → c.args.word.now ≡ value_word v → IsValueOf f v → ⊥) (sym c.in-Digest.is) (no_digest c.args.word.now c.in-None-digest_of.ensures)

pub returns-in-Some-algorithm_of-clause-ok : goal.returns-in-Some-algorithm_of-clause-ok
unfolding value_word IsValueOf
returns-in-Some-algorithm_of-clause-ok c = (c.in-Some-algorithm_of.ensures, subst (λ f. IsValueOf f (value.Algorithm c.in-Some-algorithm_of.algorithm)) (sym c.in-Algorithm.is) tt)

pub returns-in-None-algorithm_of-clause-err : goal.returns-in-None-algorithm_of-clause-err
returns-in-None-algorithm_of-clause-err c = subst (λ f. (v : OptionValue) → c.args.word.now ≡ value_word v → IsValueOf f v → ⊥) (sym c.in-Algorithm.is) (no_algorithm c.args.word.now c.in-None-algorithm_of.ensures)

pub returns-in-Some-space_of-clause-ok : goal.returns-in-Some-space_of-clause-ok
unfolding value_word IsValueOf
returns-in-Some-space_of-clause-ok c = (c.in-Some-space_of.ensures.0, subst (λ f. IsValueOf f (value.Space c.in-Some-space_of.space)) (sym c.in-Space.is) c.in-Some-space_of.ensures.1)

pub returns-in-None-space_of-clause-err : goal.returns-in-None-space_of-clause-err
returns-in-None-space_of-clause-err c = subst (λ f. (v : OptionValue) → c.args.word.now ≡ value_word v → IsValueOf f v → ⊥) (sym c.in-Space.is) (no_space c.args.word.now c.in-None-space_of.ensures)

pub returns-in-Ok-clause-ok : goal.returns-in-Ok-clause-ok
unfolding value_word IsValueOf
returns-in-Ok-clause-ok c = (sym c.as_bytes-in-FirstChoices.ensures.value ∙ c.in-Ok.ensures.ok.0, subst (λ f. IsValueOf f (value.FirstChoices c.in-Ok.choices)) (sym c.in-FirstChoices.is) c.in-Ok.ensures.ok.1)

pub returns-in-Err-clause-err : goal.returns-in-Err-clause-err
returns-in-Err-clause-err c =
    let unread = subst (λ w. ForMisfit c.in-Err.fault ((cs : List Choice) → w ≡ map choice_letter cs → AreChoices cs → ⊥)) c.as_bytes-in-FirstChoices.ensures.value c.in-Err.ensures.err in
    subst (λ f. ForMisfit c.in-Err.fault ((v : OptionValue) → c.args.word.now ≡ value_word v → IsValueOf f v → ⊥)) (sym c.in-FirstChoices.is) (misfit_first_choices c.in-Err.fault c.args.word.now unread)

pub returns-in-Ok-choices_of-clause-ok : goal.returns-in-Ok-choices_of-clause-ok
unfolding value_word IsValueOf
returns-in-Ok-choices_of-clause-ok c = (sym c.as_bytes-in-SecondChoices.ensures.value ∙ c.in-Ok-choices_of.ensures.ok.0, subst (λ f. IsValueOf f (value.SecondChoices c.in-Ok-choices_of.choices)) (sym c.in-SecondChoices.is) c.in-Ok-choices_of.ensures.ok.1)

pub returns-in-Err-choices_of-clause-err : goal.returns-in-Err-choices_of-clause-err
returns-in-Err-choices_of-clause-err c =
    let unread = subst (λ w. ForMisfit c.in-Err-choices_of.fault ((cs : List Choice) → w ≡ map choice_letter cs → AreChoices cs → ⊥)) c.as_bytes-in-SecondChoices.ensures.value c.in-Err-choices_of.ensures.err in
    subst (λ f. ForMisfit c.in-Err-choices_of.fault ((v : OptionValue) → c.args.word.now ≡ value_word v → IsValueOf f v → ⊥)) (sym c.in-SecondChoices.is) (misfit_second_choices c.in-Err-choices_of.fault c.args.word.now unread)

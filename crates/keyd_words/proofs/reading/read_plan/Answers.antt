use Rattle.std.proofs.Common.{rules, ◌≡◌, map, string_bytes, Contains, ◌∙◌, subst}
use Rattle.std.specs.Result.{IsErrAnd}
use Rattle.cause_core.proofs.Causes.{handed}
use Rattle.keyd_words.specs.declared.command.Command.TheVariants as command
use Rattle.keyd_words.specs.Plans.{key_plan, create_plan, step_plan, run_plan, drill_plan}
use Rattle.keyd_words.specs.Words.{IsListFor, Says, IsValid, StartsWith, IsWordsFault}
use Rattle.keyd_words.proofs.PlanLemmas.{told_keys, told_store, told_step, told_run, told_drill}
use Rattle.keyd_words.proofs.PlanWords.{words_fault, asked}
use Rattle.keyd_words.proofs.reading.read_plan.Goals as goal

pub returns-in_err-draft-in-Create-clause-err : goal.returns-in_err-draft-in-Create-clause-err
returns-in_err-draft-in-Create-clause-err c built known =
    let words = map string_bytes c.args.words.now in
    let f = c.in_err-draft-in-Create.field-0.0 in
    let same : IsErrAnd c.from_residual.result (λ e. e ≡ f) = search rules in
    let is = subst (λ d. IsWordsFault (IsListFor d) words f) c.in-Create.is c.in_err-draft-in-Create.ensures.err in
    handed (IsWordsFault (IsValid built) words) c.from_residual.result f same
    (words_fault built command.Create words f (subst (Contains built) c.in-Create.is known) (subst (λ d. StartsWith d words) c.in-Create.is c.requires) is)

pub returns-in_ok-draft-in-Create-clause-ok : goal.returns-in_ok-draft-in-Create-clause-ok
unfolding Says
returns-in_ok-draft-in-Create-clause-ok c built known =
    let draft = c.in_ok-draft-in-Create.draft in
    asked built c.args.command command.Create (map string_bytes c.args.words.now) draft create_plan c.store.result c.in-Create.is known c.in_ok-draft-in-Create.ensures.ok (λ ss tells. c.store.ensures ∙ told_store draft ss tells)

pub returns-in_err-draft-in-Step-clause-err : goal.returns-in_err-draft-in-Step-clause-err
returns-in_err-draft-in-Step-clause-err c built known =
    let words = map string_bytes c.args.words.now in
    let f = c.in_err-draft-in-Step.field-0.0 in
    let same : IsErrAnd c.from_residual-in_err-draft-in-Step.result (λ e. e ≡ f) = search rules in
    let is = subst (λ d. IsWordsFault (IsListFor d) words f) c.in-Step.is c.in_err-draft-in-Step.ensures.err in
    handed (IsWordsFault (IsValid built) words) c.from_residual-in_err-draft-in-Step.result f same
    (words_fault built command.Step words f (subst (Contains built) c.in-Step.is known) (subst (λ d. StartsWith d words) c.in-Step.is c.requires) is)

pub returns-in_ok-draft-in-Step-clause-ok : goal.returns-in_ok-draft-in-Step-clause-ok
unfolding Says
returns-in_ok-draft-in-Step-clause-ok c built known =
    let draft = c.in_ok-draft-in-Step.draft in
    asked built c.args.command command.Step (map string_bytes c.args.words.now) draft step_plan c.step.result c.in-Step.is known c.in_ok-draft-in-Step.ensures.ok (λ ss tells. c.step.ensures ∙ told_step draft ss tells)

pub returns-in_err-draft-in-Run-clause-err : goal.returns-in_err-draft-in-Run-clause-err
returns-in_err-draft-in-Run-clause-err c built known =
    let words = map string_bytes c.args.words.now in
    let f = c.in_err-draft-in-Run.field-0.0 in
    let same : IsErrAnd c.from_residual-in_err-draft-in-Run.result (λ e. e ≡ f) = search rules in
    let is = subst (λ d. IsWordsFault (IsListFor d) words f) c.in-Run.is c.in_err-draft-in-Run.ensures.err in
    handed (IsWordsFault (IsValid built) words) c.from_residual-in_err-draft-in-Run.result f same
    (words_fault built command.Run words f (subst (Contains built) c.in-Run.is known) (subst (λ d. StartsWith d words) c.in-Run.is c.requires) is)

pub returns-in_ok-draft-in-Run-clause-ok : goal.returns-in_ok-draft-in-Run-clause-ok
unfolding Says
returns-in_ok-draft-in-Run-clause-ok c built known =
    let draft = c.in_ok-draft-in-Run.draft in
    asked built c.args.command command.Run (map string_bytes c.args.words.now) draft run_plan c.run.result c.in-Run.is known c.in_ok-draft-in-Run.ensures.ok (λ ss tells. c.run.ensures ∙ told_run draft ss tells)

pub returns-in_err-draft-in-Drill-clause-err : goal.returns-in_err-draft-in-Drill-clause-err
returns-in_err-draft-in-Drill-clause-err c built known =
    let words = map string_bytes c.args.words.now in
    let f = c.in_err-draft-in-Drill.field-0.0 in
    let same : IsErrAnd c.from_residual-in_err-draft-in-Drill.result (λ e. e ≡ f) = search rules in
    let is = subst (λ d. IsWordsFault (IsListFor d) words f) c.in-Drill.is c.in_err-draft-in-Drill.ensures.err in
    handed (IsWordsFault (IsValid built) words) c.from_residual-in_err-draft-in-Drill.result f same
    (words_fault built command.Drill words f (subst (Contains built) c.in-Drill.is known) (subst (λ d. StartsWith d words) c.in-Drill.is c.requires) is)

pub returns-in_ok-drill-in-Drill-clause-ok : goal.returns-in_ok-drill-in-Drill-clause-ok
unfolding Says
returns-in_ok-drill-in-Drill-clause-ok c built known =
    let draft = c.in_ok-draft-in-Drill.draft in
    asked built c.args.command command.Drill (map string_bytes c.args.words.now) draft drill_plan c.in_ok-drill-in-Drill.field-0 c.in-Drill.is known c.in_ok-draft-in-Drill.ensures.ok (λ ss tells. c.in_ok-drill-in-Drill.ensures ∙ told_drill draft ss tells)

pub returns-in_err-draft-in-Recover-clause-err : goal.returns-in_err-draft-in-Recover-clause-err
returns-in_err-draft-in-Recover-clause-err c built known =
    let words = map string_bytes c.args.words.now in
    let f = c.in_err-draft-in-Recover.field-0.0 in
    let same : IsErrAnd c.from_residual-in_err-draft-in-Recover.result (λ e. e ≡ f) = search rules in
    let is = subst (λ d. IsWordsFault (IsListFor d) words f) c.in-Recover.is c.in_err-draft-in-Recover.ensures.err in
    handed (IsWordsFault (IsValid built) words) c.from_residual-in_err-draft-in-Recover.result f same
    (words_fault built command.Recover words f (subst (Contains built) c.in-Recover.is known) (subst (λ d. StartsWith d words) c.in-Recover.is c.requires) is)

pub returns-in_ok-draft-in-Recover-clause-ok : goal.returns-in_ok-draft-in-Recover-clause-ok
unfolding Says
returns-in_ok-draft-in-Recover-clause-ok c built known =
    let draft = c.in_ok-draft-in-Recover.draft in
    asked built c.args.command command.Recover (map string_bytes c.args.words.now) draft key_plan c.keys.result c.in-Recover.is known c.in_ok-draft-in-Recover.ensures.ok (λ ss tells. c.keys.ensures ∙ told_keys draft ss tells)

pub returns-in_err-draft-in-Report-clause-err : goal.returns-in_err-draft-in-Report-clause-err
returns-in_err-draft-in-Report-clause-err c built known =
    let words = map string_bytes c.args.words.now in
    let f = c.in_err-draft-in-Report.field-0.0 in
    let same : IsErrAnd c.from_residual-in_err-draft-in-Report.result (λ e. e ≡ f) = search rules in
    let is = subst (λ d. IsWordsFault (IsListFor d) words f) c.in-Report.is c.in_err-draft-in-Report.ensures.err in
    handed (IsWordsFault (IsValid built) words) c.from_residual-in_err-draft-in-Report.result f same
    (words_fault built command.Report words f (subst (Contains built) c.in-Report.is known) (subst (λ d. StartsWith d words) c.in-Report.is c.requires) is)

pub returns-in_ok-draft-in-Report-clause-ok : goal.returns-in_ok-draft-in-Report-clause-ok
unfolding Says
returns-in_ok-draft-in-Report-clause-ok c built known =
    let draft = c.in_ok-draft-in-Report.draft in
    asked built c.args.command command.Report (map string_bytes c.args.words.now) draft key_plan c.keys-in-Report.result c.in-Report.is known c.in_ok-draft-in-Report.ensures.ok (λ ss tells. c.keys-in-Report.ensures ∙ told_keys draft ss tells)

pub returns-in_err-read_make-in-Make-clause-err : goal.returns-in_err-read_make-in-Make-clause-err
returns-in_err-read_make-in-Make-clause-err c built known =
    let words = map string_bytes c.args.words.now in
    let f = c.in_err-read_make-in-Make.field-0.0 in
    let same : IsErrAnd c.from_residual-in_err-read_make-in-Make.result (λ e. e ≡ f) = search rules in
    handed (IsWordsFault (IsValid built) words) c.from_residual-in_err-read_make-in-Make.result f same
    (words_fault built command.Make words f (subst (Contains built) c.in-Make.is known) (subst (λ d. StartsWith d words) c.in-Make.is c.requires) c.in_err-read_make-in-Make.ensures.err)

pub returns-in_ok-read_make-in-Make-clause-ok : goal.returns-in_ok-read_make-in-Make-clause-ok
unfolding Says
returns-in_ok-read_make-in-Make-clause-ok c built known = (subst (Contains built) c.in-Make.is known, c.in_ok-read_make-in-Make.ensures.ok)

use Rattle.std.proofs.Common.{◌≡◌, ◌∙◌, List, None, refl, rules, subst, sym}
use Rattle.std.specs.Prelude.{IsErrAnd}
use Rattle.cause_core.proofs.Causes.{handed}
use Rattle.redo_text.specs.declared.change.Change.{Change}
use Rattle.session_core.specs.Committing.{IsUnfit, Stopped, Unfit, first_bad_range, first_missing_page}
use Rattle.session_core.specs.Session.{Running}
use Rattle.session_core.proofs.EnterLaws.{not_committed}
use Rattle.session_core.proofs.session.SessionCore.commit.Goals as goal

pub returns-in_err-check-clause-refused : goal.returns-in_err-check-clause-refused
returns-in_err-check-clause-refused g c =
    let is : IsErrAnd c.from_residual.result (λ e. e ≡ c.in_err-check.field-0.0) = search rules in
    handed _ c.from_residual.result c.in_err-check.field-0.0 is (Stopped _ (sym c.check.ensures.value ∙ c.in_err-check.was) refl)

pub returns-in_err-check_changes-clause-refused : goal.returns-in_err-check_changes-clause-refused
returns-in_err-check_changes-clause-refused g c =
    let is : IsErrAnd c.from_residual-in_err-check_changes.result (λ e. e ≡ c.in_err-check_changes.field-0.0) = search rules in
    let refused =
    subst (λ (r : Running _). IsUnfit r.store.spaces c.args.mtr c.in_err-check_changes.field-0.0) c.self.view_is
    (subst (λ (l : List Change). IsUnfit c.self.inside.store.spaces l c.in_err-check_changes.field-0.0) c.changes.ensures c.in_err-check_changes.ensures.refused) in
    handed _ c.from_residual-in_err-check_changes.result c.in_err-check_changes.field-0.0 is (Unfit c.in_err-check_changes.field-0.0 c.in_ok-check.ensures.up refused refl)

pub returns-clause-refused : goal.returns-clause-refused
returns-clause-refused g c =
    let there =
    subst (λ (r : Running _). first_missing_page r.store.spaces c.args.mtr ≡ None) c.self.view_is
    (subst (λ (l : List Change). first_missing_page c.self.inside.store.spaces l ≡ None) c.changes.ensures c.in_ok-check_changes.ensures.pages) in
    let ranged = subst (λ (l : List Change). first_bad_range l ≡ None) c.changes.ensures c.in_ok-check_changes.ensures.ranges in
    not_committed g.D.Disk.past c.args.mtr c.args.self.now c.enter.new.self c.enter.result c.in_ok-check.ensures.up there ranged c.enter.ensures.refused

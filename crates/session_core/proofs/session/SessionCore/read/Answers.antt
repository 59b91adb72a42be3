use Rattle.std.proofs.Common.{◌≡◌, ◌∙◌, false, Option, None, refl, sym, subst, length, rules}
use Rattle.std.specs.Prelude.{IfNone, IsErrAnd}
use Rattle.cause_core.proofs.Causes.{handed}
use Rattle.redo_text.specs.Text.{IsRange}
use Rattle.session_core.specs.Reading.{IsReadRefusal, Missing, Stopped, Unfit, Unread}
use Rattle.session_core.specs.Spaces.{is_page}
use Rattle.session_core.specs.declared.fault.EngineFault.{EngineFault}
use Rattle.session_core.specs.declared.fault.EngineFault.TheVariants.{BadRange}
use Rattle.session_core.proofs.session.SessionCore.read.Goals as goal

pub returns-in_err-check-clause-refused : goal.returns-in_err-check-clause-refused
returns-in_err-check-clause-refused g c =
    let is : IsErrAnd c.from_residual.result (λ e. e ≡ c.in_err-check.field-0.0) = search rules in
    handed _ c.from_residual.result c.in_err-check.field-0.0 is (Stopped _ (sym c.check.ensures.value ∙ c.in_err-check.was) refl)

pub returns-in_default-clause-refused : goal.returns-in_default-clause-refused
returns-in_default-clause-refused g c =
    Missing c.in_ok-check.ensures.up (subst (λ o. IfNone o (is_page c.args.self.now.store.spaces c.args.space c.args.page ≡ false)) c.in_default.is c.page_info.ensures.none) refl

pub returns-in_err-check_range-clause-refused : goal.returns-in_err-check_range-clause-refused
returns-in_err-check_range-clause-refused g c =
    let is : IsErrAnd c.from_residual-in_err-check_range.result (λ e. e ≡ c.in_err-check_range.field-0.0) = search rules in
    let unfit = BadRange c.args.at (length c.args.into.now) in
    let refusal = c.in_err-check_range.ensures.refused in
    handed _ c.from_residual-in_err-check_range.result c.in_err-check_range.field-0.0 is
    (subst (IsReadRefusal g.D.Disk.past (IsRange c.args.at (length c.args.into.now)) unfit c.args.self.now c.args.self.now c.args.space c.args.page) (sym refusal.0) (Unfit c.in_ok-check.ensures.up c.in-Some.ensures.page refusal.1 refl))

pub returns-in_err-is_used-clause-refused : goal.returns-in_err-is_used-clause-refused
returns-in_err-is_used-clause-refused g c =
    let is : IsErrAnd c.from_residual-in_err-is_used.result (λ e. e ≡ c.in_err-is_used.field-0.0) = search rules in
    handed _ c.from_residual-in_err-is_used.result c.in_err-is_used.field-0.0 is (Unread _ c.in_ok-check.ensures.up c.in-Some.ensures.page c.in_ok-check_range.ensures.ok c.in_err-is_used.ensures.refused)

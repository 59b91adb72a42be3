use Rattle.std.proofs.Common.{◌≡◌, ◌∙◌, false, None, refl, sym, subst, rules}
use Rattle.std.specs.Prelude.{IfNone, IsErrAnd}
use Rattle.cause_core.proofs.Causes.{handed}
use Rattle.session_core.specs.Reading.{Missing, Stopped, Unread}
use Rattle.session_core.specs.Spaces.{is_page}
use Rattle.session_core.proofs.session.SessionCore.page_kind.Goals as goal

pub returns-in_err-check-clause-refused : goal.returns-in_err-check-clause-refused
returns-in_err-check-clause-refused g c =
    let is : IsErrAnd c.from_residual.result (λ e. e ≡ c.in_err-check.field-0.0) = search rules in
    handed _ c.from_residual.result c.in_err-check.field-0.0 is (Stopped _ (sym c.check.ensures.value ∙ c.in_err-check.was) refl)

pub returns-in_default-clause-refused : goal.returns-in_default-clause-refused
returns-in_default-clause-refused g c =
    Missing c.in_ok-check.ensures.up (subst (λ o. IfNone o (is_page c.args.self.now.store.spaces c.args.space c.args.page ≡ false)) c.in_default.is c.page_info.ensures.none) refl

pub returns-in_err-is_used-clause-refused : goal.returns-in_err-is_used-clause-refused
returns-in_err-is_used-clause-refused g c =
    let is : IsErrAnd c.from_residual-in_err-is_used.result (λ e. e ≡ c.in_err-is_used.field-0.0) = search rules in
    handed _ c.from_residual-in_err-is_used.result c.in_err-is_used.field-0.0 is (Unread _ c.in_ok-check.ensures.up c.in-Some.ensures.page tt c.in_err-is_used.ensures.refused)

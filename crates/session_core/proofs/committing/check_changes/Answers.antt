use Rattle.std.proofs.Common.{◌≡◌, rules}
use Rattle.std.specs.Prelude.{IsErrAnd}
use Rattle.cause_core.proofs.Causes.{handed}
use Rattle.session_core.proofs.ChangeChecks.{allowed_then, from_then, of_store_checked, unfit_page, unfit_range}
use Rattle.session_core.proofs.committing.check_changes.Goals as goal

pub returns-in_err-check_pages-clause-refused : goal.returns-in_err-check_pages-clause-refused
returns-in_err-check_pages-clause-refused c =
    let is : IsErrAnd c.from_residual.result (λ e. e ≡ c.in_err-check_pages.field-0.0) = search rules in
    handed _ c.from_residual.result c.in_err-check_pages.field-0.0 is (unfit_page c.args.store.now.spaces c.args.changes.now c.in_err-check_pages.field-0.0 c.in_err-check_pages.ensures.refused)

pub returns-clause-from : goal.returns-clause-from
returns-clause-from c = from_then c.args.store.now.spaces c.args.changes.now c.check_ranges.result c.requires.forms c.in_ok-check_pages.ensures.there c.check_ranges.ensures.ranged c.check_ranges.ensures.sized

pub returns-clause-allowed : goal.returns-clause-allowed
returns-clause-allowed c = allowed_then c.args.store.now.spaces c.args.changes.now c.check_ranges.result c.requires.forms c.in_ok-check_pages.ensures.there c.check_ranges.ensures.ranged c.check_ranges.ensures.sized

pub returns-clause-of_store : goal.returns-clause-of_store
returns-clause-of_store c =
    of_store_checked c.args.store.now.spaces c.args.changes.now c.check_ranges.result c.requires.forms c.in_ok-check_pages.ensures.there c.args.store.now.header.spaces c.args.store.now.homes c.spaces-spaces.ensures.kept.have

pub returns-clause-refused : goal.returns-clause-refused
returns-clause-refused c = unfit_range c.args.store.now.spaces c.args.changes.now c.check_ranges.result c.requires.forms c.in_ok-check_pages.ensures.there c.check_ranges.ensures.refused

use Rattle.std.proofs.Common.{rules, ◌≡◌, ◌+◌, ◌-◌, ◌≤◌, ◌∙◌, ℕ, List, sym, subst, arith, IsErrAnd}
use Rattle.cause_core.proofs.Causes.{handed}
use Rattle.disk_model.specs.Event.{Event}
use Rattle.disk_model.specs.Past.{Past}
use Rattle.disk_model.proofs.Moments.{at_each, at_is}
use Rattle.doublewrite.specs.Refuse.{IsDiskRefuse}
use Rattle.store_form.specs.Said.{header_said}
use Rattle.recovery.specs.Applying.{IsRunRefusal}
use Rattle.recovery.specs.Rounds.{has_later}
use Rattle.recovery.proofs.DuePages.{pages_due_with, read_by_disk}
use Rattle.recovery.proofs.round_loading.load_round.Goals as goal

pub apply_run-requires-clause-log : goal.apply_run-requires-clause-log
apply_run-requires-clause-log g c = at_is c.in_ok-loaded.ensures.same c.requires.log

pub apply_run-requires-clause-says : goal.apply_run-requires-clause-says
apply_run-requires-clause-says g c = at_is c.in_ok-loaded.ensures.same c.requires.says

pub returns-in_err-loaded-clause-refused : goal.returns-in_err-loaded-clause-refused
returns-in_err-loaded-clause-refused g c =
    let past = g.D.Disk.past c.args.disk.now in
    let why = c.in_err-loaded.field-0.0 in
    let is : IsErrAnd c.from_residual.result (λ e. e ≡ why) = search rules in
    handed (IsRunRefusal past) c.from_residual.result why is (read_by_disk past why c.in_err-loaded.ensures.refused)

pub returns-in_err-apply_run-clause-refused : goal.returns-in_err-apply_run-clause-refused
returns-in_err-apply_run-clause-refused g c =
    let past = g.D.Disk.past c.args.disk.now in
    let why = c.in_err-apply_run.field-0.0 in
    let is : IsErrAnd c.from_residual-in_err-apply_run.result (λ e. e ≡ why) = search rules in
    handed (IsRunRefusal past) c.from_residual-in_err-apply_run.result why is (subst (λ (p : Past). IsRunRefusal p why) c.in_ok-loaded.ensures.same c.in_err-apply_run.ensures.refused)

pub returns-clause-texts : goal.returns-clause-texts
returns-clause-texts g c = at_each (λ es homes. record { each = λ p low high later. let (plain, page, held) = homes.each p low high later in (plain, page) }) c.in_ok-loaded.ensures.homes

pub returns-clause-due : goal.returns-clause-due
returns-clause-due g c = λ o number entry m now by space round.
    let r = c.args.round.now in
    let log = at_is (sym c.in_ok-loaded.ensures.same) c.in_ok-apply_run.ensures.applies in
    pages_due_with o number entry m r.info c.args.notes.now c.args.last.now space r.from c.in_ok-loaded.loaded.end (omega (arith, c.in_ok-loaded.ensures.ends, c.requires.noted)) round (header_said c.args.header.now) c.args.ring.now c.args.from (c.args.run.now.last + 1) by
    c.load_pages.new.pool c.apply_run.new.pool (c.in_ok-loaded.ensures.homes.here m now) (log.here m now)

use Rattle.std.proofs.Common.{◌≡◌, ◌∙◌, ℕ, ◌≤◌, Option, Result, Ok, Err, inl, inr, refl, sym, ap, subst, rules}
use Rattle.std.specs.Prelude.{IsErrAnd}
use Rattle.std.specs.List.{All}
use Rattle.cause_core.proofs.Causes.{handed}
use Rattle.counted_disk.specs.declared.counted.Stop.{Stop}
use Rattle.session_core.specs.Stops.{up_or_refused}
use Rattle.session_core.specs.declared.fault.EngineFault.{EngineFault}
use Rattle.session_core.proofs.CheckpointLaws.{none_done}
use Rattle.session_core.proofs.session.SessionCore.checkpoint.Goals as goal

ok_or_err : (e : EngineFault) → ◌≡◌ {A = Result (Unit {0}) EngineFault} (Ok tt) (Err e) → ⊥
ok_or_err e is = cc

pub returns-in_err-check-clause-refused : goal.returns-in_err-check-clause-refused
returns-in_err-check-clause-refused g c =
    let is : IsErrAnd c.from_residual.result (λ e. e ≡ c.in_err-check.field-0.0) = search rules in
    handed _ c.from_residual.result c.in_err-check.field-0.0 is (inl (sym c.check.ensures.value ∙ c.in_err-check.was, refl))

pub returns-in_err-check-clause-part : goal.returns-in_err-check-clause-part
returns-in_err-check-clause-part g c = none_done c.from_residual.result _ _ _ _ _

pub returns-in_err-check-clause-least : goal.returns-in_err-check-clause-least
returns-in_err-check-clause-least g c up =
    let down : up_or_refused c.args.self.now.disk.stop c.args.self.now.disk.turns ≡ Err c.in_err-check.field-0.0 = sym c.check.ensures.value ∙ c.in_err-check.was in
    let runs : up_or_refused c.args.self.now.disk.stop c.args.self.now.disk.turns ≡ Ok tt = ap (λ (s : Option Stop). up_or_refused s c.args.self.now.disk.turns) up in
    absurd (ok_or_err _ (sym runs ∙ down))

pub returns-clause-least : goal.returns-clause-least
returns-clause-least g c up = subst (λ (n : ℕ). All (λ d. n ≤ d.first) c.args.self.now.pool.dirty.entries) c.run_begin-from.ensures.value c.run_begin-from.ensures.least

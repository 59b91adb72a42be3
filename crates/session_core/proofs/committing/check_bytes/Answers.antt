use Rattle.std.proofs.Common.{◌≡◌, ℕ, subst}
use Rattle.std.specs.Prelude.{IfErr}
use Rattle.redo_text.specs.Text.{IsRange}
use Rattle.session_core.specs.declared.fault.EngineFault.TheVariants.{BadRange}
use Rattle.session_core.proofs.ChangeChecks.{put_unfit}
use Rattle.session_core.proofs.committing.check_bytes.Goals as goal

pub returns-in-Put-clause-refused : goal.returns-in-Put-clause-refused
returns-in-Put-clause-refused c = put_unfit c.args.change.now _ _ _ _ c.check_range.result c.in-Put.is
    (subst (λ (n : ℕ). IfErr c.check_range.result (λ e. (e ≡ BadRange c.in-Put.at n) × (IsRange c.in-Put.at n → ⊥))) c.len.ensures c.check_range.ensures.refused)

use Rattle.std.proofs.Common.{◌≡◌, rules, sym, ◌∙◌}
use Rattle.std.specs.Prelude.{IsErrAnd}
use Rattle.cause_core.proofs.Causes.{handed}
use Rattle.session_core.specs.Taking.{Stopped}
use Rattle.session_core.proofs.TakeLaws.{keyed_batch, no_batch}
use Rattle.session_core.proofs.session.SessionCore.take.Goals as goal

pub returns-in_err-check-clause-refused : goal.returns-in_err-check-clause-refused
returns-in_err-check-clause-refused g c =
    let is : IsErrAnd c.from_residual.result (λ e. e ≡ c.in_err-check.field-0.0) = search rules in
    handed _ c.from_residual.result c.in_err-check.field-0.0 is (Stopped _ (sym c.check.ensures.value ∙ c.in_err-check.was))

pub fill_batch-requires-clause-keyed : goal.fill_batch-requires-clause-keyed
fill_batch-requires-clause-keyed g c =
    keyed_batch c.self.inside.keys c.algorithm.result c.self.inside.store.spaces c.args.space c.self.inside.active c.in-Some.info c.sealing_version-version.result c.seal_key-key.result c.self.invariant.keyed c.self.invariant.active
    (sym c.info.ensures.value ∙ c.in-Some.is) c.sealing_version-version.ensures c.seal_key-key.ensures.value

pub returns-clause-refused : goal.returns-clause-refused
returns-clause-refused g c = no_batch c.args.self.now c.fill_batch.result c.in_ok-check.ensures.up c.fill_batch.ensures.refused

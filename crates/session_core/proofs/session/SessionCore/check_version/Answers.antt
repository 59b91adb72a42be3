use Rattle.std.proofs.Common.{◌≡◌, ◌∙◌, List, None, sym, subst, rules, arith}
use Rattle.std.specs.Prelude.{IsErrAnd}
use Rattle.cause_core.proofs.Causes.{handed}
use Rattle.space_head.specs.declared.space.SpaceInfo.{SpaceInfo}
use Rattle.session_core.specs.Activating.{IsVersionRefusal, Lacking, Older, Stopped}
use Rattle.session_core.specs.Keys.{IsLeastIdLacking}
use Rattle.session_core.specs.Session.{Running}
use Rattle.session_core.specs.declared.fault.EngineFault.TheVariants.{NoVersion, NotNewer}
use Rattle.session_core.proofs.session.SessionCore.check_version.Goals as goal

pub returns-in_err-check-clause-refused : goal.returns-in_err-check-clause-refused
returns-in_err-check-clause-refused g c =
    let is : IsErrAnd c.from_residual.result (λ e. e ≡ c.in_err-check.field-0.0) = search rules in
    handed _ c.from_residual.result c.in_err-check.field-0.0 is (Stopped _ (sym c.check.ensures.value ∙ c.in_err-check.was))

pub returns-then-version-self-clause-refused : goal.returns-then-version-self-clause-refused
returns-then-version-self-clause-refused g c =
    let up = subst (λ (r : Running _). r.disk.stop ≡ None) (sym c.self.view_is) c.in_ok-check.ensures.up in
    subst (λ (r : Running _). IsVersionRefusal r c.args.version (NotNewer c.self.inside.active c.args.version)) c.self.view_is (Older up c.if-version-self.true)

pub returns-in-Some-clause-refused : goal.returns-in-Some-clause-refused
returns-in-Some-clause-refused g c =
    let up = subst (λ (r : Running _). r.disk.stop ≡ None) (sym c.self.view_is) c.in_ok-check.ensures.up in
    let lacking = subst (λ (l : List SpaceInfo). IsLeastIdLacking c.self.inside.keys c.args.version l c.in-Some.id) c.spaces.ensures.value c.in-Some.ensures in
    subst (λ (r : Running _). IsVersionRefusal r c.args.version (NoVersion c.in-Some.id c.args.version)) c.self.view_is (Lacking c.in-Some.id up c.if-version-self.false lacking)

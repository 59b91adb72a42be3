use Rattle.std.proofs.Common.{◌≡◌, subst}
use Rattle.disk_model.proofs.Moments.{or_before, at_last}
use Rattle.plain_engine.specs.Stands.{AllStand, AllRecover, AllRefusable}
use Rattle.disk_model.specs.Past.{At, Throughout}
use Rattle.plain_engine.specs.declared.fault.State.TheVariants.{Up}
use Rattle.plain_engine.specs.Kept.{Running, StandsSince}
use Rattle.plain_engine.proofs.Keeping.{sound_recover}
use Rattle.plain_engine.proofs.engine.Engine.halt.Goals as goal

pub returns-clause-earlier : goal.returns-clause-earlier
returns-clause-earlier g c =
    let since : StandsSince g.D.Disk.past c.args.self = subst (StandsSince g.D.Disk.past) c.self.view_is c.self.invariant.since in
    λ m to. or_before (AllStand c.args.self.journal) (g.D.Disk.past c.args.self.first) (g.D.Disk.past c.args.self.disk) m since to

pub returns-clause-settled : goal.returns-clause-settled
returns-clause-settled g c =
    subst (λ (r : Running _). r.state ≡ Up → At (AllRecover r.journal r.settled) (g.D.Disk.past r.disk)) c.self.view_is (sound_recover g.D.Disk.past g.D.Disk.may_fail_to_tell _ _ c.self.invariant)

pub returns-clause-refusable : goal.returns-clause-refusable
returns-clause-refusable g c =
    let since : Throughout AllRefusable (g.D.Disk.past c.args.self.first) (g.D.Disk.past c.args.self.disk) =
    subst (λ (r : Running _). Throughout AllRefusable (g.D.Disk.past r.first) (g.D.Disk.past r.disk)) c.self.view_is c.self.invariant.refusable in
    at_last AllRefusable _ _ since

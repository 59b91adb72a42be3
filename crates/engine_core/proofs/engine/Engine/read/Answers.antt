use Rattle.std.proofs.Common.{OnOk, subst}
use Rattle.counted_disk.specs.Counting.{IsCounted, count_of}
use Rattle.disk_model.specs.Past.{At}
use Rattle.session_image.specs.Kept.{SessionStore}
use Rattle.engine_core.specs.Engine.{EngineState}
use Rattle.engine_core.specs.Kept.{BeginsAt}
use Rattle.engine_core.specs.Reading.{IsPartNow}
use Rattle.engine_core.proofs.KeepsReads.{part_read, read_keeps}
use Rattle.engine_core.proofs.engine.Engine.read.Goals as goal

pub invariant_of-self : goal.invariant_of-self
invariant_of-self g c =
    let call = c.read.ensures in
    read_keeps g.D.Disk.past g.D.Disk.faults g.D.Disk.memory_refusals g.D.Disk.is_later g.met.D.Disk.is_later_transitive c.self.inside.first.value c.self.inside.core c.read.new.self c.spaces-kept.ensures.kept c.args.space c.args.page c.read.result _ _ c.self.invariant
    call.later.0 call.later.1 call.was_up call.there call.data call.refused

pub returns-clause-contents : goal.returns-clause-contents
returns-clause-contents g c =
    let call = c.read.ensures in
    subst (λ (e : EngineState _). OnOk c.read.result ((store : SessionStore) → At (BeginsAt store e.first) (g.D.Disk.past e.first.disk.disk) → At (λ es. IsPartNow store e.now c.args.space c.args.page c.args.at c.read.new.into) (g.D.Disk.past e.now.disk.disk))) c.self.view_is
    (part_read g.D.Disk.past g.D.Disk.faults g.D.Disk.memory_refusals g.D.Disk.is_later g.met.D.Disk.is_later_transitive c.self.inside.first.value c.self.inside.core c.read.new.self c.spaces-kept.ensures.kept c.args.space c.args.page c.read.result c.args.at c.read.new.into c.self.invariant
    call.was_up call.there call.bytes)

pub returns-clause-later : goal.returns-clause-later
returns-clause-later g c =
    subst (λ (e : EngineState _). g.D.Disk.is_later e.now.disk.disk c.read.new.self.disk.disk × IsCounted (count_of g.D.Disk.past g.D.Disk.faults g.D.Disk.memory_refusals e.now.disk) (count_of g.D.Disk.past g.D.Disk.faults g.D.Disk.memory_refusals c.read.new.self.disk)) c.self.view_is
    c.read.ensures.later

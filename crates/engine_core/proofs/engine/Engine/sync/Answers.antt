use Rattle.std.proofs.Common.{subst}
use Rattle.counted_disk.specs.Counting.{IsCounted, count_of}
use Rattle.engine_core.specs.Engine.{EngineState}
use Rattle.engine_core.proofs.Keeps.{sync_keeps}
use Rattle.engine_core.proofs.engine.Engine.sync.Goals as goal

pub invariant_of-self : goal.invariant_of-self
invariant_of-self g c =
    let call = c.sync.ensures in
    sync_keeps g.D.Disk.past g.D.Disk.faults g.D.Disk.memory_refusals g.D.Disk.is_later g.met.D.Disk.is_later_transitive c.self.inside.first.value c.self.inside.core c.sync.new.self c.sync.result c.spaces-kept.ensures.kept c.self.invariant call.later.0 call.later.1
    call.was_up call.synced call.exact call.refused

pub returns-clause-later : goal.returns-clause-later
returns-clause-later g c =
    subst (λ (e : EngineState _). g.D.Disk.is_later e.now.disk.disk c.sync.new.self.disk.disk × IsCounted (count_of g.D.Disk.past g.D.Disk.faults g.D.Disk.memory_refusals e.now.disk) (count_of g.D.Disk.past g.D.Disk.faults g.D.Disk.memory_refusals c.sync.new.self.disk)) c.self.view_is
    c.sync.ensures.later

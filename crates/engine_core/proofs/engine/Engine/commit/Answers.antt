use Rattle.std.proofs.Common.{Some, subst}
use Rattle.counted_disk.specs.Counting.{IsCounted, count_of}
use Rattle.engine_core.specs.Engine.{EngineState}
use Rattle.engine_core.proofs.KeepsCommits.{commit_keeps}
use Rattle.engine_core.proofs.engine.Engine.commit.Goals as goal

pub invariant_of-self : goal.invariant_of-self
invariant_of-self g c =
    let call = c.commit-receipt.ensures in
    commit_keeps g.D.Disk.past g.D.Disk.faults g.D.Disk.memory_refusals g.D.Disk.is_later g.met.D.Disk.is_later_transitive c.self.inside.first.value c.self.inside.core c.commit-receipt.new.self c.commit-receipt.result (Some c.args.by) c.args.mtr
    c.spaces-before.ensures.kept c.self.invariant call.later.0 call.later.1 c.requires.some c.requires.forms c.spaces-behind.ensures.kept call.was_up call.entered call.refused

pub returns-clause-later : goal.returns-clause-later
returns-clause-later g c =
    subst (λ (e : EngineState _). g.D.Disk.is_later e.now.disk.disk c.commit-receipt.new.self.disk.disk × IsCounted (count_of g.D.Disk.past g.D.Disk.faults g.D.Disk.memory_refusals e.now.disk) (count_of g.D.Disk.past g.D.Disk.faults g.D.Disk.memory_refusals c.commit-receipt.new.self.disk))
    c.self.view_is c.commit-receipt.ensures.later

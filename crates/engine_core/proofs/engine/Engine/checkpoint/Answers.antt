use Rattle.std.proofs.Common.{◌≡◌, ◌≤◌, None, subst}
use Rattle.std.specs.List.{All}
use Rattle.counted_disk.specs.Counting.{IsCounted, count_of}
use Rattle.session_core.specs.Checking.{run_begin}
use Rattle.engine_core.specs.Engine.{EngineState}
use Rattle.engine_core.proofs.Keeps.{checkpoint_keeps}
use Rattle.engine_core.proofs.engine.Engine.checkpoint.Goals as goal

pub invariant_of-self : goal.invariant_of-self
invariant_of-self g c =
    let call = c.checkpoint.ensures in
    checkpoint_keeps g.D.Disk.past g.D.Disk.faults g.D.Disk.memory_refusals g.D.Disk.is_later g.met.D.Disk.is_later_transitive c.self.inside.first.value c.self.inside.core c.checkpoint.new.self c.checkpoint.result c.spaces-kept.ensures.kept c.self.invariant call.later.0 call.later.1
    call.least call.was_up call.checked call.still call.exact call.part call.kept call.refused

pub returns-clause-least : goal.returns-clause-least
returns-clause-least g c = subst (λ (e : EngineState _). e.now.disk.stop ≡ None → All (λ d. run_begin e.now ≤ d.first) e.now.pool.dirty.entries) c.self.view_is c.checkpoint.ensures.least

pub returns-clause-later : goal.returns-clause-later
returns-clause-later g c =
    subst (λ (e : EngineState _). g.D.Disk.is_later e.now.disk.disk c.checkpoint.new.self.disk.disk × IsCounted (count_of g.D.Disk.past g.D.Disk.faults g.D.Disk.memory_refusals e.now.disk) (count_of g.D.Disk.past g.D.Disk.faults g.D.Disk.memory_refusals c.checkpoint.new.self.disk))
    c.self.view_is c.checkpoint.ensures.later

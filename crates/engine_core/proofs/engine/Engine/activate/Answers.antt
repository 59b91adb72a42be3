use Rattle.engine_core.proofs.Keeps.{activate_keeps}
use Rattle.engine_core.proofs.engine.Engine.activate.Goals as goal

pub invariant_of-self : goal.invariant_of-self
invariant_of-self g c =
    activate_keeps g.D.Disk.past g.D.Disk.faults g.D.Disk.memory_refusals g.D.Disk.is_later g.met.D.Disk.is_later_transitive c.self.inside.first.value c.self.inside.core c.activate.new.self c.activate.result c.args.version c.activate.ensures.active c.activate.ensures.unchanged
    c.self.invariant

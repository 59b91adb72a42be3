use Rattle.engine_core.proofs.Keeps.{unchanged}
use Rattle.engine_core.proofs.engine.Engine.take.Goals as goal

pub invariant_of-self : goal.invariant_of-self
invariant_of-self g c =
    unchanged g.D.Disk.past g.D.Disk.faults g.D.Disk.memory_refusals g.D.Disk.is_later g.met.D.Disk.is_later_transitive c.self.inside.first.value c.self.inside.core c.take.new.self c.take.ensures.same c.self.invariant

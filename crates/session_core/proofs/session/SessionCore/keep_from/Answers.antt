use Rattle.std.proofs.Common.{◌≡◌, ◌+◌, ◌≤◌, None, sym, subst}
use Rattle.std.specs.List.{All}
use Rattle.counted_disk.specs.Counting.{IsCounted, count_of}
use Rattle.redo_log.specs.Log.{durable}
use Rattle.session_core.specs.Files.{calls_of}
use Rattle.session_core.specs.Session.{Running}
use Rattle.session_core.proofs.CheckpointLaws.{session_checked}
use Rattle.session_core.proofs.session.SessionCore.keep_from.Goals as goal

pub invariant_of-self : goal.invariant_of-self
invariant_of-self g c =
    let from = c.args.from in
    let call = c.write_checkpoint.ensures in
    session_checked g.D.Disk.past _ c.self.invariant from c.write_checkpoint.new.disk c.write_checkpoint.new.log c.write_checkpoint.result
    (subst (λ (r : Running _). r.disk.stop ≡ None) (sym c.self.view_is) c.requires.up) (subst (λ (r : Running _). r.log.from ≤ from) (sym c.self.view_is) c.requires.low)
    (subst (λ (r : Running _). from ≤ durable r.log) (sym c.self.view_is) c.requires.high) (subst (λ (r : Running _). All (λ d. from ≤ d.first) r.pool.dirty.entries) (sym c.self.view_is) c.requires.least)
    call.moved call.kept call.open call.nothing call.exact call.stopped

pub returns-clause-calls : goal.returns-clause-calls
returns-clause-calls g c = subst (λ (r : Running _). calls_of g.D.Disk.clock c.write_checkpoint.new.disk ≤ calls_of g.D.Disk.clock r.disk + 2) c.self.view_is c.write_checkpoint.ensures.calls

pub returns-clause-later : goal.returns-clause-later
returns-clause-later g c =
    subst (λ (r : Running _). g.D.Disk.is_later r.disk.disk c.write_checkpoint.new.disk.disk × IsCounted (count_of g.D.Disk.past g.D.Disk.faults g.D.Disk.memory_refusals r.disk) (count_of g.D.Disk.past g.D.Disk.faults g.D.Disk.memory_refusals c.write_checkpoint.new.disk))
    c.self.view_is c.write_checkpoint.ensures.later

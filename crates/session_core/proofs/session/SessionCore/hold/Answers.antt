use Rattle.std.proofs.Common.{◌≡◌, ◌+◌, ◌≤◌, List, length, None, sym, subst}
use Rattle.counted_disk.specs.Counting.{IsCounted, count_of}
use Rattle.disk_model.proofs.Moments.{at_each, at_is}
use Rattle.key_ring.specs.Ring.{RingEntry}
use Rattle.redo_text.specs.declared.change.Change.{Change}
use Rattle.session_core.specs.Entering.{AreFromOne}
use Rattle.session_core.specs.Files.{calls_of}
use Rattle.session_core.specs.Keys.{HasVersion}
use Rattle.session_core.specs.Session.{Running}
use Rattle.session_core.proofs.LookLaws.{dirty_looks, told_looks}
use Rattle.session_core.proofs.session.SessionCore.hold.Goals as goal

pub invariant_of-self : goal.invariant_of-self
invariant_of-self g c =
    let kept = c.self.invariant in
    let past = g.D.Disk.past c.self.inside.disk.disk in
    let up : c.self.inside.disk.stop ≡ None = subst (λ (r : Running _). r.disk.stop ≡ None) (sym c.self.view_is) c.requires.up in
    let from : AreFromOne c.changes.result.now = subst AreFromOne (sym c.changes.ensures) c.requires.from in
    let looks = c.hold_named.ensures.looks in
    record {
      spaces = kept.spaces;
      active = kept.active;
      keyed = subst (λ (ring : List RingEntry). HasVersion ring c.self.inside.active c.self.inside.store.spaces) (sym c.hold_named.ensures.keys) kept.keyed;
      floors = kept.floors;
      ring = kept.ring;
      numbers = kept.numbers;
      entries = kept.entries;
      acked = kept.acked;
      settled = kept.settled;
      dirty = dirty_looks c.self.inside.keys c.self.inside.store past c.changes.result.now c.self.inside.pool c.hold_named.new.pool from looks c.self.inside.log kept.dirty;
      files = λ runs. at_is c.hold_named.ensures.past (kept.files up);
      reads = λ runs. at_is c.hold_named.ensures.past (at_each (λ es told. told_looks c.self.inside.keys c.self.inside.store past c.changes.result.now c.self.inside.pool c.hold_named.new.pool from looks c.self.inside.log es told) (kept.reads up));
    }

pub returns-clause-later : goal.returns-clause-later
returns-clause-later g c =
    subst (λ (r : Running _). g.D.Disk.is_later r.disk.disk c.hold_named.new.disk.disk × IsCounted (count_of g.D.Disk.past g.D.Disk.faults g.D.Disk.memory_refusals r.disk) (count_of g.D.Disk.past g.D.Disk.faults g.D.Disk.memory_refusals c.hold_named.new.disk))
    c.self.view_is c.hold_named.ensures.later

pub returns-clause-calls : goal.returns-clause-calls
returns-clause-calls g c =
    subst (λ (r : Running _). calls_of g.D.Disk.clock c.hold_named.new.disk ≤ calls_of g.D.Disk.clock r.disk + length c.args.mtr.now) c.self.view_is
    (subst (λ (l : List Change). calls_of g.D.Disk.clock c.hold_named.new.disk ≤ calls_of g.D.Disk.clock c.self.inside.disk + length l) c.changes.ensures c.hold_named.ensures.calls)

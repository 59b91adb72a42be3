use Rattle.std.proofs.Common.{◌≡◌, ◌+◌, ◌-◌, ◌≤◌, length}
use Rattle.disk_model.specs.Past.{At}
use Rattle.store_form.specs.Said.{header_said}
use Rattle.recovery.specs.Changes.{FitLast}
use Rattle.recovery.specs.Heads.{AreInfosFor}
use Rattle.recovery.specs.Passed.{Passed}
use Rattle.recovery.proofs.changes.pass_run.Given as goal

abbrev pub invariant-loop-number : goal.invariant-loop-number
invariant-loop-number g l = record {
  same : g.D.Disk.past l.disk ≡ g.D.Disk.past l.fn.disk;
  long : length l.block ≡ 4096;
  passed : At (Passed (header_said l.header) l.ring l.from l.end l.notes l.fn.changes.spaces l.first l.number l.text.items l.changes) (g.D.Disk.past l.fn.disk);
  last : FitLast (header_said l.header).spaces l.changes.last;
  infos : AreInfosFor (header_said l.header).spaces l.changes.spaces;
  calls : g.D.Disk.clock l.disk + l.from ≤ g.D.Disk.clock l.fn.disk + l.number;
  room : l.number ≤ l.from + (l.end - l.from);
  faults : g.D.Disk.faults l.disk ≡ g.D.Disk.faults l.fn.disk;
  memory : g.D.Disk.memory_refusals l.disk ≡ g.D.Disk.memory_refusals l.fn.disk;
  later : g.D.Disk.is_later l.fn.disk l.disk;
}

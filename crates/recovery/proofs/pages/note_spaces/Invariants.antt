use Rattle.std.proofs.Common.{◌≡◌, ◌+◌, ◌≤◌, length, take, drop, map}
use Rattle.disk_model.specs.Past.{At}
use Rattle.store_files.specs.Header.{pages_together}
use Rattle.store_form.specs.Said.{space_said}
use Rattle.recovery.specs.Notes.{FitNotes, HaveNotes}
use Rattle.recovery.proofs.pages.note_spaces.Given as goal

abbrev pub invariant-loop-i : goal.invariant-loop-i
invariant-loop-i g l = record {
  same : g.D.Disk.past l.disk ≡ g.D.Disk.past l.fn.disk;
  long : length l.home ≡ 16384;
  notes : At (HaveNotes (map space_said (take l.i l.spaces)) l.notes.items) (g.D.Disk.past l.fn.disk);
  fit : FitNotes (map space_said (take l.i l.spaces)) l.notes.items;
  calls : g.D.Disk.clock l.disk + pages_together (map space_said (drop l.i l.spaces)) ≤ g.D.Disk.clock l.fn.disk + pages_together (map space_said l.spaces);
  faults : g.D.Disk.faults l.disk ≡ g.D.Disk.faults l.fn.disk;
  memory : g.D.Disk.memory_refusals l.disk ≡ g.D.Disk.memory_refusals l.fn.disk;
  later : g.D.Disk.is_later l.fn.disk l.disk;
}

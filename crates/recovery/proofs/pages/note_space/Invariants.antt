use Rattle.std.proofs.Common.{◌≡◌, ◌+◌, ◌≤◌, length}
use Rattle.disk_model.specs.Past.{At}
use Rattle.recovery.specs.Notes.{AreNotesOf}
use Rattle.recovery.proofs.pages.note_space.Given as goal

abbrev pub invariant-loop-page : goal.invariant-loop-page
invariant-loop-page g l = record {
  same : g.D.Disk.past l.disk ≡ g.D.Disk.past l.fn.disk;
  long : length l.home ≡ 16384;
  count : length l.notes.items ≡ l.page;
  notes : At (AreNotesOf l.space.space l.notes.items) (g.D.Disk.past l.fn.disk);
  calls : g.D.Disk.clock l.disk ≤ g.D.Disk.clock l.fn.disk + l.page;
  faults : g.D.Disk.faults l.disk ≡ g.D.Disk.faults l.fn.disk;
  memory : g.D.Disk.memory_refusals l.disk ≡ g.D.Disk.memory_refusals l.fn.disk;
  later : g.D.Disk.is_later l.fn.disk l.disk;
}

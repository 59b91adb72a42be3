use Rattle.std.proofs.Common.{◌≡◌, ◌+◌, ◌≤◌, ◌++◌, Some, None, length}
use Rattle.disk_model.specs.Past.{At}
use Rattle.disk_model.specs.Does.{SoFar}
use Rattle.places.specs.Batches.{From}
use Rattle.doublewrite.specs.Events.{spaces_events, calls_to, homes_to}
use Rattle.doublewrite.specs.Restore.{HaveAll, IsRestoreEvent, SpacesFilling, AreRestored}
use Rattle.doublewrite.proofs.recovery.restore_spaces.Given as goal

abbrev pub invariant-loop-i : goal.invariant-loop-i
invariant-loop-i g l = record {
  so_far : At (HaveAll l.spaces) (g.D.Disk.past l.fn.disk) → SoFar (From (SpacesFilling l.copies l.spaces) (g.D.Disk.past l.fn.disk)) (IsRestoreEvent l.spaces) (From (AreRestored l.copies l.spaces l.i) (g.D.Disk.past l.fn.disk)) (g.D.Disk.past l.fn.disk) (g.D.Disk.past l.disk);
  untold : g.D.Disk.past l.fn.disk ≡ None → g.D.Disk.past l.disk ≡ None;
  exact : At (λ s. g.D.Disk.past l.disk ≡ Some (spaces_events l.copies s l.spaces l.i ++ s)) (g.D.Disk.past l.fn.disk);
  calls : g.D.Disk.clock l.disk ≤ g.D.Disk.clock l.fn.disk + calls_to l.spaces l.i;
  told_calls : At (λ s. g.D.Disk.clock l.disk ≤ g.D.Disk.clock l.fn.disk + (homes_to l.spaces l.i + length (spaces_events l.copies s l.spaces l.i))) (g.D.Disk.past l.fn.disk);
  size : length l.page ≡ 16384;
  faults : g.D.Disk.faults l.disk ≡ g.D.Disk.faults l.fn.disk;
  memory : g.D.Disk.memory_refusals l.disk ≡ g.D.Disk.memory_refusals l.fn.disk;
  later : g.D.Disk.is_later l.fn.disk l.disk;
}

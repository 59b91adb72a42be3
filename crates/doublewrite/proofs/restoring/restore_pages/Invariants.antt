use Rattle.std.proofs.Common.{◌≡◌, ◌+◌, ◌*◌, ◌≤◌, ◌++◌, Some, None, length, false}
use Rattle.disk_model.specs.Past.{At}
use Rattle.disk_model.specs.Does.{SoFar}
use Rattle.places.specs.Batches.{From}
use Rattle.doublewrite.specs.Events.{page_writes, is_any}
use Rattle.doublewrite.specs.Restore.{HasPages, IsSpaceEvent, PagesFilling, PagesFilled, PagesStay}
use Rattle.doublewrite.proofs.restoring.restore_pages.Given as goal

abbrev pub invariant-loop-number : goal.invariant-loop-number
invariant-loop-number g l = record {
  so_far : At (HasPages l.info) (g.D.Disk.past l.fn.disk) → SoFar (From (PagesFilling l.copies l.info) (g.D.Disk.past l.fn.disk)) (IsSpaceEvent l.info) (From (PagesFilled l.copies l.info l.number) (g.D.Disk.past l.fn.disk)) (g.D.Disk.past l.fn.disk) (g.D.Disk.past l.disk);
  stays : At (From (PagesStay l.info l.number) (g.D.Disk.past l.fn.disk)) (g.D.Disk.past l.disk);
  untold : g.D.Disk.past l.fn.disk ≡ None → g.D.Disk.past l.disk ≡ None;
  exact : At (λ s. g.D.Disk.past l.disk ≡ Some (page_writes l.copies s l.info.space l.number ++ s)) (g.D.Disk.past l.fn.disk);
  told : At (λ s. l.is_written ≡ is_any (page_writes l.copies s l.info.space l.number)) (g.D.Disk.past l.fn.disk);
  calls : g.D.Disk.clock l.disk ≤ g.D.Disk.clock l.fn.disk + l.number * 2;
  told_calls : At (λ s. g.D.Disk.clock l.disk ≤ g.D.Disk.clock l.fn.disk + (l.number + length (page_writes l.copies s l.info.space l.number))) (g.D.Disk.past l.fn.disk);
  clean : l.is_written ≡ false → g.D.Disk.past l.disk ≡ g.D.Disk.past l.fn.disk;
  size : length l.page ≡ 16384;
  faults : g.D.Disk.faults l.disk ≡ g.D.Disk.faults l.fn.disk;
  memory : g.D.Disk.memory_refusals l.disk ≡ g.D.Disk.memory_refusals l.fn.disk;
  later : g.D.Disk.is_later l.fn.disk l.disk;
}

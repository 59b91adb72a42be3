use Rattle.std.proofs.Common.{◌≡◌, ◌+◌, ◌≤◌, ℕ}
use Rattle.disk_model.specs.Does.{SoFar}
use Rattle.disk_model.specs.Past.{At}
use Rattle.disk_model.specs.declared.names.FileName.TheVariants.{Space}
use Rattle.places.specs.Batches.{From}
use Rattle.places.specs.Writes.{writes_of, grows}
use Rattle.doublewrite.specs.Batch.{home_batch}
use Rattle.doublewrite.specs.Layer.{FitsSpace, IsHomeEvent, HomesWriting, HomesWrote}
use Rattle.doublewrite.proofs.homes.write_homes.Given as goal

abbrev pub invariant-loop-i : goal.invariant-loop-i
invariant-loop-i g l = record {
  so_far : SoFar (From (HomesWriting l.batch) (g.D.Disk.past l.fn.disk)) (IsHomeEvent l.batch) (From (HomesWrote l.batch l.i) (g.D.Disk.past l.fn.disk)) (g.D.Disk.past l.fn.disk) (g.D.Disk.past l.disk);
  inside : At (λ es. (count : ℕ) × FitsSpace l.batch count es) (g.D.Disk.past l.disk);
  exact : g.D.Disk.past l.disk ≡ grows (writes_of (Space l.batch.space) 16384 (home_batch l.batch) l.i) (g.D.Disk.past l.fn.disk);
  calls : g.D.Disk.clock l.disk ≤ g.D.Disk.clock l.fn.disk + l.i;
  faults : g.D.Disk.faults l.disk ≡ g.D.Disk.faults l.fn.disk;
  memory : g.D.Disk.memory_refusals l.disk ≡ g.D.Disk.memory_refusals l.fn.disk;
  later : g.D.Disk.is_later l.fn.disk l.disk;
}

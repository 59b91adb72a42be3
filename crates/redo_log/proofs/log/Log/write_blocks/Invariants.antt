use Rattle.std.proofs.Common.{◌≡◌, ◌+◌, ◌≤◌}
use Rattle.disk_model.specs.Does.{SoFar}
use Rattle.crash_image.specs.LogForm.{log_places}
use Rattle.disk_model.specs.Past.{At}
use Rattle.places.specs.Batches.{From}
use Rattle.places.specs.Places.{HasFile, HasPlaces}
use Rattle.disk_model.specs.declared.names.FileName.TheVariants.{Log as LogFile}
use Rattle.places.specs.Writes.{writes_of, grows}
use Rattle.redo_log.specs.Events.{IsAny, IsBlockEvent, BlocksWriting, BlocksWrote, block_batch}
use Rattle.redo_log.proofs.log.Log.write_blocks.Given as goal

abbrev pub invariant-loop-i : goal.invariant-loop-i
invariant-loop-i g l = record {
  so_far : At (HasPlaces LogFile (log_places l.self.blocks)) (g.D.Disk.past l.fn.disk) → SoFar (From (BlocksWriting l.self) (g.D.Disk.past l.fn.disk)) (IsBlockEvent l.self) (From (BlocksWrote l.self l.i) (g.D.Disk.past l.fn.disk)) (g.D.Disk.past l.fn.disk) (g.D.Disk.past l.disk);
  adds : SoFar IsAny (IsBlockEvent l.self) IsAny (g.D.Disk.past l.fn.disk) (g.D.Disk.past l.disk);
  file : At (HasFile LogFile (log_places l.self.blocks)) (g.D.Disk.past l.disk);
  exact : g.D.Disk.past l.disk ≡ grows (writes_of LogFile 4096 (block_batch l.self) l.i) (g.D.Disk.past l.fn.disk);
  calls : g.D.Disk.clock l.disk ≤ g.D.Disk.clock l.fn.disk + l.i;
  faults : g.D.Disk.faults l.disk ≡ g.D.Disk.faults l.fn.disk;
  memory_refusals : g.D.Disk.memory_refusals l.disk ≡ g.D.Disk.memory_refusals l.fn.disk;
  later : g.D.Disk.is_later l.fn.disk l.disk;
}

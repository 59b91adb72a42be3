use Rattle.std.proofs.Common.{◌≡◌, ◌+◌, ◌≤◌, length}
use Rattle.disk_model.specs.Does.{SoFar}
use Rattle.disk_model.specs.Past.{At}
use Rattle.disk_model.specs.declared.names.FileName.TheVariants.{Double}
use Rattle.places.specs.Batches.{From}
use Rattle.places.specs.Places.{HasFile, HasPlaces}
use Rattle.page_places.specs.Texts.{slots}
use Rattle.places.specs.Writes.{writes_of, grows}
use Rattle.doublewrite.specs.Batch.{slot_batch}
use Rattle.doublewrite.specs.Layer.{IsSlotEvent, SlotsWriting, SlotsWrote}
use Rattle.doublewrite.proofs.storing.write_slots.Given as goal

abbrev pub invariant-loop-i : goal.invariant-loop-i
invariant-loop-i g l = record {
  so_far : At (HasPlaces Double slots) (g.D.Disk.past l.fn.disk) → SoFar (From (SlotsWriting l.batch) (g.D.Disk.past l.fn.disk)) (IsSlotEvent l.batch) (From (SlotsWrote l.batch l.i) (g.D.Disk.past l.fn.disk)) (g.D.Disk.past l.fn.disk) (g.D.Disk.past l.disk);
  places : At (HasFile Double slots) (g.D.Disk.past l.disk);
  size : length l.slot ≡ 16896;
  exact : g.D.Disk.past l.disk ≡ grows (writes_of Double 16896 (slot_batch l.batch) l.i) (g.D.Disk.past l.fn.disk);
  calls : g.D.Disk.clock l.disk ≤ g.D.Disk.clock l.fn.disk + l.i;
  faults : g.D.Disk.faults l.disk ≡ g.D.Disk.faults l.fn.disk;
  memory : g.D.Disk.memory_refusals l.disk ≡ g.D.Disk.memory_refusals l.fn.disk;
  later : g.D.Disk.is_later l.fn.disk l.disk;
}

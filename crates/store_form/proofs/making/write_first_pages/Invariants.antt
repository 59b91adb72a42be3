use Rattle.std.proofs.Common.{◌≡◌, ◌+◌, ◌*◌, ◌≤◌, drop, length}
use Rattle.disk_model.specs.Past.{Past, At}
use Rattle.store_form.specs.Created.{HaveFirstPlaces}
use Rattle.store_form.specs.Creation.{IsStopped, first_pages_written, past_after}
use Rattle.store_form.specs.Made.{DifferInId}
use Rattle.store_form.proofs.making.write_first_pages.Given as goal

abbrev pub invariant-loop-i : goal.invariant-loop-i
invariant-loop-i g l = record {
  places : At (HaveFirstPlaces (drop l.i l.spaces)) (g.D.Disk.past l.disk);
  differ : DifferInId (drop l.i l.spaces);
  done : past_after (first_pages_written (drop l.i l.spaces)) (g.D.Disk.past l.disk) ≡ past_after (first_pages_written l.spaces) (g.D.Disk.past l.fn.disk);
  stopped : (new : Past) → IsStopped (first_pages_written (drop l.i l.spaces)) (g.D.Disk.past l.disk) new → IsStopped (first_pages_written l.spaces) (g.D.Disk.past l.fn.disk) new;
  long : length l.page ≡ 16384;
  later : g.D.Disk.is_later l.fn.disk l.disk;
  calls : g.D.Disk.clock l.disk ≤ g.D.Disk.clock l.fn.disk + 2 * l.i;
  faults : g.D.Disk.faults l.disk ≡ g.D.Disk.faults l.fn.disk;
  refusals : g.D.Disk.memory_refusals l.disk ≡ g.D.Disk.memory_refusals l.fn.disk;
}

use Rattle.std.proofs.Common.{◌≡◌, ◌+◌, ◌≤◌, drop}
use Rattle.disk_model.specs.Past.{Past, At}
use Rattle.store_form.specs.Created.{AreAbsent}
use Rattle.store_form.specs.Creation.{IsStopped, past_after, spaces_begun}
use Rattle.store_form.specs.Made.{DifferInId}
use Rattle.store_form.proofs.making.begin_spaces.Given as goal

abbrev pub invariant-loop-i : goal.invariant-loop-i
invariant-loop-i g l = record {
  absent : At (AreAbsent (drop l.i l.spaces)) (g.D.Disk.past l.disk);
  differ : DifferInId (drop l.i l.spaces);
  done : past_after (spaces_begun (drop l.i l.spaces)) (g.D.Disk.past l.disk) ≡ past_after (spaces_begun l.spaces) (g.D.Disk.past l.fn.disk);
  stopped : (new : Past) → IsStopped (spaces_begun (drop l.i l.spaces)) (g.D.Disk.past l.disk) new → IsStopped (spaces_begun l.spaces) (g.D.Disk.past l.fn.disk) new;
  later : g.D.Disk.is_later l.fn.disk l.disk;
  calls : g.D.Disk.clock l.disk ≤ g.D.Disk.clock l.fn.disk + l.i;
  faults : g.D.Disk.faults l.disk ≡ g.D.Disk.faults l.fn.disk;
  refusals : g.D.Disk.memory_refusals l.disk ≡ g.D.Disk.memory_refusals l.fn.disk;
}

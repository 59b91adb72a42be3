use Rattle.std.proofs.Common.{◌≡◌, ◌+◌, ◌≤◌, length}
use Rattle.disk_model.specs.Past.{At}
use Rattle.doublewrite.specs.Copies.{copies_to}
use Rattle.doublewrite.proofs.reading.read_copies.Given as goal

abbrev pub invariant-loop-i : goal.invariant-loop-i
invariant-loop-i g l = record {
  same : g.D.Disk.past l.disk ≡ g.D.Disk.past l.fn.disk;
  copies : At (λ es. l.copies.items ≡ copies_to l.i es) (g.D.Disk.past l.fn.disk);
  size : length l.slot ≡ 16896;
  calls : g.D.Disk.clock l.disk ≤ g.D.Disk.clock l.fn.disk + l.i;
  faults : g.D.Disk.faults l.disk ≡ g.D.Disk.faults l.fn.disk;
  memory : g.D.Disk.memory_refusals l.disk ≡ g.D.Disk.memory_refusals l.fn.disk;
  later : g.D.Disk.is_later l.fn.disk l.disk;
}

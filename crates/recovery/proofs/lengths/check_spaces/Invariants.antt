use Rattle.std.proofs.Common.{◌≡◌, ◌+◌, ◌≤◌, take}
use Rattle.disk_model.specs.Past.{At}
use Rattle.store_form.specs.Said.{space_said}
use Rattle.recovery.specs.Files.{HasStoreFile, space_file}
use Rattle.recovery.specs.Walks.{AllHave}
use Rattle.recovery.proofs.lengths.check_spaces.Given as goal

abbrev pub invariant-loop-i : goal.invariant-loop-i
invariant-loop-i g l = record {
  same : g.D.Disk.past l.disk ≡ g.D.Disk.past l.fn.disk;
  have : At (λ es. AllHave (λ space. HasStoreFile es (space_file (space_said space))) (take l.i l.spaces)) (g.D.Disk.past l.fn.disk);
  calls : g.D.Disk.clock l.disk ≤ g.D.Disk.clock l.fn.disk + l.i;
  faults : g.D.Disk.faults l.disk ≡ g.D.Disk.faults l.fn.disk;
  memory : g.D.Disk.memory_refusals l.disk ≡ g.D.Disk.memory_refusals l.fn.disk;
  later : g.D.Disk.is_later l.fn.disk l.disk;
}

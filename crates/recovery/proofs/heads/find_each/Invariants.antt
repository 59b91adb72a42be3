use Rattle.std.proofs.Common.{◌≡◌, ◌+◌, ◌≤◌, length, take, map}
use Rattle.disk_model.specs.Past.{At}
use Rattle.store_form.specs.Said.{space_said}
use Rattle.recovery.specs.Heads.{AreInfosFor, HaveHeads}
use Rattle.recovery.proofs.heads.find_each.Given as goal

abbrev pub invariant-loop-i : goal.invariant-loop-i
invariant-loop-i g l = record {
  same : g.D.Disk.past l.disk ≡ g.D.Disk.past l.fn.disk;
  long : length l.text ≡ 16384;
  heads : At (HaveHeads (map space_said (take l.i l.spaces)) l.infos.items) (g.D.Disk.past l.fn.disk);
  fit : AreInfosFor (map space_said (take l.i l.spaces)) l.infos.items;
  calls : g.D.Disk.clock l.disk ≤ g.D.Disk.clock l.fn.disk + l.i;
  faults : g.D.Disk.faults l.disk ≡ g.D.Disk.faults l.fn.disk;
  memory : g.D.Disk.memory_refusals l.disk ≡ g.D.Disk.memory_refusals l.fn.disk;
  later : g.D.Disk.is_later l.fn.disk l.disk;
}

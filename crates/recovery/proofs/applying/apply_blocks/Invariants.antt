use Rattle.std.proofs.Common.{◌≡◌, ◌+◌, ◌-◌, ◌≤◌, length}
use Rattle.disk_model.specs.Past.{At}
use Rattle.store_form.specs.Said.{header_said}
use Rattle.recovery.specs.Applying.{AppliesUpTo}
use Rattle.recovery.specs.Loading.{HoldsRange}
use Rattle.recovery.specs.Rounds.{has_later}
use Rattle.recovery.proofs.applying.apply_blocks.Given as goal

abbrev pub invariant-loop-number : goal.invariant-loop-number
invariant-loop-number g l = record {
  same : g.D.Disk.past l.disk ≡ g.D.Disk.past l.fn.disk;
  long : length l.block ≡ 4096;
  upto : At (AppliesUpTo (header_said l.header) l.ring l.from l.end l.notes l.last l.round.info.space l.round.from l.round.end l.first l.number l.text.items l.fn.pool l.pool) (g.D.Disk.past l.fn.disk);
  holds : HoldsRange (has_later l.notes l.last) l.round.info.space l.round.from l.round.end l.pool;
  calls : g.D.Disk.clock l.disk + l.from ≤ g.D.Disk.clock l.fn.disk + l.number;
  room : l.number ≤ l.from + (l.end - l.from);
  faults : g.D.Disk.faults l.disk ≡ g.D.Disk.faults l.fn.disk;
  memory : g.D.Disk.memory_refusals l.disk ≡ g.D.Disk.memory_refusals l.fn.disk;
  later : g.D.Disk.is_later l.fn.disk l.disk;
}

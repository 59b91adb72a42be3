use Rattle.std.proofs.Common.{◌≡◌, ◌+◌, ◌-◌, ◌≤◌, length}
use Rattle.disk_model.specs.Past.{At}
use Rattle.recovery.specs.Loading.{HoldsHomes, HoldsRange}
use Rattle.recovery.specs.Rounds.{count_in, has_later}
use Rattle.recovery.proofs.loading.load_pages.Given as goal

abbrev pub invariant-loop-page : goal.invariant-loop-page
invariant-loop-page g l = record {
  begins : l.round.from ≤ l.page;
  holds : HoldsRange (has_later l.notes l.last) l.round.info.space l.round.from l.page l.pool;
  homes : At (HoldsHomes l.ring l.algorithm l.round.info l.notes (has_later l.notes l.last) l.round.from l.page l.pool) (g.D.Disk.past l.fn.disk);
  same : g.D.Disk.past l.disk ≡ g.D.Disk.past l.fn.disk;
  long : length l.home ≡ 16384;
  calls : g.D.Disk.clock l.disk ≤ g.D.Disk.clock l.fn.disk + count_in (has_later l.notes l.last) l.round.from (l.page - l.round.from);
  faults : g.D.Disk.faults l.disk ≡ g.D.Disk.faults l.fn.disk;
  memory : g.D.Disk.memory_refusals l.disk ≡ g.D.Disk.memory_refusals l.fn.disk;
  later : g.D.Disk.is_later l.fn.disk l.disk;
}

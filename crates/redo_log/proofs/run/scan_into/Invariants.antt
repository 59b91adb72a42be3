use Rattle.std.proofs.Common.{◌≡◌, ◌≤◌, ◌+◌, length}
use Rattle.disk_model.specs.Event.{reads}
use Rattle.disk_model.specs.Past.{At}
use Rattle.disk_model.specs.declared.names.FileName.TheVariants.{Log as LogFile}
use Rattle.ring_log.specs.Scans.{IsScanned}
use Rattle.ring_log.specs.Blocks.{block_at}
use Rattle.redo_log.specs.Blocks.{Keys, redo_form}
use Rattle.redo_log.specs.Runs.{versions_up}
use Rattle.redo_log.proofs.run.scan_into.Given as goal

abbrev pub invariant-loop-i : goal.invariant-loop-i
invariant-loop-i g l = record {
  same : g.D.Disk.past l.disk ≡ g.D.Disk.past l.fn.disk;
  size : length l.buffer ≡ 4096;
  low : l.from ≤ l.end;
  high : l.end ≤ l.from + l.i;
  count : length l.versions.items ≡ l.i;
  few : l.from + l.i ≤ l.end + 16;
  calls : g.D.Disk.clock l.disk ≤ g.D.Disk.clock l.fn.disk + l.i;
  read : At (λ es. (keys : Keys) → IsScanned l.blocks (redo_form keys) (block_at l.blocks (reads LogFile es)) l.from l.end (l.from + l.i)) (g.D.Disk.past l.fn.disk);
  named : At (λ es. l.versions.items ≡ versions_up (block_at l.blocks (reads LogFile es)) l.from l.i) (g.D.Disk.past l.fn.disk);
  faults : g.D.Disk.faults l.disk ≡ g.D.Disk.faults l.fn.disk;
  memory_refusals : g.D.Disk.memory_refusals l.disk ≡ g.D.Disk.memory_refusals l.fn.disk;
  later : g.D.Disk.is_later l.fn.disk l.disk;
}

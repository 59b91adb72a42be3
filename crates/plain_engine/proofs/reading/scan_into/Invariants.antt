use Rattle.std.proofs.Common.{◌≡◌, ◌≤◌, length}
use Rattle.disk_model.specs.Event.{reads}
use Rattle.disk_model.specs.Past.{At}
use Rattle.disk_model.specs.declared.names.FileName.TheVariants.{Log}
use Rattle.plain_engine.proofs.BlocksRead.{HasTexts}
use Rattle.plain_engine.proofs.reading.scan_into.Given as goal

abbrev pub invariant-loop-i : goal.invariant-loop-i
invariant-loop-i g l = record {
  same : g.D.Disk.past l.disk ≡ g.D.Disk.past l.fn.disk;
  count : length l.texts.items ≡ l.i;
  texts : At (λ es. HasTexts 2 (reads Log es) l.texts.items) (g.D.Disk.past l.fn.disk);
  faults : g.D.Disk.faults l.fn.disk ≤ g.D.Disk.faults l.disk;
  later : g.D.Disk.is_later l.fn.disk l.disk;
}

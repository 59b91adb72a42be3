use Rattle.std.proofs.Common.{◌≡◌, ◌-◌, ◌≤◌}
use Rattle.disk_model.specs.Past.{At, Throughout}
use Rattle.plain_engine.specs.Turns.{turns_after}
use Rattle.plain_engine.specs.Layer.{LogReady, PlainMoment}
use Rattle.plain_engine.proofs.log.write_pending.Given as goal

abbrev pub invariant-loop-i : goal.invariant-loop-i
invariant-loop-i g l = record {
  ready : At (LogReady l.log.blocks.items l.log.settled l.i l.log.acked) (g.D.Disk.past l.disk);
  moments : Throughout (PlainMoment l.log.blocks.items l.log.settled l.log.acked) (g.D.Disk.past l.fn.disk) (g.D.Disk.past l.disk);
  turns : l.turns ≡ turns_after l.fn.turns (l.i - l.log.settled);
  faults : g.D.Disk.faults l.fn.disk ≤ g.D.Disk.faults l.disk;
  memory_refusals : g.D.Disk.memory_refusals l.fn.disk ≤ g.D.Disk.memory_refusals l.disk;
  later : g.D.Disk.is_later l.fn.disk l.disk;
}

use Rattle.std.proofs.Common.{◌≡◌, length}
use Rattle.log_drill.proofs.reading.has_blocks.Given as goal

abbrev pub invariant-loop-n : goal.invariant-loop-n
invariant-loop-n g l = (g.D.Disk.past l.disk ≡ g.D.Disk.past l.fn.disk) × (length l.buffer ≡ 4096)

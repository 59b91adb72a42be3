use Rattle.std.proofs.Common.{◌≡◌, ◌+◌, length}
use Rattle.script_core.specs.Words.{script_lines}
use Rattle.script_core.proofs.ReadingLemmas.{GoesOn}
use Rattle.script_core.proofs.reading.read_script.Given as goal

abbrev pub invariant-loop-line : goal.invariant-loop-line
invariant-loop-line l = record {
  count : l.number + length l.lines ≡ length (script_lines l.bytes);
  goes : GoesOn l.number l.batches.out l.lines (script_lines l.bytes) l.statements.items;
}

abbrev pub decreases-loop-line : goal.decreases-loop-line
decreases-loop-line l = length l.lines

use Rattle.std.proofs.Common.{◌≡◌, ◌≤◌, take, drop, length}
use Rattle.keyd_cli.specs.Schedule.{schedule_lines}
use Rattle.keyd_cli.specs.Reads.{ReadsLines, mtr_count}
use Rattle.keyd_cli.proofs.schedule.read_schedule.Given as goal

abbrev pub invariant-loop-line : goal.invariant-loop-line
invariant-loop-line l = record {
  left : l.lines ≡ drop l.number (schedule_lines l.text);
  low : l.number ≤ length (schedule_lines l.text);
  reads : ReadsLines l.plan.space l.plan.pages (take l.number (schedule_lines l.text)) l.statements.items;
  count : l.mtrs ≡ mtr_count l.statements.items;
  room : l.mtrs ≤ 256;
}

abbrev pub decreases-loop-line : goal.decreases-loop-line
decreases-loop-line l = length l.lines

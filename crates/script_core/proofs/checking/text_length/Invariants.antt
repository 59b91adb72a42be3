use Rattle.std.proofs.Common.{◌≡◌, ◌+◌, ◌*◌, ◌^◌, ◌≤◌, drop, length}
use Rattle.script_core.specs.Checks.{log_text}
use Rattle.script_core.proofs.checking.text_length.Given as goal

abbrev pub invariant-loop-change : goal.invariant-loop-change
invariant-loop-change l = record {
  sum : l.sum + length (log_text (drop l.change-index l.changes)) ≡ length (log_text l.changes);
  small : l.sum ≤ l.change-index * 2 ^ 65;
}

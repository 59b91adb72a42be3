use Rattle.std.proofs.Common.{◌≡◌, take}
use Rattle.script_core.proofs.script.copy_statements.Given as goal

abbrev pub invariant-loop-statement : goal.invariant-loop-statement
invariant-loop-statement l = l.copy.items ≡ take l.statement-index l.statements

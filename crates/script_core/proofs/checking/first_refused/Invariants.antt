use Rattle.std.proofs.Common.{◌≡◌, drop}
use Rattle.script_core.specs.Checks.{first_found, refused_at}
use Rattle.script_core.proofs.checking.first_refused.Given as goal

abbrev pub invariant-loop-statement : goal.invariant-loop-statement
invariant-loop-statement l = first_found (refused_at l.spaces l.running) (drop l.statement-index l.statements) ≡ first_found (refused_at l.spaces l.running) l.statements

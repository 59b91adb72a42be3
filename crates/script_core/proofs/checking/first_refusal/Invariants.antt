use Rattle.std.proofs.Common.{◌≡◌, drop}
use Rattle.script_core.specs.Checks.{first_found, change_refusal}
use Rattle.script_core.proofs.checking.first_refusal.Given as goal

abbrev pub invariant-loop-change : goal.invariant-loop-change
invariant-loop-change l = first_found (change_refusal l.spaces l.check) (drop l.change-index l.changes) ≡ first_found (change_refusal l.spaces l.check) l.changes

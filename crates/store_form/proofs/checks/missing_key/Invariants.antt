use Rattle.std.proofs.Common.{◌≡◌, drop}
use Rattle.store_form.proofs.KeyChecks.{missing_after}
use Rattle.store_form.specs.Plan.{lesser_missing}
use Rattle.std.specs.Prelude.{None}
use Rattle.store_form.proofs.checks.missing_key.Given as goal

abbrev pub invariant-loop-i : goal.invariant-loop-i
invariant-loop-i l = missing_after l.ring l.active l.least (drop l.i l.plans) ≡ missing_after l.ring l.active (lesser_missing l.ring l.active None 1) l.plans

use Rattle.std.proofs.Common.{◌≡◌, drop, map}
use Rattle.std.specs.Prelude.{None}
use Rattle.store_form.specs.Plan.{lesser_missing}
use Rattle.store_form.proofs.KeyChecks.{missing_after}
use Rattle.session_core.specs.Keys.{planned}
use Rattle.session_core.proofs.missing.first_lacking.Given as goal

abbrev pub invariant-loop-info : goal.invariant-loop-info
invariant-loop-info l = missing_after l.ring l.version l.least (map planned (drop l.info-index l.spaces)) ≡ missing_after l.ring l.version (lesser_missing l.ring l.version None 1) (map planned l.spaces)

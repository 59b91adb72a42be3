use Rattle.std.proofs.Common.{◌≡◌, ◌++◌, drop}
use Rattle.store_form.specs.Plan.{homes_made}
use Rattle.store_form.proofs.drawing.homes_of.Given as goal

abbrev pub invariant-loop-i : goal.invariant-loop-i
invariant-loop-i l = l.homes.items ++ homes_made (drop l.i l.spaces) ≡ homes_made l.spaces

use Rattle.std.proofs.Common.{◌≡◌, ◌-◌, ◌≤◌, map, drop, length, string_bytes}
use Rattle.keyd_cli.specs.Plan.{value_in}
use Rattle.keyd_cli.proofs.plan.value_of.Given as goal

abbrev pub invariant-loop-at : goal.invariant-loop-at
invariant-loop-at l = record { same : value_in l.flag (drop l.at (map string_bytes l.options)) ≡ value_in l.flag (map string_bytes l.options); low : l.at ≤ length l.options }

abbrev pub decreases-loop-at : goal.decreases-loop-at
decreases-loop-at l = length l.options - l.at

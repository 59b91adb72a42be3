use Rattle.std.proofs.Common.{◌≡◌, ◌≤◌, ◌-◌, ◌++◌, map, drop, length, string_bytes}
use Rattle.keyd_cli.specs.declared.words.Flag.TheVariants.{KeyFile}
use Rattle.keyd_cli.specs.Keys.{values_of}
use Rattle.keyd_cli.proofs.keys.names_in.Given as goal

abbrev pub invariant-loop-at : goal.invariant-loop-at
invariant-loop-at l = record { same : map string_bytes l.names.items ++ values_of KeyFile (drop l.at (map string_bytes l.options)) ≡ values_of KeyFile (map string_bytes l.options); low : l.at ≤ length l.options }

abbrev pub decreases-loop-at : goal.decreases-loop-at
decreases-loop-at l = length l.options - l.at

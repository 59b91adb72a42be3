use Rattle.std.proofs.Common.{◌≤◌, ◌-◌, map, take, length, string_bytes}
use Rattle.keyd_cli.specs.Words.{AreOptions}
use Rattle.keyd_cli.proofs.words.check_options.Given as goal

abbrev pub invariant-loop-at : goal.invariant-loop-at
invariant-loop-at l = record { are : AreOptions (take l.at (map string_bytes l.options)); low : l.at ≤ length l.options }

abbrev pub decreases-loop-at : goal.decreases-loop-at
decreases-loop-at l = length l.options - l.at

use Rattle.std.proofs.Common.{◌≡◌, ◌≤◌, map, take, string_bytes}
use Rattle.keyd_cli.specs.Words.{occurrences}
use Rattle.keyd_cli.proofs.words.times_of.Given as goal

abbrev pub invariant-loop-i : goal.invariant-loop-i
invariant-loop-i l = record { count : l.count ≡ occurrences l.flag (take l.i (map string_bytes l.options)); low : l.count ≤ l.i }

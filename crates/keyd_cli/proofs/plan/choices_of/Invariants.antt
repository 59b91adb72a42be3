use Rattle.std.proofs.Common.{◌≡◌, map, take}
use Rattle.keyd_cli.specs.Printed.{letter_of}
use Rattle.keyd_cli.proofs.plan.choices_of.Given as goal

abbrev pub invariant-loop-letter : goal.invariant-loop-letter
invariant-loop-letter l = map letter_of l.choices.items ≡ take l.letter-index l.letter-items

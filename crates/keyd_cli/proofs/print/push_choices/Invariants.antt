use Rattle.std.proofs.Common.{◌≡◌, ◌++◌, map, take}
use Rattle.keyd_cli.specs.Printed.{letter_of}
use Rattle.keyd_cli.proofs.print.push_choices.Given as goal

abbrev pub invariant-loop-choice : goal.invariant-loop-choice
invariant-loop-choice l = l.text.items ≡ l.fn.text.items ++ map letter_of (take l.choice-index l.choices)

use Rattle.std.proofs.Common.{◌≡◌, map, take}
use Rattle.keyd_words.specs.Values.{choice_letter}
use Rattle.keyd_words.proofs.value.choices_of.Given as goal

abbrev pub invariant-loop-letter : goal.invariant-loop-letter
invariant-loop-letter l = map choice_letter l.choices.items ≡ take l.letter-index l.word

use Rattle.std.proofs.Common.{◌≡◌, ℕ, ◌<◌, get_or}
use Rattle.keyd_words.specs.Table.{row_of}
use Rattle.keyd_words.specs.declared.table.OptionName.{OptionName}
use Rattle.keyd_words.proofs.table.OptionName.named.Given as goal

abbrev pub invariant-loop-name : goal.invariant-loop-name
invariant-loop-name l = (k : ℕ) (d : OptionName) → k < l.name-index → l.word ≡ (row_of (get_or l.name-items k d)).word → ⊥

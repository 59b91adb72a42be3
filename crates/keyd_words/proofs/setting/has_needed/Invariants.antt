use Rattle.std.proofs.Common.{◌≡◌, ◌≤◌, ℕ, ◌<◌, true, get_or}
use Rattle.keyd_words.specs.Table.{needs}
use Rattle.keyd_words.specs.Settings.{times_in}
use Rattle.keyd_words.specs.declared.table.OptionName.{OptionName}
use Rattle.keyd_words.proofs.setting.has_needed.Given as goal

abbrev pub invariant-loop-name : goal.invariant-loop-name
invariant-loop-name l = (k : ℕ) (d : OptionName) → k < l.name-index → needs (get_or l.name-items k d) l.command ≡ true → 1 ≤ times_in (get_or l.name-items k d) l.names

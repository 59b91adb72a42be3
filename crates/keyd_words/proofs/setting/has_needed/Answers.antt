use Rattle.std.proofs.Common.{◌≡◌, ◌≤◌, arith, true, rules}
use Rattle.keyd_words.specs.Table.{needs}
use Rattle.keyd_words.specs.Settings.{times_in}
use Rattle.keyd_words.specs.declared.table.OptionName.{OptionName}
use Rattle.keyd_words.proofs.TableLemmas.{each_name}
use Rattle.keyd_words.proofs.setting.has_needed.Goals as goal

pub returns : goal.returns
returns c =
    let Stands : OptionName → Type 0 = λ f. needs f c.args.command ≡ true → 1 ≤ times_in f c.args.names.now in
    ((λ e. each_name Stands c.loop-name.name-index (omega (arith, c.loop-name-test.false)) c.loop-name.invariant), (λ has. search rules))

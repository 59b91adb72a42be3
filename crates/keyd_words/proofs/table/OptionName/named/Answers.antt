use Rattle.std.proofs.Common.{◌≡◌, arith}
use Rattle.keyd_words.specs.Table.{row_of}
use Rattle.keyd_words.specs.declared.table.OptionName.{OptionName}
use Rattle.keyd_words.proofs.TableLemmas.{each_name}
use Rattle.keyd_words.proofs.table.OptionName.named.Goals as goal

pub returns : goal.returns
returns c =
    let Other : OptionName → Type 0 = λ f. c.args.word.now ≡ (row_of f).word → ⊥ in
    each_name Other c.loop-name.name-index (omega (arith, c.loop-name-test.false)) c.loop-name.invariant

use Rattle.std.proofs.Common.{rules, ◌≡◌, [], get_or, Contains, sym, ◌∙◌, subst, ap}
use Rattle.keyd_words.specs.Table.{command_word}
use Rattle.keyd_words.proofs.TableLemmas.{command_word-injective}
use Rattle.keyd_words.proofs.reading.command_in.Goals as goal

pub returns-then-not-is_built : goal.returns-then-not-is_built
returns-then-not-is_built c d known starts =
    let named : command_word d ≡ command_word c.in_ok-command.command =
    sym (ap (λ ws. get_or ws 0 []) starts.1) ∙ c.in_ok-word_at.ensures.1 ∙ c.in_ok-command.ensures in
    let same = command_word-injective d c.in_ok-command.command named in
    let there : Contains c.args.built.now c.in_ok-command.command = subst (Contains c.args.built.now) same known in
    search (rules, c.is_built.ensures.1 there, c.if-not-is_built.true)

use Rattle.std.proofs.Common.{rules, ◌≡◌, sym, ◌∙◌, subst}
use Rattle.keyd_words.specs.Settings.{MayStand}
use Rattle.keyd_words.proofs.TableLemmas.{word-injective}
use Rattle.keyd_words.proofs.setting.option_at.Goals as goal

pub returns-then-not-has_room : goal.returns-then-not-has_room
returns-then-not-has_room c f named room =
    let same : f ≡ c.in_ok-name.name = word-injective f c.in_ok-name.name (sym named ∙ c.in_ok-name.ensures) in
    let there = subst (MayStand c.args.command c.args.names.now c.args.spaces.now) same room in
    search (rules, c.has_room.ensures.1 there, c.if-not-has_room.true)

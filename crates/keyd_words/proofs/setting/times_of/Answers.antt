use Rattle.std.proofs.Common.{rules, ◌≡◌, ◌≢◌, ◌+◌, take, get_or, arith, ◌∙◌, ap, [], ◌∷◌}
use Rattle.std.proofs.lemmas.List.{take_more}
use Rattle.keyd_words.specs.declared.table.OptionName.{OptionName}
use Rattle.keyd_words.specs.declared.table.OptionName.TheVariants.{KeyFile}
use Rattle.keyd_words.specs.Settings.{times_in}
use Rattle.keyd_words.proofs.SettingLemmas.{times_in-append, times_is, times_not}
use Rattle.keyd_words.proofs.setting.times_of.Goals as goal
use Rattle.keyd_words.proofs.setting.times_of.Goals.{then-is, else-is}

pub loop-other-preserved : goal.loop-other-preserved
loop-other-preserved c =
    let names = c.args.names.now in
    let i = c.loop-other.other-index in
    let f = c.args.name in
    let item : OptionName = get_or names i KeyFile in
    let step : times_in f (take (i + 1) names) ≡ times_in f (take i names) + times_in f (item ∷ []) =
    ap (times_in f) (take_more names i KeyFile c.loop-other-test.true) ∙ times_in-append f (take i names) (item ∷ []) in
    elim c.if-is.branch [
      | then-is w ↦ let same : item ≡ f = search (rules, c.is.ensures, w.if-is.true) in
          record { count = omega (arith, step, times_is f item same, w.count-is, c.loop-other.invariant.count); low = omega (arith, w.count-is, c.loop-other.invariant.low) }
      | else-is w ↦ let other : item ≢ f = search (rules, c.is.ensures, w.if-is.false) in
          record { count = omega (arith, step, times_not f item other, w.count-is, c.loop-other.invariant.count); low = omega (arith, w.count-is, c.loop-other.invariant.low) }
    ]

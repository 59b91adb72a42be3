use Rattle.std.proofs.Common.{ap₂, ◌∙◌}
use Rattle.std.proofs.lemmas.Result.{IfOk-weaker}
use Rattle.clap.specs.Words.{with_rule}
use Rattle.innochecksum_cli.proofs.words.command.Goals as goal

pub returns : goal.returns
returns c =
    let one = c.in_ok-arg.ensures.shape c.flag-count.ensures.local ∙ ap₂ with_rule c.bare.ensures c.flag-count.ensures.rule in
    let two = c.in_ok-arg-2.ensures.shape c.number-start.ensures.local ∙ ap₂ with_rule one c.number-start.ensures.rule in
    let three = c.in_ok-arg-3.ensures.shape c.number-end.ensures.local ∙ ap₂ with_rule two c.number-end.ensures.rule in
    let four = c.in_ok-arg-4.ensures.shape c.number-page.ensures.local ∙ ap₂ with_rule three c.number-page.ensures.rule in
    let five = c.in_ok-arg-5.ensures.shape c.allowance.ensures.local ∙ ap₂ with_rule four c.allowance.ensures.rule in
    let six = c.in_ok-arg-6.ensures.shape c.flag-summary.ensures.local ∙ ap₂ with_rule five c.flag-summary.ensures.rule in
    IfOk-weaker c.arg-7.result _ _ (λ r adds. adds.shape c.file.ensures.local ∙ ap₂ with_rule six c.file.ensures.rule) c.arg-7.ensures

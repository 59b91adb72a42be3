use Rattle.std.proofs.Common.{ap₂, ◌∙◌}
use Rattle.std.proofs.lemmas.Result.{IfOk-weaker}
use Rattle.clap.specs.Words.{with_rule}
use Rattle.binlog_cli.proofs.words.command.Goals as goal

pub returns : goal.returns
returns c =
    let one = c.in_ok-arg.ensures.shape c.key_files.ensures.local ∙ ap₂ with_rule c.bare.ensures c.key_files.ensures.rule in
    let two = c.in_ok-arg-2.ensures.shape c.filekey.ensures.local ∙ ap₂ with_rule one c.filekey.ensures.rule in
    let three = c.in_ok-arg-3.ensures.shape c.digest.ensures.local ∙ ap₂ with_rule two c.digest.ensures.rule in
    let four = c.in_ok-arg-4.ensures.shape c.hex.ensures.local ∙ ap₂ with_rule three c.hex.ensures.rule in
    IfOk-weaker c.arg-5.result _ _ (λ r adds. adds.shape c.log.ensures.local ∙ ap₂ with_rule four c.log.ensures.rule) c.arg-5.ensures

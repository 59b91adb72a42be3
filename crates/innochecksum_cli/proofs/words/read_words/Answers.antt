use Rattle.std.proofs.Common.{◌≡◌, map, string_bytes, IsErrAnd, rules, sym, ap, ◌∙◌}
use Rattle.clap.specs.Words.{App, app_of, fault_of, is_simple_and_free, takes}
use Rattle.innochecksum_cli.specs.Words.{file_name_of, options_of}
use Rattle.innochecksum_cli.proofs.Matches.{command_is_free, values_are}
use Rattle.innochecksum_cli.proofs.words.read_words.Goals as goal
use Rattle.cause_core.proofs.Causes.{handed}

pub returns-in_err-matches-clause-refused : goal.returns-in_err-matches-clause-refused
returns-in_err-matches-clause-refused c =
    let is_own : IsErrAnd c.from_residual-in_err-matches.result (λ e. e ≡ c.in_err-matches.field-0.0) = search rules in
    handed _ c.from_residual-in_err-matches.result c.in_err-matches.field-0.0 is_own
    (λ taken. c.in_err-matches.ensures.passes (ap (λ (a : App). takes a (map string_bytes c.args.words.now)) c.in_ok-command.ensures ∙ taken))

pub returns-clause-options : goal.returns-clause-options
returns-clause-options c =
    c.asked_by.ensures.options ∙ ap options_of (values_are c.in_ok-matches.matches (app_of c.in_ok-command.field-0) c.args.words.now c.in_ok-command.ensures c.in_ok-matches.ensures.matches)

pub returns-clause-name : goal.returns-clause-name
returns-clause-name c =
    c.asked_by.ensures.name ∙ ap file_name_of (values_are c.in_ok-matches.matches (app_of c.in_ok-command.field-0) c.args.words.now c.in_ok-command.ensures c.in_ok-matches.ensures.matches)

pub returns-clause-accepted : goal.returns-clause-accepted
returns-clause-accepted c =
    ap (λ (a : App). fault_of a (map string_bytes c.args.words.now)) (sym c.in_ok-command.ensures)
    ∙ c.in_ok-matches.ensures.kinds (ap is_simple_and_free c.in_ok-command.ensures ∙ command_is_free)

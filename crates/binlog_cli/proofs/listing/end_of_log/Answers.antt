use Rattle.std.proofs.Common.{◌++◌, IsErrAnd, rules, ap, ◌∙◌, string_bytes}
use Rattle.binlog_cli.specs.EventLines.{end_line}
use Rattle.binlog_cli.specs.Stops.{IsListStop}
use Rattle.binlog_cli.proofs.Gathered.{gathered_front, gathered_more, give_ends, stopped_by}
use Rattle.binlog_cli.proofs.listing.end_of_log.Goals as goal

pub returns-in_err-line-clause-printed : goal.returns-in_err-line-clause-printed
returns-in_err-line-clause-printed g c =
    let stop : IsErrAnd c.from_residual.result IsListStop = search rules in
    λ before front printed. stopped_by c.from_residual.result _ _ _ stop (gathered_front front (end_line c.args.length) _ before _ printed)

pub returns-in_err-push_str-clause-printed : goal.returns-in_err-push_str-clause-printed
returns-in_err-push_str-clause-printed g c =
    let stop : IsErrAnd c.from_residual-in_err-push_str.result IsListStop = search rules in
    λ before front printed. stopped_by c.from_residual-in_err-push_str.result _ _ _ stop (gathered_front front (end_line c.args.length) _ before _ printed)

pub returns-clause-printed : goal.returns-clause-printed
returns-clause-printed g c = λ before front printed.
    let more = gathered_more front (end_line c.args.length) _ (string_bytes c.push_str.new.self) before _ printed
    (c.in_ok-push_str.ensures.bytes ∙ ap (λ t. string_bytes c.args.text.now ++ t) (c.as_str.ensures.value ∙ c.in_ok-line.ensures)) in
    give_ends c.give_text.result (front ++ end_line c.args.length) _ _ before _ _ more c.as_str-2.ensures.value c.give_text.ensures.ok c.give_text.ensures.err

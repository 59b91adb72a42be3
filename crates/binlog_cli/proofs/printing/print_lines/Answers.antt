use Rattle.std.proofs.Common.{◌≡◌, ◌++◌, IsErrAnd, rules, sym, subst, string_bytes}
use Rattle.binlog_cli.specs.Printed.{IsPrinted}
use Rattle.binlog_cli.specs.Stops.{IsListStop}
use Rattle.binlog_cli.proofs.FirstStops.{handed_still}
use Rattle.binlog_cli.proofs.Gathered.{gathered_front, gathered_given, gathered_more, gathered_none, gathered_whole, stopped_by}
use Rattle.binlog_cli.proofs.printing.print_lines.Goals as goal

pub returns-in_err-push_str-clause-printed : goal.returns-in_err-push_str-clause-printed
returns-in_err-push_str-clause-printed g c =
    let stop : IsErrAnd c.from_residual.result IsListStop = search rules in
    λ before front printed. stopped_by c.from_residual.result _ _ _ stop (gathered_front front c.args.lines.now _ before _ printed)

pub returns-in_err-give_text-clause-printed : goal.returns-in_err-give_text-clause-printed
returns-in_err-give_text-clause-printed g c =
    let stop : IsErrAnd c.from_residual-in_err-give_text.result IsListStop = search rules in
    λ before front printed.
    let more = gathered_more front c.args.lines.now _ (string_bytes c.push_str.new.self) before _ printed c.in_ok-push_str.ensures.bytes in
    stopped_by c.from_residual-in_err-give_text.result _ _ _ stop
    (gathered_given (front ++ c.args.lines.now) _ c.as_str.result.now before _ _ more c.as_str.ensures.value c.in_err-give_text.ensures.err)

pub returns-clause-printed : goal.returns-clause-printed
returns-clause-printed g c = λ before front printed.
    let more = gathered_more front c.args.lines.now _ (string_bytes c.push_str.new.self) before _ printed c.in_ok-push_str.ensures.bytes in
    let given = gathered_whole (front ++ c.args.lines.now) _ c.as_str.result.now before _ _ more c.as_str.ensures.value c.in_ok-give_text.ensures.ok in
    subst (IsPrinted (front ++ c.args.lines.now) before _) (sym c.clear.ensures.bytes) (gathered_none (front ++ c.args.lines.now) before _ given)

pub returns-in_err-give_text-clause-no_out_fault : goal.returns-in_err-give_text-clause-no_out_fault
returns-in_err-give_text-clause-no_out_fault g c =
    let own : IsErrAnd c.from_residual-in_err-give_text.result (λ s. s ≡ c.in_err-give_text.field-0.0) = search rules in
    λ other. handed_still c.from_residual-in_err-give_text.result _ own c.in_err-give_text.ensures.no_out_fault other

use Rattle.std.proofs.Common.{◌≡◌, ◌/◌, ◌%◌, ℕ, Bool, List, length, cond, IsErrAnd, sym, ap, subst, ◌∙◌, arith, rules}
use Rattle.innochecksum_cli.specs.Pages.{whole_pages}
use Rattle.innochecksum_cli.specs.Lines.{pages_line}
use Rattle.innochecksum_cli.specs.Stops.{IsOutsideStatus, status_of}
use Rattle.innochecksum_cli.specs.Inspection.{Agrees, refused, report_of, selected, sized_report}
use Rattle.innochecksum_cli.specs.declared.status.CheckStatus.{CheckStatus}
use Rattle.innochecksum_cli.specs.declared.status.CheckStatus.TheVariants.{Done, Short, Truncated}
use Rattle.innochecksum_cli.proofs.WholeReports.{agrees_same, ending_given, ending_partly, give_agrees, looked_partly, sized_count, sized_pages, sized_short, status_is, stopped_status}
use Rattle.innochecksum_cli.proofs.inspection.inspect_pages.Goals as goal
use Rattle.io_core.proofs.Streams.{extended-nil}

pub returns-then-bytes-size-clause-answer : goal.returns-then-bytes-size-clause-answer
returns-then-bytes-size-clause-answer g c = record {
  here = λ fs file is found same.
      let size = length c.args.page.now in
      agrees_same (sized_report c.args.options.now file size) (refused (Short (length file))) (g.K.Sink.given c.args.out.now) (g.K.Sink.given c.args.out.now) (Short c.args.bytes)
      (sized_short c.args.options.now file size (omega (arith, c.if-bytes-size.true, same)))
      (ap Short same, extended-nil (g.K.Sink.given c.args.out.now));
}

pub returns-then-options-clause-answer : goal.returns-then-options-clause-answer
returns-then-options-clause-answer g c = record {
  here = λ fs file is found same.
      let size = length c.args.page.now in
      let text : c.as_str.result.now ≡ pages_line (length file / size) =
      c.as_str.ensures.value ∙ c.in_ok-line.ensures ∙ ap (λ (b : ℕ). pages_line (b / size)) same in
      agrees_same (sized_report c.args.options.now file size) (record { text = pages_line (length file / size); status = Done }) _ _ (status_of c.give.result)
      (sized_count c.args.options.now file size (omega (arith, c.if-bytes-size.false, same)) c.if-options.true)
      (subst (λ (t : List ℕ). Agrees (record { text = t; status = Done }) (g.K.Sink.given c.args.out.now) (g.K.Sink.given c.give.new.out) (status_of c.give.result)) text
      (give_agrees c.give.result c.as_str.result.now _ _ c.give.ensures.ok c.give.ensures.err c.give.ensures.stop));
}

pub returns-in_err-looked-clause-answer : goal.returns-in_err-looked-clause-answer
returns-in_err-looked-clause-answer g c =
    let is_own : IsErrAnd c.from_residual-in_err-looked.result (λ s. s ≡ c.in_err-looked.field-0.0) = search rules in
    record {
      here = λ fs file is found same.
          let size = length c.args.page.now in
          let o = c.args.options.now in
          let r = report_of o (selected o (whole_pages size file)) (length file / size) (length file % size) in
          agrees_same (sized_report o file size) r _ _ (status_of c.from_residual-in_err-looked.result)
          (sized_pages o file size (omega (arith, c.if-bytes-size.false, same)) c.if-options.false)
          (subst (λ (s : CheckStatus). Agrees r (g.K.Sink.given c.args.out.now) (g.K.Sink.given c.look.new.out) s) (sym (status_is c.from_residual-in_err-looked.result c.in_err-looked.field-0.0 is_own))
          (c.in_err-looked.ensures.answer.here fs file is found same));
    }

pub returns-in_err-text-clause-answer : goal.returns-in_err-text-clause-answer
returns-in_err-text-clause-answer g c =
    let stop : IsErrAnd c.from_residual-in_err-text.result IsOutsideStatus = search rules in
    record {
      here = λ fs file is found same.
          let size = length c.args.page.now in
          let o = c.args.options.now in
          let pages = selected o (whole_pages size file) in
          let r = report_of o pages (length file / size) (length file % size) in
          agrees_same (sized_report o file size) r _ _ (status_of c.from_residual-in_err-text.result)
          (sized_pages o file size (omega (arith, c.if-bytes-size.false, same)) c.if-options.false)
          (stopped_status c.from_residual-in_err-text.result r _ _ stop
          (looked_partly o pages (length file / size) (length file % size) _ _ c.in_ok-looked.looked (c.in_ok-looked.ensures.answer.here fs file is found same)));
    }

pub returns-in_err-give-clause-answer : goal.returns-in_err-give-clause-answer
returns-in_err-give-clause-answer g c =
    let stop : IsErrAnd c.from_residual-in_err-give.result IsOutsideStatus = search rules in
    record {
      here = λ fs file is found same.
          let size = length c.args.page.now in
          let o = c.args.options.now in
          let pages = selected o (whole_pages size file) in
          let r = report_of o pages (length file / size) (length file % size) in
          let looked = c.in_ok-looked.ensures.answer.here fs file is found same in
          agrees_same (sized_report o file size) r _ _ (status_of c.from_residual-in_err-give.result)
          (sized_pages o file size (omega (arith, c.if-bytes-size.false, same)) c.if-options.false)
          (stopped_status c.from_residual-in_err-give.result r _ _ stop
          (ending_partly o pages (length file / size) (length file % size) _ _ _ c.in_ok-looked.looked c.as_str-2.result.now looked
          (c.as_str-2.ensures.value ∙ c.in_ok-text.ensures pages looked.tally) c.in_err-give.ensures.err));
    }

pub returns-then-is_cut-clause-answer : goal.returns-then-is_cut-clause-answer
returns-then-is_cut-clause-answer g c = record {
  here = λ fs file is found same.
      let size = length c.args.page.now in
      let o = c.args.options.now in
      let pages = selected o (whole_pages size file) in
      let r = report_of o pages (length file / size) (length file % size) in
      let looked = c.in_ok-looked.ensures.answer.here fs file is found same in
      agrees_same (sized_report o file size) r _ _ Truncated
      (sized_pages o file size (omega (arith, c.if-bytes-size.false, same)) c.if-options.false)
      (ending_given o pages (length file / size) (length file % size) _ _ _ c.in_ok-looked.looked c.as_str-2.result.now Truncated looked
      (c.as_str-2.ensures.value ∙ c.in_ok-text.ensures pages looked.tally) c.in_ok-give.ensures.ok (sym (ap (λ (b : Bool). cond b Truncated Done) (sym c.is_cut.ensures ∙ c.if-is_cut.true))));
}

pub returns-clause-answer : goal.returns-clause-answer
returns-clause-answer g c = record {
  here = λ fs file is found same.
      let size = length c.args.page.now in
      let o = c.args.options.now in
      let pages = selected o (whole_pages size file) in
      let r = report_of o pages (length file / size) (length file % size) in
      let looked = c.in_ok-looked.ensures.answer.here fs file is found same in
      agrees_same (sized_report o file size) r _ _ Done
      (sized_pages o file size (omega (arith, c.if-bytes-size.false, same)) c.if-options.false)
      (ending_given o pages (length file / size) (length file % size) _ _ _ c.in_ok-looked.looked c.as_str-2.result.now Done looked
      (c.as_str-2.ensures.value ∙ c.in_ok-text.ensures pages looked.tally) c.in_ok-give.ensures.ok (sym (ap (λ (b : Bool). cond b Truncated Done) (sym c.is_cut.ensures ∙ c.if-is_cut.false))));
}

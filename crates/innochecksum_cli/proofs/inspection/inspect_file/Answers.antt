use Rattle.std.proofs.Common.{◌≡◌, ◌≤◌, length, IsErrAnd, sym, subst, ◌∙◌, arith, rules}
use Rattle.std.proofs.lemmas.Grind.{common_steps}
use Rattle.innochecksum_cli.specs.Stops.{status_of}
use Rattle.innochecksum_cli.specs.Inspection.{Agrees, inspected}
use Rattle.innochecksum_cli.specs.declared.status.CheckStatus.{CheckStatus}
use Rattle.innochecksum_cli.proofs.WholeReports.{length_agrees, short_agrees, size_agrees, sized_agrees, status_is}
use Rattle.innochecksum_cli.proofs.inspection.inspect_file.Goals as goal

pub returns-in_err-bytes-clause-answer : goal.returns-in_err-bytes-clause-answer
returns-in_err-bytes-clause-answer g c =
    let is_own : IsErrAnd c.from_residual.result (λ s. s ≡ c.in_err-bytes.field-0.0) = search rules in
    record {
      here = λ fs is.
          subst (λ (s : CheckStatus). Agrees (inspected c.args.options.now (fs c.args.name.now)) (g.K.Sink.given c.args.out.now) (g.K.Sink.given c.args.out.now) s)
          (sym (status_is c.from_residual.result c.in_err-bytes.field-0.0 is_own))
          (length_agrees c.args.options.now (fs c.args.name.now) c.in_err-bytes.field-0.0 (g.K.Sink.given c.args.out.now) (c.in_err-bytes.ensures.answer.here fs is));
    }

pub returns-then-bytes-clause-answer : goal.returns-then-bytes-clause-answer
returns-then-bytes-clause-answer g c = record {
  here = λ fs is.
      let file = c.in_ok-bytes.ensures.answer.here fs is in
      short_agrees c.args.options.now (fs c.args.name.now) file.0 c.in_ok-bytes.bytes (g.K.Sink.given c.args.out.now) file.1 file.2 c.if-bytes.true;
}

pub returns-in_err-size-clause-answer : goal.returns-in_err-size-clause-answer
returns-in_err-size-clause-answer g c =
    let is_own : IsErrAnd c.from_residual-in_err-size.result (λ s. s ≡ c.in_err-size.field-0.0) = search rules in
    record {
      here = λ fs is.
          let file = c.in_ok-bytes.ensures.answer.here fs is in
          let fits : 4096 ≤ length file.0 = omega (arith, file.2, c.if-bytes.false) in
          subst (λ (s : CheckStatus). Agrees (inspected c.args.options.now (fs c.args.name.now)) (g.K.Sink.given c.args.out.now) (g.K.Sink.given c.args.out.now) s)
          (sym (status_is c.from_residual-in_err-size.result c.in_err-size.field-0.0 is_own))
          (size_agrees c.args.options.now (fs c.args.name.now) file.0 c.in_err-size.field-0.0 (g.K.Sink.given c.args.out.now) file.1 fits
          (c.in_err-size.ensures.answer.here fs file.0 (c.in_ok-bytes.ensures.same ∙ is) file.1 fits));
    }

pub returns-clause-answer : goal.returns-clause-answer
returns-clause-answer g c = record {
  here = λ fs is.
      let file = c.in_ok-bytes.ensures.answer.here fs is in
      let fits : 4096 ≤ length file.0 = omega (arith, file.2, c.if-bytes.false) in
      let named = c.in_ok-size.ensures.answer.here fs file.0 (c.in_ok-bytes.ensures.same ∙ is) file.1 fits in
      let agrees = c.inspect_pages.ensures.answer.here fs file.0 (c.in_ok-size.ensures.same ∙ (c.in_ok-bytes.ensures.same ∙ is)) file.1 file.2 in
      sized_agrees c.args.options.now (fs c.args.name.now) file.0 c.in_ok-size.size _ _ _ (status_of c.inspect_pages.result) file.1 fits named (grind (arith, common_steps, c.in_ok-size.ensures.one_of_five)) agrees;
}

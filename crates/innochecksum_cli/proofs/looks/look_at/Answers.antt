use Rattle.std.proofs.Common.{◌≡◌, ℕ, List, ap, subst, ◌∙◌}
use Rattle.io_core.specs.Stream.{IsPartlyGiven, extended}
use Rattle.innochecksum_cli.specs.Lines.{line_of_page}
use Rattle.innochecksum_cli.proofs.StateLemmas.{bad_line, no_line}
use Rattle.innochecksum_cli.proofs.Fronts.{at_err, none_given}
use Rattle.innochecksum_cli.proofs.looks.look_at.Goals as goal
use Rattle.io_core.proofs.Streams.{extended-nil}

pub returns-in_err-line-clause-err : goal.returns-in_err-line-clause-err
returns-in_err-line-clause-err g c = at_err _ _ (none_given _ _)

pub returns-in_err-give-clause-err : goal.returns-in_err-give-clause-err
returns-in_err-give-clause-err g c =
    let text : c.as_str.result.now ≡ line_of_page (record { number = c.args.number; bytes = c.args.page.now }) =
    c.as_str.ensures.value ∙ c.in_ok-line.ensures ∙ bad_line c.args.page.now c.args.number c.in-Bad.stored c.in-Bad.computed c.in-Bad.ensures in
    at_err _ _ (subst (λ (t : List ℕ). IsPartlyGiven t (g.K.Sink.given c.args.out.now) (g.K.Sink.given c.give.new.out)) text c.in_err-give.ensures.err)

pub returns-in_ok-give-clause-ok : goal.returns-in_ok-give-clause-ok
returns-in_ok-give-clause-ok g c =
    let text : c.as_str.result.now ≡ line_of_page (record { number = c.args.number; bytes = c.args.page.now }) =
    c.as_str.ensures.value ∙ c.in_ok-line.ensures ∙ bad_line c.args.page.now c.args.number c.in-Bad.stored c.in-Bad.computed c.in-Bad.ensures in
    c.in_ok-give.ensures.ok ∙ ap (λ (t : List ℕ). extended t (g.K.Sink.given c.args.out.now)) text

pub returns-in_default-clause-ok : goal.returns-in_default-clause-ok
returns-in_default-clause-ok g c =
    extended-nil (g.K.Sink.given c.args.out.now)
    ∙ ap (λ (t : List ℕ). extended t (g.K.Sink.given c.args.out.now)) (no_line c.args.page.now c.args.number c.check-state.result c.check-state.ensures c.in_default.not-Bad)

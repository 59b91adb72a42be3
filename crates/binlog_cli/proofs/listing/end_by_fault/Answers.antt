use Rattle.std.proofs.Common.{Err, refl, sym, ap, subst, inl, inr, ◌∙◌}
use Rattle.binlog_cli.specs.Stops.{IsListStop}
use Rattle.binlog_cli.proofs.FirstStops.{file_first, first_answer, first_cause, first_still, first_stops}
use Rattle.binlog_cli.proofs.Gathered.{gathered_given}
use Rattle.binlog_cli.proofs.listing.end_by_fault.Goals as goal

pub returns-in-Err-clause-printed : goal.returns-in-Err-clause-printed
returns-in-Err-clause-printed g c =
    λ before front printed. inr (
      subst IsListStop (sym c.first_stop.ensures) (first_stops c.args.fault c.in-Err.stop c.in-Err.ensures.stop),
      gathered_given front _ c.args.text.now before _ _ printed refl c.in-Err.ensures.err,
    )

pub returns-in-Err-clause-answer : goal.returns-in-Err-clause-answer
returns-in-Err-clause-answer g c =
    first_answer c.args.fault c.in-Err.stop c.first_stop.result c.args.reached.now c.args.text.now c.first_stop.ensures c.in-Err.ensures.stop (λ e. c.in-Err.ensures.inside (ap Err e))
    (λ e. c.in-Err.ensures.some (ap Err e))

pub returns-in-Err-clause-cause : goal.returns-in-Err-clause-cause
returns-in-Err-clause-cause g c = first_cause c.args.fault c.in-Err.stop c.first_stop.result _ _ c.first_stop.ensures c.in-Err.ensures.cause

pub returns-in-Err-clause-no_out_fault : goal.returns-in-Err-clause-no_out_fault
returns-in-Err-clause-no_out_fault g c = λ out file.
    first_still c.args.fault c.in-Err.stop c.in-Err.ensures.no_out_fault (λ e. out (c.first_stop.ensures ∙ e)) (λ e. file (c.first_stop.ensures ∙ e))

pub returns-in-Err-clause-file_first : goal.returns-in-Err-clause-file_first
returns-in-Err-clause-file_first g c = λ is. ap Err (c.first_stop.ensures ∙ file_first c.args.fault c.in-Err.stop is)

pub returns-in-Err-clause-no_refusal : goal.returns-in-Err-clause-no_refusal
returns-in-Err-clause-no_refusal g c = inl (subst IsListStop (sym c.first_stop.ensures) (first_stops c.args.fault c.in-Err.stop c.in-Err.ensures.stop))

pub returns-in-Err-clause-whole : goal.returns-in-Err-clause-whole
returns-in-Err-clause-whole g c = λ none. absurd (c.in-Err.ensures.spoken none)

use Rattle.std.proofs.Common.{◌≡◌, ℕ, List, ◌++◌, IsErrAnd, rules, refl, sym, ap, subst, ◌∙◌, arith, inl, inr, string_bytes, Ok, Err}
use Rattle.io_core.specs.Told.{Told}
use Rattle.io_core.specs.Stream.{IsPartlyGiven}
use Rattle.binlog_text.specs.Reading.{Keeps, StandsAt, viewed}
use Rattle.binlog_text.specs.declared.stage.Stage.{Stage}
use Rattle.binlog_text.specs.declared.stage.Stage.TheVariants.{Start}
use Rattle.binlog_text.specs.Views.{event_of}
use Rattle.binlog_cli.specs.EventLines.{event_lines}
use Rattle.binlog_cli.specs.Printed.{IsPrinted}
use Rattle.binlog_cli.specs.Stops.{IsListStop, list_status_of}
use Rattle.binlog_cli.specs.Listing.{lines_of_events}
use Rattle.binlog_cli.specs.declared.status.ListStatus.TheVariants.{OutOfMemory}
use Rattle.binlog_cli.proofs.Gathered.{gathered_part}
use Rattle.binlog_cli.proofs.SoFar.{SoFar, end_length, events_end, events_fault, events_partly, gathered_some, so_far_none}
use Rattle.binlog_cli.proofs.Reached.{err_out, handed_out, of_err, of_memory, stopped_end, stopped_fault, wants_bytes}
use Rattle.binlog_cli.proofs.Counted.{ended_still, log_present, log_refusal, stop_status, then_still}
use Rattle.binlog_cli.proofs.FirstStops.{handed_still, log_still}
use Rattle.binlog_cli.proofs.Answered.{answer_err, answer_none, not_start, partly_event, reached_event, so_far_event, stands_behind}
use Rattle.binlog_cli.proofs.listing.list_log.Goals as goal

pub events-init : goal.events-init
events-init g c = record {
  so_far =
      subst (λ (s : Stage). Told (λ fs. SoFar c.args.is_hex c.args.ring.now (fs c.args.name.now) s 4 (g.K.Sink.given c.args.out.now) (g.K.Sink.given c.args.out.now) (string_bytes c.new-text.result)) (g.L.Library.files c.args.files.now))
      (sym c.new-reader.ensures.stage)
      (subst (λ (t : List ℕ). Told (λ fs. SoFar c.args.is_hex c.args.ring.now (fs c.args.name.now) Start 4 (g.K.Sink.given c.args.out.now) (g.K.Sink.given c.args.out.now) t) (g.L.Library.files c.args.files.now))
      (sym c.new-text.ensures.bytes)
      (record { here = λ fs is. so_far_none c.args.is_hex c.args.ring.now (fs c.args.name.now) (g.K.Sink.given c.args.out.now) }));
  keeps =
      subst (λ (s : Stage). Told (λ fs. Keeps (fs c.args.name.now) s c.new-reader.result.buffer.rest) (g.L.Library.files c.args.files.now)) (sym c.new-reader.ensures.stage)
      (record { here = λ fs is. tt });
  stands = subst (λ (s : Stage). StandsAt s 4) (sym c.new-reader.ensures.stage) refl;
  same = refl;
  faults = omega arith;
  absences = omega arith;
  outs = omega arith;
  no_file_fault = refl;
  no_out_fault = refl;
  present = refl;
  no_refusal = refl;
  no_out_refusal = refl;
  silent = λ start. c.new-text.ensures.bytes;
}

pub returns-in_err-lines-in-Ok-Some-clause-answer : goal.returns-in_err-lines-in-Ok-Some-clause-answer
returns-in_err-lines-in-Ok-Some-clause-answer g c =
    let stop : IsErrAnd c.from_residual.result IsListStop = search rules in
    record {
      here = λ fs is.
          let so_far = c.events.invariant.so_far.here fs is in
          events_partly c.args.is_hex c.args.ring.now (fs c.args.name.now) c.events.reader.stage so_far.events _ _ c.from_residual.result so_far.read
          (gathered_part (lines_of_events c.args.is_hex so_far.events) _ _ _ so_far.printed) stop;
    }

pub returns-in_err-print_lines-in-Ok-Some-clause-answer : goal.returns-in_err-print_lines-in-Ok-Some-clause-answer
returns-in_err-print_lines-in-Ok-Some-clause-answer g c =
    let stop : IsErrAnd c.from_residual-in_err-print_lines-in-Ok-Some.result IsListStop = search rules in
    record {
      here = λ fs is.
          let so_far = c.events.invariant.so_far.here fs is in
          let answer = ap viewed (c.in-Ok-Some.is ∙ ap Ok c.in-Ok-Some.field-0-is) in
          let lines : c.as_str.result.now ≡ event_lines c.args.is_hex (event_of c.in-Ok-Some.view) = c.as_str.ensures.value ∙ c.in_ok-lines-in-Ok-Some.ensures in
          partly_event c.args.ring.now _ c.args.name.now c.events.reader _ (viewed c.next.result) c.next.follows.holds-at-none c.args.is_hex (event_of c.in-Ok-Some.view) fs _ _ _ _ _
          c.from_residual-in_err-print_lines-in-Ok-Some.result answer (c.events.invariant.same ∙ is) so_far
          (subst (λ (t : List ℕ). IsPartlyGiven (lines_of_events c.args.is_hex so_far.events ++ t) (g.K.Sink.given c.args.out.now) (g.K.Sink.given c.print_lines.new.out)) lines
          (c.in_err-print_lines-in-Ok-Some.ensures.printed _ (lines_of_events c.args.is_hex so_far.events) so_far.printed)) stop;
    }

pub returns-in-Ok-None-clause-answer : goal.returns-in-Ok-None-clause-answer
returns-in-Ok-None-clause-answer g c = record {
  here = λ fs is.
      let so_far = c.events.invariant.so_far.here fs is in
      let answer = ap viewed (c.in-Ok-None.is ∙ ap Ok c.in-Ok-None.field-0-is) in
      let none = answer_none c.args.ring.now _ c.args.name.now c.events.reader _ (viewed c.next.result) c.next.follows.holds-at-none answer fs (c.events.invariant.same ∙ is) in
      let keeps = c.events.invariant.keeps.here fs is in
      let size = end_length c.args.ring.now (fs c.args.name.now) c.events.reader.stage c.events.reached c.events.reader.buffer.rest c.events.invariant.stands keeps none in
      events_end c.args.is_hex c.args.ring.now (fs c.args.name.now) c.events.reader.stage so_far.events c.events.reached _ _ c.end_of_log.result so_far.read none size
      (c.end_of_log.ensures.printed _ (lines_of_events c.args.is_hex so_far.events) so_far.printed) c.end_of_log.ensures.stop;
}

pub returns-in-Err-clause-answer : goal.returns-in-Err-clause-answer
returns-in-Err-clause-answer g c = record {
  here = λ fs is.
      let so_far = c.events.invariant.so_far.here fs is in
      let answer = ap viewed c.in-Err.is in
      let gathered : c.as_str-in-Err.result.now ≡ string_bytes c.events.text = c.as_str-in-Err.ensures.value in
      let printed = subst (λ (t : List ℕ). IsPrinted (lines_of_events c.args.is_hex so_far.events) (g.K.Sink.given c.args.out.now) (g.K.Sink.given c.events.out) t) (sym gathered) so_far.printed in
      events_fault c.args.is_hex c.args.ring.now (fs c.args.name.now) c.events.reader.stage so_far.events c.in-Err.fault _ _ c.end_by_fault.result so_far.read
      (answer_err c.args.ring.now _ c.args.name.now c.events.reader _ (viewed c.next.result) c.next.follows.holds-at-none c.in-Err.fault answer fs (c.events.invariant.same ∙ is))
      (c.end_by_fault.ensures.printed _ (lines_of_events c.args.is_hex so_far.events) printed);
}

pub events-preserved : goal.events-preserved
events-preserved g c = record {
  so_far = record {
    here = λ fs is.
        let so_far = c.events.invariant.so_far.here fs is in
        let answer = ap viewed (c.in-Ok-Some.is ∙ ap Ok c.in-Ok-Some.field-0-is) in
        let lines : c.as_str.result.now ≡ event_lines c.args.is_hex (event_of c.in-Ok-Some.view) = c.as_str.ensures.value ∙ c.in_ok-lines-in-Ok-Some.ensures in
        so_far_event c.args.ring.now _ c.args.name.now c.events.reader _ (viewed c.next.result) c.next.follows.holds-at-none c.args.is_hex (event_of c.in-Ok-Some.view) fs _ _ _ _ _ _ _ answer
        (c.events.invariant.same ∙ is) c.end.ensures so_far
        (subst (λ (t : List ℕ). IsPrinted (lines_of_events c.args.is_hex so_far.events ++ t) (g.K.Sink.given c.args.out.now) (g.K.Sink.given c.print_lines.new.out) (string_bytes c.print_lines.new.text)) lines
        (c.in_ok-print_lines-in-Ok-Some.ensures.printed _ (lines_of_events c.args.is_hex so_far.events) so_far.printed));
  };
  keeps = record { here = λ fs is. c.next.follows.holds-at-none.keeps.here fs (c.events.invariant.same ∙ is) };
  stands =
      let answer = ap viewed (c.in-Ok-Some.is ∙ ap Ok c.in-Ok-Some.field-0-is) in
      stands_behind c.args.ring.now _ c.args.name.now c.events.reader _ (viewed c.next.result) c.next.follows.holds-at-none (event_of c.in-Ok-Some.view) c.end.result answer c.end.ensures;
  same = c.next.ensures.same ∙ c.events.invariant.same;
  faults = omega (arith, c.events.invariant.faults, c.in-Ok-Some.ensures.causes.faults_later);
  absences = omega (arith, c.events.invariant.absences, c.in-Ok-Some.ensures.causes.absences_later);
  outs = omega (arith, c.events.invariant.outs, c.in_ok-print_lines-in-Ok-Some.ensures.cause.later);
  no_file_fault = c.in-Ok-Some.ensures.no_fault refl ∙ c.events.invariant.no_file_fault;
  no_out_fault = c.in_ok-print_lines-in-Ok-Some.ensures.no_out_fault (λ e. cc) ∙ c.events.invariant.no_out_fault;
  present = c.in-Ok-Some.ensures.present (λ e. absurd (cc)) ∙ c.events.invariant.present;
  no_refusal = c.in-Ok-Some.ensures.no_refusal refl ∙ c.events.invariant.no_refusal;
  no_out_refusal = c.in_ok-print_lines-in-Ok-Some.ensures.no_refusal ∙ c.events.invariant.no_out_refusal;
  silent = λ start.
      let answer = ap viewed (c.in-Ok-Some.is ∙ ap Ok c.in-Ok-Some.field-0-is) in
      absurd (not_start c.args.ring.now _ c.args.name.now c.events.reader _ (viewed c.next.result) c.next.follows.holds-at-none (event_of c.in-Ok-Some.view) answer start);
}

pub returns-in_err-lines-in-Ok-Some-clause-reached : goal.returns-in_err-lines-in-Ok-Some-clause-reached
returns-in_err-lines-in-Ok-Some-clause-reached g c =
    let memory : IsErrAnd c.from_residual.result (λ s. s ≡ OutOfMemory) = search rules in
    record {
      here = λ fs is.
          let so_far = c.events.invariant.so_far.here fs is in
          let answer = ap viewed (c.in-Ok-Some.is ∙ ap Ok c.in-Ok-Some.field-0-is) in
          reached_event c.args.ring.now _ c.args.name.now c.events.reader _ (viewed c.next.result) c.next.follows.holds-at-none c.args.is_hex (event_of c.in-Ok-Some.view) fs c.events.reached c.end.result _ _ _
          (list_status_of c.from_residual.result) answer (c.events.invariant.same ∙ is) c.end.ensures so_far (of_memory c.from_residual.result memory);
    }

pub returns-in_err-print_lines-in-Ok-Some-clause-reached : goal.returns-in_err-print_lines-in-Ok-Some-clause-reached
returns-in_err-print_lines-in-Ok-Some-clause-reached g c =
    let own : IsErrAnd c.from_residual-in_err-print_lines-in-Ok-Some.result (λ s. s ≡ c.in_err-print_lines-in-Ok-Some.field-0.0) = search rules in
    let out = err_out c.in_err-print_lines-in-Ok-Some.field-0.0 c.in_err-print_lines-in-Ok-Some.ensures.stop c.in_err-print_lines-in-Ok-Some.ensures.inside in
    record {
      here = λ fs is.
          let so_far = c.events.invariant.so_far.here fs is in
          let answer = ap viewed (c.in-Ok-Some.is ∙ ap Ok c.in-Ok-Some.field-0-is) in
          reached_event c.args.ring.now _ c.args.name.now c.events.reader _ (viewed c.next.result) c.next.follows.holds-at-none c.args.is_hex (event_of c.in-Ok-Some.view) fs c.events.reached c.end.result _ _ _
          (list_status_of c.from_residual-in_err-print_lines-in-Ok-Some.result) answer (c.events.invariant.same ∙ is) c.end.ensures so_far
          (of_err c.from_residual-in_err-print_lines-in-Ok-Some.result (handed_out c.from_residual-in_err-print_lines-in-Ok-Some.result _ own out));
    }

pub returns-in-Ok-None-clause-reached : goal.returns-in-Ok-None-clause-reached
returns-in-Ok-None-clause-reached g c = record {
  here = λ fs is.
      let so_far = c.events.invariant.so_far.here fs is in
      let answer = ap viewed (c.in-Ok-None.is ∙ ap Ok c.in-Ok-None.field-0-is) in
      let none = answer_none c.args.ring.now _ c.args.name.now c.events.reader _ (viewed c.next.result) c.next.follows.holds-at-none answer fs (c.events.invariant.same ∙ is) in
      let keeps = c.events.invariant.keeps.here fs is in
      let size = end_length c.args.ring.now (fs c.args.name.now) c.events.reader.stage c.events.reached c.events.reader.buffer.rest c.events.invariant.stands keeps none in
      stopped_end c.args.ring.now (fs c.args.name.now) c.events.reader.stage so_far.events c.events.reached so_far.read so_far.behind none size c.end_of_log.result c.end_of_log.ensures.stop
      c.end_of_log.ensures.inside;
}

pub returns-in-Err-clause-reached : goal.returns-in-Err-clause-reached
returns-in-Err-clause-reached g c = record {
  here = λ fs is.
      let so_far = c.events.invariant.so_far.here fs is in
      let answer = ap viewed c.in-Err.is in
      let gathered : c.as_str-in-Err.result.now ≡ string_bytes c.events.text = c.as_str-in-Err.ensures.value in
      stopped_fault c.args.ring.now (fs c.args.name.now) c.events.reader.stage so_far.events c.events.reached so_far.read so_far.behind c.args.is_hex c.in-Err.fault c.end_by_fault.new.reached
      c.end_by_fault.result c.as_str-in-Err.result.now
      (λ file. wants_bytes (fs c.args.name.now) c.events.reader.stage c.events.reached c.events.reader.buffer.rest c.events.invariant.stands (c.events.invariant.keeps.here fs is) (c.in-Err.ensures.wanted (ap Err file)))
      (answer_err c.args.ring.now _ c.args.name.now c.events.reader _ (viewed c.next.result) c.next.follows.holds-at-none c.in-Err.fault answer fs (c.events.invariant.same ∙ is))
      (λ some. gathered_some (lines_of_events c.args.is_hex so_far.events) (string_bytes c.events.text) _ _ so_far.printed (λ e. some (gathered ∙ e)))
      c.end_by_fault.ensures.answer;
}

pub returns-in_err-lines-in-Ok-Some-clause-no_file_fault : goal.returns-in_err-lines-in-Ok-Some-clause-no_file_fault
returns-in_err-lines-in-Ok-Some-clause-no_file_fault g c = λ other. c.in-Ok-Some.ensures.no_fault refl ∙ c.events.invariant.no_file_fault

pub returns-in_err-print_lines-in-Ok-Some-clause-no_file_fault : goal.returns-in_err-print_lines-in-Ok-Some-clause-no_file_fault
returns-in_err-print_lines-in-Ok-Some-clause-no_file_fault g c = λ other. c.in-Ok-Some.ensures.no_fault refl ∙ c.events.invariant.no_file_fault

pub returns-in_err-print_lines-in-Ok-Some-clause-no_out_fault : goal.returns-in_err-print_lines-in-Ok-Some-clause-no_out_fault
returns-in_err-print_lines-in-Ok-Some-clause-no_out_fault g c =
    let own : IsErrAnd c.from_residual-in_err-print_lines-in-Ok-Some.result (λ s. s ≡ c.in_err-print_lines-in-Ok-Some.field-0.0) = search rules in
    λ out file. handed_still c.from_residual-in_err-print_lines-in-Ok-Some.result _ own c.in_err-print_lines-in-Ok-Some.ensures.no_out_fault out ∙ c.events.invariant.no_out_fault

pub returns-in-Ok-None-clause-no_file_fault : goal.returns-in-Ok-None-clause-no_file_fault
returns-in-Ok-None-clause-no_file_fault g c = λ other. c.in-Ok-None.ensures.no_fault refl ∙ c.events.invariant.no_file_fault

pub returns-in-Ok-None-clause-no_out_fault : goal.returns-in-Ok-None-clause-no_out_fault
returns-in-Ok-None-clause-no_out_fault g c = λ out file. c.end_of_log.ensures.no_out_fault out ∙ c.events.invariant.no_out_fault

pub returns-in-Err-clause-no_file_fault : goal.returns-in-Err-clause-no_file_fault
returns-in-Err-clause-no_file_fault g c = λ other.
    log_still c.in-Err.fault c.in-Err.ensures.no_fault c.in-Err.ensures.no_fault_at_want (λ file. other (ap list_status_of (c.end_by_fault.ensures.file_first file)))
    ∙ c.events.invariant.no_file_fault

pub returns-in-Err-clause-no_out_fault : goal.returns-in-Err-clause-no_out_fault
returns-in-Err-clause-no_out_fault g c = λ out file. c.end_by_fault.ensures.no_out_fault out file ∙ c.events.invariant.no_out_fault

pub returns-in_err-lines-in-Ok-Some-clause-present : goal.returns-in_err-lines-in-Ok-Some-clause-present
returns-in_err-lines-in-Ok-Some-clause-present g c = λ there. c.in-Ok-Some.ensures.present (λ e. absurd (cc)) ∙ c.events.invariant.present

pub returns-in_err-print_lines-in-Ok-Some-clause-present : goal.returns-in_err-print_lines-in-Ok-Some-clause-present
returns-in_err-print_lines-in-Ok-Some-clause-present g c = λ there. c.in-Ok-Some.ensures.present (λ e. absurd (cc)) ∙ c.events.invariant.present

pub returns-in-Ok-None-clause-present : goal.returns-in-Ok-None-clause-present
returns-in-Ok-None-clause-present g c = λ there. c.in-Ok-None.ensures.present (λ e. absurd (cc)) ∙ c.events.invariant.present

pub returns-in-Err-clause-present : goal.returns-in-Err-clause-present
returns-in-Err-clause-present g c = λ there.
    let gathered : c.as_str-in-Err.result.now ≡ string_bytes c.events.text = c.as_str-in-Err.ensures.value in
    log_present c.events.reader.stage c.events.reached c.in-Err.fault c.end_by_fault.result c.events.invariant.stands c.in-Err.ensures.missing_first c.in-Err.ensures.present
    (λ start. c.end_by_fault.ensures.whole (gathered ∙ c.events.invariant.silent start)) there
    ∙ c.events.invariant.present

pub returns-in_err-lines-in-Ok-Some-clause-no_refusal : goal.returns-in_err-lines-in-Ok-Some-clause-no_refusal
returns-in_err-lines-in-Ok-Some-clause-no_refusal g c = inr (c.in-Ok-Some.ensures.no_refusal refl ∙ c.events.invariant.no_refusal)

pub returns-in_err-print_lines-in-Ok-Some-clause-no_refusal : goal.returns-in_err-print_lines-in-Ok-Some-clause-no_refusal
returns-in_err-print_lines-in-Ok-Some-clause-no_refusal g c = inr (c.in-Ok-Some.ensures.no_refusal refl ∙ c.events.invariant.no_refusal)

pub returns-in-Ok-None-clause-no_refusal : goal.returns-in-Ok-None-clause-no_refusal
returns-in-Ok-None-clause-no_refusal g c = inr (c.in-Ok-None.ensures.no_refusal refl ∙ c.events.invariant.no_refusal)

pub returns-in-Err-clause-no_refusal : goal.returns-in-Err-clause-no_refusal
returns-in-Err-clause-no_refusal g c = then_still _ _ _ (log_refusal c.in-Err.fault c.end_by_fault.result c.as_str-in-Err.result.now c.events.reached c.end_by_fault.new.reached c.in-Err.ensures.no_refusal c.end_by_fault.ensures.answer) c.events.invariant.no_refusal

pub returns-in_err-lines-in-Ok-Some-clause-no_out_refusal : goal.returns-in_err-lines-in-Ok-Some-clause-no_out_refusal
returns-in_err-lines-in-Ok-Some-clause-no_out_refusal g c = inr c.events.invariant.no_out_refusal

pub returns-in_err-print_lines-in-Ok-Some-clause-no_out_refusal : goal.returns-in_err-print_lines-in-Ok-Some-clause-no_out_refusal
returns-in_err-print_lines-in-Ok-Some-clause-no_out_refusal g c =
    let stop : IsErrAnd c.from_residual-in_err-print_lines-in-Ok-Some.result IsListStop = search rules in
    inl (stop_status c.from_residual-in_err-print_lines-in-Ok-Some.result stop)

pub returns-in-Ok-None-clause-no_out_refusal : goal.returns-in-Ok-None-clause-no_out_refusal
returns-in-Ok-None-clause-no_out_refusal g c = then_still _ _ _ (ended_still c.end_of_log.result c.end_of_log.ensures.stop c.end_of_log.ensures.no_refusal) c.events.invariant.no_out_refusal

pub returns-in-Err-clause-no_out_refusal : goal.returns-in-Err-clause-no_out_refusal
returns-in-Err-clause-no_out_refusal g c = then_still _ _ _ c.end_by_fault.ensures.no_refusal c.events.invariant.no_out_refusal

-- What an answer of the reader says of what was listed so far.
use Rattle.std.proofs.Common.{◌≡◌, ◌⊎◌, inl, inr, ℕ, ◌+◌, Bool, false, List, [], ◌∷◌, ◌++◌, length, refl, sym, subst, ◌∙◌, Option, Some, None, Result, Ok, Err, IfOk, IfSome, IsErrAnd}
use Rattle.io_core.specs.Files.{Files}
use Rattle.io_core.specs.Stream.{IsPartlyGiven}
use Rattle.key_ring.specs.Ring.{RingEntry}
use Rattle.binlog_text.specs.Advances.{Advances}
use Rattle.binlog_text.specs.Events.{BinlogEvent, answered}
use Rattle.binlog_text.specs.Faults.{is_outside, is_outside_fault}
use Rattle.binlog_text.specs.Reading.{IsAnswer, IsBehindEvent, StandsAt}
use Rattle.binlog_text.specs.declared.fault.BinlogFault.{BinlogFault}
use Rattle.binlog_text.specs.declared.reader.LogReader.{LogReader}
use Rattle.binlog_text.specs.declared.stage.Stage.{Stage}
use Rattle.binlog_text.specs.declared.stage.Stage.TheVariants.{Events, Refused, Start}
use Rattle.binlog_cli.specs.EventLines.{event_lines}
use Rattle.binlog_cli.specs.Printed.{IsPrinted}
use Rattle.binlog_cli.specs.Stops.{IsListStop, list_status_of}
use Rattle.binlog_cli.specs.Listing.{HasLogListing, IsStoppedAt, IsTextDue, lines_of_events}
use Rattle.binlog_cli.specs.declared.status.ListStatus.{ListStatus}
use Rattle.binlog_cli.specs.declared.status.ListStatus.TheVariants.{OutFault, OutOfMemory}
use Rattle.binlog_cli.proofs.SoFar.{ReadTo, SoFar, events_partly, lines_push, place_push, pushed_some, reached_behind, read_more}

-- the next event begins where the last one ended
stands_next : (old : Stage) (event : BinlogEvent) (stage : Stage) (end : ℕ) → IsBehindEvent old event stage → end ≡ event.mark.place + length event.bytes → StandsAt stage end
stands_next old event Start end behind is = absurd behind
stands_next old event (Events next) end behind is = is ∙ sym behind.ends
stands_next old event (Refused fault) end behind is = absurd behind

module _ (ring : List RingEntry) (files : Option Files) (name : List ℕ) (old new : LogReader) (r : Result (Option BinlogEvent) BinlogFault) (advances : Advances ring files name old new r) where
  answer_some : (event : BinlogEvent) → r ≡ Ok (Some event) → (fs : Files) → files ≡ Some fs → IsAnswer (answered ring (fs name) old.stage) new.stage (Ok (Some event))
  answer_some event is fs told = subst (λ (x : Result (Option BinlogEvent) BinlogFault). is_outside_fault x ≡ false → IsAnswer (answered ring (fs name) old.stage) new.stage x) is (advances.answer.here fs told) refl

  pub answer_none : r ≡ Ok None → (fs : Files) → files ≡ Some fs → answered ring (fs name) old.stage ≡ Ok None
  answer_none is fs told = subst (λ (x : Result (Option BinlogEvent) BinlogFault). is_outside_fault x ≡ false → IsAnswer (answered ring (fs name) old.stage) new.stage x) is (advances.answer.here fs told) refl

  pub answer_err : (fault : BinlogFault) → r ≡ Err fault → (fs : Files) → files ≡ Some fs → is_outside fault ≡ false → answered ring (fs name) old.stage ≡ Err fault
  answer_err fault is fs told inside = subst (λ (x : Result (Option BinlogEvent) BinlogFault). is_outside_fault x ≡ false → IsAnswer (answered ring (fs name) old.stage) new.stage x) is (advances.answer.here fs told) inside

  pub stands_behind : (event : BinlogEvent) (end : ℕ) → r ≡ Ok (Some event) → end ≡ event.mark.place + length event.bytes → StandsAt new.stage end
  stands_behind event end is ends =
      stands_next old.stage event new.stage end
      (subst (λ (x : Result (Option BinlogEvent) BinlogFault). IfOk x (λ found. IfSome found (λ e. IsBehindEvent old.stage e new.stage))) is advances.behind) ends

  -- the reader isn't at its start any more
  pub not_start : (event : BinlogEvent) → r ≡ Ok (Some event) → new.stage ≡ Start → ⊥
  not_start event is at =
      subst (λ (s : Stage). IsBehindEvent old.stage event s) at (subst (λ (x : Result (Option BinlogEvent) BinlogFault). IfOk x (λ found. IfSome found (λ e. IsBehindEvent old.stage e new.stage))) is advances.behind)

  read_event : (event : BinlogEvent) (events : List BinlogEvent) → r ≡ Ok (Some event) → (fs : Files) → files ≡ Some fs → ReadTo ring (fs name) old.stage events → ReadTo ring (fs name) new.stage (events ++ event ∷ [])
  read_event event events is fs told read =
      let next = answer_some event is fs told in
      subst (λ (s : Stage). ReadTo ring (fs name) s (events ++ event ∷ [])) (sym next.1) (read_more ring (fs name) old.stage events event next.0 read next.2)

  -- the event's lines were printed
  pub so_far_event : (is_hex : Bool) (event : BinlogEvent) (fs : Files) (begins end : ℕ) (before mid now : Option (List ℕ)) (gathered_mid gathered : List ℕ) → r ≡ Ok (Some event) → files ≡ Some fs
      → end ≡ event.mark.place + length event.bytes → (so_far : SoFar is_hex ring (fs name) old.stage begins before mid gathered_mid)
      → IsPrinted (lines_of_events is_hex so_far.events ++ event_lines is_hex event) before now gathered → SoFar is_hex ring (fs name) new.stage end before now gathered
  so_far_event is_hex event fs begins end before mid now gathered_mid gathered is told ends so_far printed = record {
    events = so_far.events ++ event ∷ [];
    behind = ends ∙ sym (place_push 4 so_far.events event);
    read = read_event event so_far.events is fs told so_far.read;
    printed = subst (λ (t : List ℕ). IsPrinted t before now gathered) (sym (lines_push is_hex so_far.events event)) printed;
  }

  -- they were printed in part
  pub partly_event : (is_hex : Bool) (event : BinlogEvent) (fs : Files) (begins : ℕ) (before mid now : Option (List ℕ)) (gathered : List ℕ) (result : Result (Unit {0}) ListStatus) → r ≡ Ok (Some event) → files ≡ Some fs
      → (so_far : SoFar is_hex ring (fs name) old.stage begins before mid gathered)
      → IsPartlyGiven (lines_of_events is_hex so_far.events ++ event_lines is_hex event) before now → IsErrAnd result IsListStop
      → HasLogListing is_hex ring (fs name) before now (list_status_of result)
  partly_event is_hex event fs begins before mid now gathered result is told so_far part stop =
      events_partly is_hex ring (fs name) new.stage (so_far.events ++ event ∷ []) before now result (read_event event so_far.events is fs told so_far.read)
      (subst (λ (t : List ℕ). IsPartlyGiven t before now) (sym (lines_push is_hex so_far.events event)) part) stop

  -- the log was reached behind the event, of which the lines are text
  pub reached_event : (is_hex : Bool) (event : BinlogEvent) (fs : Files) (begins end : ℕ) (before mid : Option (List ℕ)) (gathered : List ℕ) (status : ListStatus) → r ≡ Ok (Some event) → files ≡ Some fs
      → end ≡ event.mark.place + length event.bytes → SoFar is_hex ring (fs name) old.stage begins before mid gathered
      → (status ≡ OutFault) ⊎ (status ≡ OutOfMemory) → IsStoppedAt ring (fs name) status end
  reached_event is_hex event fs begins end before mid gathered status is told ends so_far (inl out) =
      subst (λ (s : ListStatus). IsStoppedAt ring (fs name) s end) (sym out)
      (reached_behind ring (fs name) new.stage (so_far.events ++ event ∷ []) end IsTextDue (read_event event so_far.events is fs told so_far.read) (ends ∙ sym (place_push 4 so_far.events event))
      (λ behind last. inl (pushed_some so_far.events event)))
  reached_event is_hex event fs begins end before mid gathered status is told ends so_far (inr memory) =
      subst (λ (s : ListStatus). IsStoppedAt ring (fs name) s end) (sym memory)
      (reached_behind ring (fs name) new.stage (so_far.events ++ event ∷ []) end (λ first behind last. Unit {0}) (read_event event so_far.events is fs told so_far.read)
      (ends ∙ sym (place_push 4 so_far.events event)) (λ behind last. tt))

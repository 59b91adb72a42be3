-- Where the listing of a log stopped.
use Rattle.std.proofs.Common.{◌≡◌, ◌≢◌, ◌⊎◌, inl, inr, ℕ, ◌-◌, ◌≤◌, Bool, false, List, [], length, refl, sym, ap, subst, ◌∙◌, arith, unwrap_or, Option, Some, None, Result, Ok, Err, IfErr, IsErrAnd}
use Rattle.key_ring.specs.Ring.{RingEntry}
use Rattle.binlog_text.specs.Header.{framed}
use Rattle.binlog_text.specs.Events.{BinlogEvent, answered}
use Rattle.binlog_text.specs.Faults.{is_outside}
use Rattle.binlog_text.specs.Reading.{Keeps, StandsAt, WantsFile, event_part}
use Rattle.binlog_text.specs.declared.fault.BinlogFault.{BinlogFault}
use Rattle.binlog_text.specs.declared.fault.BinlogFault.TheVariants as log
use Rattle.binlog_text.specs.declared.stage.Stage.{Stage}
use Rattle.binlog_text.specs.declared.stage.Stage.TheVariants.{Events, Refused, Start}
use Rattle.binlog_cli.specs.Stops.{IsListStop, list_status_of, log_stop}
use Rattle.binlog_cli.specs.Listing.{EndsThere, HasBytesAt, IsStoppedAt, IsTextDue, lines_of_events, place_behind, refused_place}
use Rattle.binlog_cli.specs.declared.status.ListStatus.{ListStatus}
use Rattle.binlog_cli.specs.declared.status.ListStatus.TheVariants.{Done, FileFault, Key, Log, OutFault, OutOfMemory, Usage}
use Rattle.binlog_cli.proofs.SoFar.{ReadTo, lines_some, reached_behind, reached_end, refused_behind}

-- ---- a stop that isn't a fault of the library

out_stop : (status : ListStatus) → IsListStop status → (status ≡ FileFault → ⊥) → (status ≡ OutFault) ⊎ (status ≡ OutOfMemory)
out_stop FileFault stop inside = absurd (inside refl)
out_stop OutFault stop inside = inl refl
out_stop OutOfMemory stop inside = inr refl
out_stop Done stop inside = absurd stop
out_stop (Log fault) stop inside = absurd stop
out_stop Usage stop inside = absurd stop
out_stop (Key fault) stop inside = absurd stop

-- one that is handed on
pub handed_out : {T : Type 0} (r : Result T ListStatus) (own : ListStatus) → IsErrAnd r (λ s. s ≡ own) → (own ≡ OutFault) ⊎ (own ≡ OutOfMemory) → IsErrAnd r (λ s. (s ≡ OutFault) ⊎ (s ≡ OutOfMemory))
handed_out (Ok x) own is out = absurd is
handed_out (Err s) own is out = subst (λ (x : ListStatus). (x ≡ OutFault) ⊎ (x ≡ OutOfMemory)) (sym is) out

pub err_out : {T : Type 0} (own : ListStatus) → IsListStop own → (◌≡◌ {A = Result T ListStatus} (Err own) (Err FileFault) → ⊥) → (own ≡ OutFault) ⊎ (own ≡ OutOfMemory)
err_out own stop inside = out_stop own stop (λ e. inside (ap Err e))

pub of_err : (r : Result (Unit {0}) ListStatus) → IsErrAnd r (λ s. (s ≡ OutFault) ⊎ (s ≡ OutOfMemory)) → (list_status_of r ≡ OutFault) ⊎ (list_status_of r ≡ OutOfMemory)
of_err (Ok u) is = absurd is
of_err (Err s) is = is

pub of_memory : (r : Result (Unit {0}) ListStatus) → IsErrAnd r (λ s. s ≡ OutOfMemory) → (list_status_of r ≡ OutFault) ⊎ (list_status_of r ≡ OutOfMemory)
of_memory (Ok u) is = absurd is
of_memory (Err s) is = inr is

module _ (ring : List RingEntry) (file : Option (List ℕ)) (stage : Stage) (events : List BinlogEvent) (place : ℕ) (read : ReadTo ring file stage events) (at : place ≡ place_behind 4 events) where
  -- ---- at the end of the log

  pub stopped_end : answered ring file stage ≡ Ok None → place ≡ length (unwrap_or file []) → (r : Result (Unit {0}) ListStatus) → IfErr r IsListStop → (r ≡ Err FileFault → ⊥)
      → IsStoppedAt ring file (list_status_of r) place
  stopped_end answer size (Ok u) stop inside = (reached_end ring file stage events place EndsThere read at answer (refl, refl), size)
  stopped_end answer size (Err OutFault) stop inside = reached_end ring file stage events place IsTextDue read at answer (inr (refl, refl))
  stopped_end answer size (Err OutOfMemory) stop inside = reached_end ring file stage events place (λ before behind end. Unit {0}) read at answer tt
  stopped_end answer size (Err FileFault) stop inside = absurd (inside refl)
  stopped_end answer size (Err Done) stop inside = absurd stop
  stopped_end answer size (Err (Log fault)) stop inside = absurd stop
  stopped_end answer size (Err Usage) stop inside = absurd stop
  stopped_end answer size (Err (Key fault)) stop inside = absurd stop

  -- ---- at a fault

  by_fault : (fault : BinlogFault) → (fault ≡ log.FileFault → HasBytesAt file place) → (is_outside fault ≡ false → answered ring file stage ≡ Err fault)
      → IsStoppedAt ring file (log_stop fault) (refused_place place fault)
  by_fault log.FileFault due answer = reached_behind ring file stage events place (λ before behind end. HasBytesAt file place) read at (λ behind end. due refl)
  by_fault log.OutOfMemory due answer = reached_behind ring file stage events place (λ before behind end. Unit {0}) read at (λ behind end. tt)
  by_fault log.Missing due answer = refused_behind ring file stage events place _ log.Missing read at refl (answer refl)
  by_fault log.BadMagic due answer = refused_behind ring file stage events place _ log.BadMagic read at refl (answer refl)
  by_fault (log.ShortEvent a wanted found) due answer = refused_behind ring file stage events place _ (log.ShortEvent a wanted found) read at refl (answer refl)
  by_fault (log.BadLength a long) due answer = refused_behind ring file stage events place _ (log.BadLength a long) read at refl (answer refl)
  by_fault (log.NoFormat kind) due answer = refused_behind ring file stage events place _ (log.NoFormat kind) read at refl (answer refl)
  by_fault (log.Algorithm number) due answer = refused_behind ring file stage events place _ (log.Algorithm number) read at refl (answer refl)
  by_fault (log.Scheme number) due answer = refused_behind ring file stage events place _ (log.Scheme number) read at refl (answer refl)
  by_fault (log.MissingKey version) due answer = refused_behind ring file stage events place _ (log.MissingKey version) read at refl (answer refl)
  by_fault (log.Checksum a stored computed) due answer = refused_behind ring file stage events place _ (log.Checksum a stored computed) read at refl (answer refl)

  -- the fault is answered, or one of the sink that was given the lines before it
  pub stopped_fault : (is_hex : Bool) (fault : BinlogFault) (now : ℕ) (r : Result (Unit {0}) ListStatus) (text : List ℕ)
      → (fault ≡ log.FileFault → HasBytesAt file place) → (is_outside fault ≡ false → answered ring file stage ≡ Err fault)
      → (text ≢ [] → lines_of_events is_hex events ≢ [])
      → ((r ≡ Err (log_stop fault)) × (now ≡ refused_place place fault)) ⊎ (((r ≡ Err OutFault) × (text ≢ []) × (now ≡ place)) ⊎ ((r ≡ Err OutOfMemory) × (now ≡ place)))
      → IsStoppedAt ring file (list_status_of r) now
  stopped_fault is_hex fault now r text due answer lines (inl own) =
      subst (λ (x : Result (Unit {0}) ListStatus). IsStoppedAt ring file (list_status_of x) now) (sym own.0)
      (subst (IsStoppedAt ring file (log_stop fault)) (sym own.1) (by_fault fault due answer))
  stopped_fault is_hex fault now r text due answer lines (inr (inl out)) =
      subst (λ (x : Result (Unit {0}) ListStatus). IsStoppedAt ring file (list_status_of x) now) (sym out.0)
      (reached_behind ring file stage events now IsTextDue read (out.2 ∙ at) (λ behind end. inl (lines_some is_hex events (lines out.1))))
  stopped_fault is_hex fault now r text due answer lines (inr (inr memory)) =
      subst (λ (x : Result (Unit {0}) ListStatus). IsStoppedAt ring file (list_status_of x) now) (sym memory.0)
      (reached_behind ring file stage events now (λ before behind end. Unit {0}) read (memory.1 ∙ at) (λ behind end. tt))

-- ---- bytes that are to be read

part_most : (left : ℕ) (r : Result (Option ℕ) BinlogFault) → event_part left r ≤ left
part_most left (Err fault) = omega arith
part_most left (Ok None) = omega arith
part_most left (Ok (Some long)) = omega arith

-- a reader that wants the file stands at its start, or where it has bytes
pub wants_bytes : (file : Option (List ℕ)) (stage : Stage) (begins : ℕ) (rest : List ℕ) → StandsAt stage begins → Keeps file stage rest → WantsFile stage rest → HasBytesAt file begins
wants_bytes file Start begins rest stands keeps wants = inl stands
wants_bytes None (Events position) begins rest stands keeps wants = absurd keeps
wants_bytes (Some bytes) (Events position) begins rest stands keeps (inl header) =
    let size = keeps.size in inr (omega (arith, stands, size, header))
wants_bytes (Some bytes) (Events position) begins rest stands keeps (inr event) =
    let size = keeps.size in
    let most = part_most (position.size - position.place) (framed position.format position.place rest) in
    inr (omega (arith, stands, size, event, most))
wants_bytes file (Refused fault) begins rest stands keeps wants = absurd stands

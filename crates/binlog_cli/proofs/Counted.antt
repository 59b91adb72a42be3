-- Which counts stand still where a listing stops.
use Rattle.std.proofs.Common.{◌≡◌, ◌≢◌, ◌⊎◌, inl, inr, ℕ, List, [], refl, sym, ap, subst, ◌∙◌, false, Result, Ok, Err, IfErr, IsErrAnd, OnOk}
use Rattle.key_file.specs.Cause.{IsOfPresent as IsPresentKey}
use Rattle.key_file.specs.Load.{IsOutside}
use Rattle.key_file.specs.declared.load_fault.LoadFault.{LoadFault}
use Rattle.key_file.specs.declared.load_fault.LoadFault.TheVariants as key
use Rattle.binlog_text.specs.Faults.{is_outside}
use Rattle.binlog_text.specs.Reading.{StandsAt}
use Rattle.binlog_text.specs.declared.fault.BinlogFault.{BinlogFault}
use Rattle.binlog_text.specs.declared.fault.BinlogFault.TheVariants as log
use Rattle.binlog_text.specs.declared.stage.Position.{Position}
use Rattle.binlog_text.specs.declared.stage.Stage.{Stage}
use Rattle.binlog_text.specs.declared.stage.Stage.TheVariants.{Events, Refused, Start}
use Rattle.binlog_cli.specs.Listing.{refused_place}
use Rattle.binlog_cli.specs.Stops.{IsListStop, IsStatusOfPresent, key_stop, list_status_of, log_stop}
use Rattle.binlog_cli.specs.declared.status.ListStatus.{ListStatus}
use Rattle.binlog_cli.specs.declared.status.ListStatus.TheVariants.{OutFault, OutOfMemory}

-- a call that handed on a fault or want of memory
pub stop_status : (r : Result (Unit {0}) ListStatus) → IsErrAnd r IsListStop → IsListStop (list_status_of r)
stop_status (Ok u) is = absurd is
stop_status (Err status) is = is

-- what holds at Ok holds, or such a one is answered
pub ended_still : {A : Type 0} (r : Result (Unit {0}) ListStatus) → IfErr r IsListStop → OnOk r A → IsListStop (list_status_of r) ⊎ A
ended_still (Ok u) stop still = inr still
ended_still (Err status) stop still = inl stop

-- a count that stood still before
pub then_still : {A : Type 0} (a b c : ℕ) → A ⊎ (c ≡ b) → b ≡ a → A ⊎ (c ≡ a)
then_still a b c (inl stop) before = inl stop
then_still a b c (inr still) before = inr (still ∙ before)

-- ---- key files

pub key_present : (fault : LoadFault) → IsStatusOfPresent (key_stop fault) → IsPresentKey fault
key_present key.FileFault is = tt
key_present key.OutOfMemory is = tt
key_present (key.Missing name) is = is
key_present (key.KeyFile index fault) is = tt

pub key_refusal : {A : Type 0} (fault : LoadFault) → IsOutside fault ⊎ A → IsListStop (key_stop fault) ⊎ A
key_refusal fault (inr still) = inr still
key_refusal key.FileFault (inl out) = inl tt
key_refusal key.OutOfMemory (inl out) = inl tt
key_refusal (key.Missing name) (inl out) = absurd out
key_refusal (key.KeyFile index fault) (inl out) = absurd out

-- ---- the log

log_stands : {A : Type 0} (fault : BinlogFault) → (is_outside fault ≡ false → A) → IsListStop (log_stop fault) ⊎ A
log_stands log.FileFault inside = inl tt
log_stands log.OutOfMemory inside = inl tt
log_stands log.Missing inside = inr (inside refl)
log_stands log.BadMagic inside = inr (inside refl)
log_stands (log.ShortEvent at wanted found) inside = inr (inside refl)
log_stands (log.BadLength at length) inside = inr (inside refl)
log_stands (log.NoFormat kind) inside = inr (inside refl)
log_stands (log.Algorithm number) inside = inr (inside refl)
log_stands (log.Scheme number) inside = inr (inside refl)
log_stands (log.MissingKey version) inside = inr (inside refl)
log_stands (log.Checksum at stored computed) inside = inr (inside refl)

-- a fault of the log is answered, or one of the sink that was given the lines before it
pub log_refusal : {A : Type 0} (fault : BinlogFault) (r : Result (Unit {0}) ListStatus) (text : List ℕ) (place now : ℕ) → (is_outside fault ≡ false → A)
    → ((r ≡ Err (log_stop fault)) × (now ≡ refused_place place fault)) ⊎ (((r ≡ Err OutFault) × (text ≢ []) × (now ≡ place)) ⊎ ((r ≡ Err OutOfMemory) × (now ≡ place))) → IsListStop (list_status_of r) ⊎ A
log_refusal {A} fault r text place now inside (inl (is, at)) = subst (λ (x : Result (Unit {0}) ListStatus). IsListStop (list_status_of x) ⊎ A) (sym is) (log_stands fault inside)
log_refusal {A} fault r text place now inside (inr (inl (is, some, at))) = inl (subst (λ (x : Result (Unit {0}) ListStatus). IsListStop (list_status_of x)) (sym is) tt)
log_refusal {A} fault r text place now inside (inr (inr (is, at))) = inl (subst (λ (x : Result (Unit {0}) ListStatus). IsListStop (list_status_of x)) (sym is) tt)

missing_or_other : (fault : BinlogFault) → (fault ≡ log.Missing) ⊎ (fault ≡ log.Missing → ⊥)
missing_or_other log.Missing = inl refl
missing_or_other log.FileFault = inr (λ e. cc)
missing_or_other log.OutOfMemory = inr (λ e. cc)
missing_or_other log.BadMagic = inr (λ e. cc)
missing_or_other (log.ShortEvent at wanted found) = inr (λ e. cc)
missing_or_other (log.BadLength at length) = inr (λ e. cc)
missing_or_other (log.NoFormat kind) = inr (λ e. cc)
missing_or_other (log.Algorithm number) = inr (λ e. cc)
missing_or_other (log.Scheme number) = inr (λ e. cc)
missing_or_other (log.MissingKey version) = inr (λ e. cc)
missing_or_other (log.Checksum at stored computed) = inr (λ e. cc)

-- a missing log is met at the start alone
at_start : (stage : Stage) (end : ℕ) → StandsAt stage end → ((position : Position) → stage ≡ Events position → ⊥) → stage ≡ Start
at_start Start end stands first = refl
at_start (Events position) end stands first = absurd (first position refl)
at_start (Refused fault) end stands first = absurd stands

missing_is : {T : Type 0} (fault : BinlogFault) → ◌≡◌ {A = Result T BinlogFault} (Err fault) (Err log.Missing) → fault ≡ log.Missing
missing_is fault e = cc

-- The count of absences stood still but where the log is missing: then nothing is gathered, and that is answered.
pub log_present : {S A : Type 0} (stage : Stage) (end : ℕ) (fault : BinlogFault) (r : Result (Unit {0}) ListStatus) → StandsAt stage end
    → ((position : Position) → stage ≡ Events position → ◌≡◌ {A = Result S BinlogFault} (Err fault) (Err log.Missing) → ⊥)
    → ((◌≡◌ {A = Result S BinlogFault} (Err fault) (Err log.Missing) → stage ≡ Refused log.Missing) → A)
    → (stage ≡ Start → r ≡ Err (log_stop fault)) → IsStatusOfPresent (list_status_of r) → A
log_present {S} {A} stage end fault r stands first still silent there = elim (missing_or_other fault) [
  | inl is ↦
      let start : stage ≡ Start = at_start stage end stands (λ position at. first position at (ap Err is)) in
      absurd (subst (λ (f : BinlogFault). IsStatusOfPresent (log_stop f)) is (subst (λ (x : Result (Unit {0}) ListStatus). IsStatusOfPresent (list_status_of x)) (silent start) there))
  | inr other ↦ still (λ e. absurd (other (missing_is fault e)))
]

-- What stopped a disk in a call, by the answer of the layer below.
use Rattle.std.proofs.Common.{◌≡◌, ◌≤◌, Some, None, Result, Ok, Err, refl, sym, ap, ◌∙◌}
use Rattle.cause_core.specs.Counts.{Rose}
use Rattle.counted_disk.proofs.Stopped.{still_runs, stopped_by}
use Rattle.counted_disk.specs.Counting.{faults_told, refusals_told}
use Rattle.counted_disk.specs.declared.counted.Counted.{Counted}
use Rattle.counted_disk.specs.declared.counted.Stop.{Stop}
use Rattle.disk_model.specs.Past.{HasDiskCause, HasDiskMemoryCause}
use Rattle.disk_model.specs.declared.names.DiskError.{DiskError}
use Rattle.disk_model.specs.declared.names.DiskError.TheVariants.{Failed, NoMemory}
use Rattle.session_core.specs.Files.{IsStopOf}
use Rattle.session_core.specs.Opening.{home_fault}
use Rattle.session_core.specs.Stops.{device_fault}
use Rattle.session_core.specs.declared.fault.EngineFault.{EngineFault}

module _ {D : Type 0} (old new : Counted D) where
  stop_of : (e : DiskError) (fault : EngineFault) → ((s : Stop) × (new.stop ≡ Some s) × (s.error ≡ e)) → fault ≡ device_fault e new.turns → IsStopOf new fault
  stop_of e fault (s, is, error) same = (s, is, same ∙ ap (λ (x : DiskError). device_fault x new.turns) (sym error))

  -- the error that a stretch of calls answered has stopped a disk that ran
  pub stopped_in : (e : DiskError) (fault : EngineFault) → old.stop ≡ None → HasDiskCause {T = Unit {0}} (faults_told old.stop old.faults_since) (faults_told new.stop new.faults_since) (Err e)
      → HasDiskMemoryCause {T = Unit {0}} (refusals_told old.stop old.refusals_since) (refusals_told new.stop new.refusals_since) (Err e) → fault ≡ device_fault e new.turns → IsStopOf new fault
  stopped_in e fault none cause memory same =
      let answer : Result (Unit {0}) DiskError = Err e in
      stop_of e fault (stopped_by old.stop new.stop old.faults_since new.faults_since old.refusals_since new.refusals_since answer none cause memory) same

  -- a fault that was counted has stopped a disk that ran
  pub failed_stop : (fault : EngineFault) → old.stop ≡ None → Rose (faults_told old.stop old.faults_since) (faults_told new.stop new.faults_since) → refusals_told old.stop old.refusals_since ≤ refusals_told new.stop new.refusals_since
      → faults_told old.stop old.faults_since ≤ faults_told new.stop new.faults_since → fault ≡ device_fault Failed new.turns → IsStopOf new fault
  failed_stop fault none rose memory faults same =
      let failed : Result (Unit {0}) DiskError = Err Failed in
      let cause : HasDiskCause (faults_told old.stop old.faults_since) (faults_told new.stop new.faults_since) failed = record { later = faults; rose = λ is. rose } in
      let want : HasDiskMemoryCause (refusals_told old.stop old.refusals_since) (refusals_told new.stop new.refusals_since) failed = record { later = memory; rose = λ is. absurd (cc) } in
      stop_of Failed fault (stopped_by old.stop new.stop old.faults_since new.faults_since old.refusals_since new.refusals_since failed none cause want) same

  -- and so has refused memory
  pub refused_stop : (fault : EngineFault) → old.stop ≡ None → Rose (refusals_told old.stop old.refusals_since) (refusals_told new.stop new.refusals_since) → refusals_told old.stop old.refusals_since ≤ refusals_told new.stop new.refusals_since
      → faults_told old.stop old.faults_since ≤ faults_told new.stop new.faults_since → fault ≡ device_fault NoMemory new.turns → IsStopOf new fault
  refused_stop fault none rose memory faults same =
      let refused : Result (Unit {0}) DiskError = Err NoMemory in
      let cause : HasDiskCause (faults_told old.stop old.faults_since) (faults_told new.stop new.faults_since) refused = record { later = faults; rose = λ is. absurd (cc) } in
      let want : HasDiskMemoryCause (refusals_told old.stop old.refusals_since) (refusals_told new.stop new.refusals_since) refused = record { later = memory; rose = λ is. rose } in
      stop_of NoMemory fault (stopped_by old.stop new.stop old.faults_since new.faults_since old.refusals_since new.refusals_since refused none cause want) same

  -- with neither it runs on
  pub runs_still : old.stop ≡ None → faults_told new.stop new.faults_since ≡ faults_told old.stop old.faults_since → refusals_told new.stop new.refusals_since ≡ refusals_told old.stop old.refusals_since → new.stop ≡ None
  runs_still none faults memory =
      let done : Result (Unit {0}) DiskError = Ok tt in
      still_runs old.stop new.stop old.faults_since new.faults_since old.refusals_since new.refusals_since done none faults memory

-- such a refusal isn't one by the bytes of a home
pub stop_isnt_home : {D : Type 0} (disk : Counted D) (e : EngineFault) → IsStopOf disk e → home_fault e ≡ None
stop_isnt_home disk e (s, is, same) = ap home_fault same ∙ by s.error
  where
    by : (x : DiskError) → home_fault (device_fault x disk.turns) ≡ None
    by Failed = refl
    by NoMemory = refl

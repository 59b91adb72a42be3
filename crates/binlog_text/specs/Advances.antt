-- What a call of a reader does.
use Rattle.std.specs.Prelude.{◌≡◌, ◌≤◌, ◌⊎◌, ℕ, max, false, true, List, Option, Result, Err, IfOk, IfSome}
use Rattle.cause_core.specs.Counts.{Rose}
use Rattle.io_core.specs.Files.{Files}
use Rattle.io_core.specs.Told.{Told}
use Rattle.key_ring.specs.Ring.{RingEntry}
use Rattle.binlog_text.specs.Faults.{is_outside_fault}
use Rattle.binlog_text.specs.Events.{BinlogEvent, answered, placed}
use Rattle.binlog_text.specs.Reading.{IsAnswer, IsBehindEvent, IsStage, Keeps, due_at}
use Rattle.binlog_text.specs.Sealed.{StandsStored}
use Rattle.binlog_text.specs.declared.fault.BinlogFault.{BinlogFault}
use Rattle.binlog_text.specs.declared.fault.BinlogFault.TheVariants.{FileFault, Missing}
use Rattle.binlog_text.specs.declared.reader.LogReader.{LogReader}
use Rattle.binlog_text.specs.declared.stage.Stage.{Stage}
use Rattle.binlog_text.specs.declared.stage.Stage.TheVariants.{Refused}

-- Unless it comes from outside, the answer is the definition's where the library tells its files, and what the reader rests
-- on holds at its new stage. An event is the one at the old stage, over any library, and the new one stands behind it; the
-- file has it at the old stage's place, in clear or enciphered. The buffer grows to one piece of the file, or to what the file has of the event that is due, where the library tells its files;
-- over any library to the most bytes of an event. After a fault of the file or want of memory the reader stands where it stood,
-- and holds the bytes that it held; at the start these are none.
pub record Advances (ring : List RingEntry) (files : Option Files) (name : List ℕ) (old new : LogReader) (result : Result (Option BinlogEvent) BinlogFault) : Type 0 where
  pub answer : Told (λ fs. is_outside_fault result ≡ false → IsAnswer (answered ring (fs name) old.stage) new.stage result) files
  pub sealed : Told (λ fs. IfOk result (λ found. IfSome found (StandsStored ring (fs name) (placed (fs name) old.stage)))) files
  pub keeps : Told (λ fs. Keeps (fs name) new.stage new.buffer.rest) files
  pub stage : IsStage old.stage new.stage result
  pub held : is_outside_fault result ≡ true → new.buffer.rest ≡ old.buffer.rest
  pub behind : IfOk result (λ found. IfSome found (λ event. IsBehindEvent old.stage event new.stage))
  pub room : new.buffer.room ≤ max old.buffer.room 16777216
  pub grown : Told (λ fs. new.buffer.room ≤ max old.buffer.room (max 65536 (due_at (fs name) old.stage))) files

-- The counts of a library never fall. A fault of the file is answered only where its count rose in this call, and a missing one
-- only where its count rose, or again.
pub record ReaderCauses {T : Type 0} (stage : Stage) (faults faults' absences absences' : ℕ) (result : Result T BinlogFault) : Type 0 where
  pub faults_later : faults ≤ faults'
  pub absences_later : absences ≤ absences'
  pub failed : result ≡ Err FileFault → Rose faults faults'
  pub missing : result ≡ Err Missing → (stage ≡ Refused Missing) ⊎ Rose absences absences'

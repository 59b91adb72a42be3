-- Why a call stopped, by the counts of the library and the sink.
use Rattle.std.specs.Prelude.{◌≡◌, ◌≤◌, ℕ, List, Option, Some, Result, Ok, Err}
use Rattle.cause_core.specs.Counts.{Rose}
use Rattle.io_core.specs.Files.{Files}
use Rattle.io_core.specs.declared.error.IoError.{IoError}
use Rattle.io_core.specs.declared.error.IoError.TheVariants.{Failed, NoMemory}
use Rattle.innochecksum_cli.specs.declared.status.CheckStatus.{CheckStatus}
use Rattle.innochecksum_cli.specs.declared.status.CheckStatus.TheVariants.{Done, FileFault, Head, Mismatch, Missing, OutFault, OutOfMemory, Short, Truncated, Usage}

-- what an error of the library, or of the sink, stops with
abbrev pub file_stop : IoError → CheckStatus
file_stop Failed = FileFault
file_stop NoMemory = OutOfMemory

abbrev pub out_stop : IoError → CheckStatus
out_stop Failed = OutFault
out_stop NoMemory = OutOfMemory

-- a fault of the library or of the sink, or want of memory
abbrev pub IsOutsideStatus : CheckStatus → Type 0
IsOutsideStatus FileFault = Unit {0}
IsOutsideStatus OutFault = Unit {0}
IsOutsideStatus OutOfMemory = Unit {0}
IsOutsideStatus Done = ⊥
IsOutsideStatus Mismatch = ⊥
IsOutsideStatus Truncated = ⊥
IsOutsideStatus (Short length) = ⊥
IsOutsideStatus (Head fault) = ⊥
IsOutsideStatus Usage = ⊥
IsOutsideStatus Missing = ⊥

-- The counts of a library never fall, and a call stops for it only where they rose.
pub record LibraryCauses {T : Type 0} (faults faults' absences absences' : ℕ) (result : Result T CheckStatus) : Type 0 where
  pub faults_later : faults ≤ faults'
  pub absences_later : absences ≤ absences'
  pub fault : result ≡ Err FileFault → Rose faults faults'
  pub missing : result ≡ Err Missing → Rose absences absences'

-- The count of faults of a sink never falls, and a call stops for it only where it rose.
pub record SinkCauses {T : Type 0} (faults faults' : ℕ) (result : Result T CheckStatus) : Type 0 where
  pub later : faults ≤ faults'
  pub fault : result ≡ Err OutFault → Rose faults faults'

-- the status of a call that is done where it answers Ok
abbrev pub status_of : Result (Unit {0}) CheckStatus → CheckStatus
status_of (Ok u) = Done
status_of (Err status) = status

-- P of the bytes of the file of a name, where the library tells it and has it
pub record OfFile (P : List ℕ → Type 0) (name : List ℕ) (files : Option Files) : Type 0 where
  pub here : (fs : Files) (file : List ℕ) → files ≡ Some fs → fs name ≡ Some file → P file

-- the number that the program ends with
abbrev pub check_exit_code : CheckStatus → ℕ
check_exit_code Done = 0
check_exit_code Mismatch = 1
check_exit_code Truncated = 1
check_exit_code (Short length) = 1
check_exit_code (Head fault) = 1
check_exit_code Usage = 2
check_exit_code Missing = 3
check_exit_code FileFault = 7
check_exit_code OutFault = 7
check_exit_code OutOfMemory = 8

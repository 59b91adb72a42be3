-- Why a listing stopped, by the counts of the library and the sink.
use Rattle.std.specs.Prelude.{◌≡◌, ◌≤◌, ℕ, List, Result, Ok, Err}
use Rattle.cause_core.specs.Counts.{Rose}
use Rattle.io_core.specs.declared.error.IoError.{IoError}
use Rattle.io_core.specs.declared.error.IoError.TheVariants.{Failed, NoMemory}
use Rattle.key_file.specs.declared.load_fault.LoadFault.{LoadFault}
use Rattle.key_file.specs.declared.load_fault.LoadFault.TheVariants as key
use Rattle.binlog_text.specs.declared.fault.BinlogFault.{BinlogFault}
use Rattle.binlog_text.specs.declared.fault.BinlogFault.TheVariants as log
use Rattle.binlog_cli.specs.declared.status.ListStatus.{ListStatus}
use Rattle.binlog_cli.specs.declared.status.ListStatus.TheVariants.{Done, FileFault, Key, Log, OutFault, OutOfMemory, Usage}

-- what a fault of the log, of the key files or of the sink stops with
abbrev pub log_stop : BinlogFault → ListStatus
log_stop log.FileFault = FileFault
log_stop log.OutOfMemory = OutOfMemory
log_stop log.Missing = Log log.Missing
log_stop log.BadMagic = Log log.BadMagic
log_stop (log.ShortEvent at wanted found) = Log (log.ShortEvent at wanted found)
log_stop (log.BadLength at length) = Log (log.BadLength at length)
log_stop (log.NoFormat kind) = Log (log.NoFormat kind)
log_stop (log.Algorithm number) = Log (log.Algorithm number)
log_stop (log.Scheme number) = Log (log.Scheme number)
log_stop (log.MissingKey version) = Log (log.MissingKey version)
log_stop (log.Checksum at stored computed) = Log (log.Checksum at stored computed)

-- what is stopped with where the log had a fault, and then giving the text stopped: a fault of the file came first
abbrev pub first_stop : BinlogFault → ListStatus → ListStatus
first_stop log.FileFault stop = FileFault
first_stop fault stop = stop

abbrev pub key_stop : LoadFault → ListStatus
key_stop key.FileFault = FileFault
key_stop key.OutOfMemory = OutOfMemory
key_stop (key.Missing name) = Key (key.Missing name)
key_stop (key.KeyFile index fault) = Key (key.KeyFile index fault)

abbrev pub print_stop : IoError → ListStatus
print_stop Failed = OutFault
print_stop NoMemory = OutOfMemory

-- a fault of the library or of the sink, or want of memory
abbrev pub IsListStop : ListStatus → Type 0
IsListStop FileFault = Unit {0}
IsListStop OutFault = Unit {0}
IsListStop OutOfMemory = Unit {0}
IsListStop Done = ⊥
IsListStop (Log fault) = ⊥
IsListStop Usage = ⊥
IsListStop (Key fault) = ⊥

-- each status but that of a file that isn't there
abbrev pub IsStatusOfPresent : ListStatus → Type 0
IsStatusOfPresent Done = Unit {0}
IsStatusOfPresent (Log log.Missing) = ⊥
IsStatusOfPresent (Log log.BadMagic) = Unit {0}
IsStatusOfPresent (Log (log.ShortEvent at wanted found)) = Unit {0}
IsStatusOfPresent (Log (log.BadLength at length)) = Unit {0}
IsStatusOfPresent (Log (log.NoFormat kind)) = Unit {0}
IsStatusOfPresent (Log (log.Algorithm number)) = Unit {0}
IsStatusOfPresent (Log (log.Scheme number)) = Unit {0}
IsStatusOfPresent (Log (log.MissingKey version)) = Unit {0}
IsStatusOfPresent (Log (log.Checksum at stored computed)) = Unit {0}
IsStatusOfPresent (Log log.FileFault) = Unit {0}
IsStatusOfPresent (Log log.OutOfMemory) = Unit {0}
IsStatusOfPresent Usage = Unit {0}
IsStatusOfPresent (Key (key.Missing name)) = ⊥
IsStatusOfPresent (Key (key.KeyFile index fault)) = Unit {0}
IsStatusOfPresent (Key key.FileFault) = Unit {0}
IsStatusOfPresent (Key key.OutOfMemory) = Unit {0}
IsStatusOfPresent FileFault = Unit {0}
IsStatusOfPresent OutFault = Unit {0}
IsStatusOfPresent OutOfMemory = Unit {0}

-- how the loading of the keys may stop, and how the listing of the log may
abbrev pub IsKeyStop : ListStatus → Type 0
IsKeyStop FileFault = Unit {0}
IsKeyStop OutOfMemory = Unit {0}
IsKeyStop (Key fault) = Unit {0}
IsKeyStop Done = ⊥
IsKeyStop (Log fault) = ⊥
IsKeyStop Usage = ⊥
IsKeyStop OutFault = ⊥

abbrev pub IsLogStop : ListStatus → Type 0
IsLogStop FileFault = Unit {0}
IsLogStop OutFault = Unit {0}
IsLogStop OutOfMemory = Unit {0}
IsLogStop (Log fault) = Unit {0}
IsLogStop Done = ⊥
IsLogStop Usage = ⊥
IsLogStop (Key fault) = ⊥

-- The counts of a library never fall, and a call stops for a fault of it, or for a file that is missing, only where they rose.
pub record FileCauses {T : Type 0} (faults faults' absences absences' : ℕ) (result : Result T ListStatus) : Type 0 where
  pub faults_later : faults ≤ faults'
  pub absences_later : absences ≤ absences'
  pub fault : result ≡ Err FileFault → Rose faults faults'
  pub missing : result ≡ Err (Log log.Missing) → Rose absences absences'
  pub missing_key : (name : List ℕ) → result ≡ Err (Key (key.Missing name)) → Rose absences absences'

-- The count of faults of a sink never falls, and a call stops for it only where it rose.
pub record PrintCauses {T : Type 0} (faults faults' : ℕ) (result : Result T ListStatus) : Type 0 where
  pub later : faults ≤ faults'
  pub fault : result ≡ Err OutFault → Rose faults faults'

-- the status of a call that is done where it answers Ok
abbrev pub list_status_of : Result (Unit {0}) ListStatus → ListStatus
list_status_of (Ok u) = Done
list_status_of (Err status) = status

-- the number that the program ends with
abbrev pub list_exit_code : ListStatus → ℕ
list_exit_code Done = 0
list_exit_code (Log fault) = 1
list_exit_code Usage = 2
list_exit_code (Key fault) = 3
list_exit_code FileFault = 7
list_exit_code OutFault = 7
list_exit_code OutOfMemory = 8

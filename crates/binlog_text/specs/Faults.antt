-- Faults that come from outside.
use Rattle.std.specs.Prelude.{◌≡◌, ◌≤◌, ℕ, Bool, true, false, Result, Ok, Err}
use Rattle.cause_core.specs.Counts.{Rose}
use Rattle.binlog_text.specs.declared.fault.BinlogFault.{BinlogFault}
use Rattle.binlog_text.specs.declared.fault.BinlogFault.TheVariants.{Algorithm, BadLength, BadMagic, Checksum, FileFault, Missing, MissingKey, NoFormat, OutOfMemory, Scheme, ShortEvent}

-- the library failed, or there was no memory
abbrev pub is_outside : BinlogFault → Bool
is_outside FileFault = true
is_outside OutOfMemory = true
is_outside Missing = false
is_outside BadMagic = false
is_outside (ShortEvent at wanted found) = false
is_outside (BadLength at length) = false
is_outside (NoFormat kind) = false
is_outside (Algorithm n) = false
is_outside (Scheme n) = false
is_outside (MissingKey version) = false
is_outside (Checksum at stored computed) = false

-- an answer that comes from outside
abbrev pub is_outside_fault : {T : Type 0} → Result T BinlogFault → Bool
is_outside_fault (Ok x) = false
is_outside_fault (Err fault) = is_outside fault

-- a refusal of an event that is there
abbrev pub IsBinlogRefusal : BinlogFault → Type 0
IsBinlogRefusal Missing = ⊥
IsBinlogRefusal BadMagic = ⊥
IsBinlogRefusal FileFault = ⊥
IsBinlogRefusal OutOfMemory = ⊥
IsBinlogRefusal (ShortEvent at wanted found) = Unit {0}
IsBinlogRefusal (BadLength at length) = Unit {0}
IsBinlogRefusal (NoFormat kind) = Unit {0}
IsBinlogRefusal (Algorithm n) = Unit {0}
IsBinlogRefusal (Scheme n) = Unit {0}
IsBinlogRefusal (MissingKey version) = Unit {0}
IsBinlogRefusal (Checksum at stored computed) = Unit {0}

-- The counts of a library never fall, and a fault of the file and a missing one are answered only where theirs rose.
pub record HasBinlogCauses {T : Type 0} (faults faults' absences absences' : ℕ) (result : Result T BinlogFault) : Type 0 where
  pub faults_later : faults ≤ faults'
  pub absences_later : absences ≤ absences'
  pub failed : result ≡ Err FileFault → Rose faults faults'
  pub missing : result ≡ Err Missing → Rose absences absences'

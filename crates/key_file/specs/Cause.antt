-- Why a call over a library answered as it did, by the library's counts.
use Rattle.std.specs.Prelude.{◌≡◌, ◌≤◌, ℕ, List, Result, Err}
use Rattle.cause_core.specs.Counts.{Rose}
use Rattle.key_file.specs.declared.load_fault.LoadFault.{LoadFault}
use Rattle.key_file.specs.declared.load_fault.LoadFault.TheVariants.{Missing, FileFault, KeyFile, OutOfMemory}

-- the counts of faults and of absences never fall, and `FileFault` and `Missing` come only where theirs rose
pub record HasCauses {T : Type 0} (faults faults' absences absences' : ℕ) (result : Result T LoadFault) : Type 0 where
  pub later_faults : faults ≤ faults'
  pub later_absences : absences ≤ absences'
  pub failed : result ≡ Err FileFault → Rose faults faults'
  pub missing : (name : List ℕ) → result ≡ Err (Missing name) → Rose absences absences'

-- Each fault but that of a file that isn't there.
abbrev pub IsOfPresent : LoadFault → Type 0
IsOfPresent FileFault = Unit {0}
IsOfPresent (KeyFile index fault) = Unit {0}
IsOfPresent (Missing name) = ⊥
IsOfPresent OutOfMemory = Unit {0}

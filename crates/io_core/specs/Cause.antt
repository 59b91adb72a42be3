-- Why a call of an object of the outside answered as it did, by the object's counts.
use Rattle.std.specs.Prelude.{◌≡◌, ◌≤◌, ℕ, Option, None, Result, Ok}
use Rattle.cause_core.specs.Cause.{HasCauseOf}
use Rattle.cause_core.specs.Counts.{Rose}
use Rattle.io_core.specs.declared.error.IoError.{IoError}
use Rattle.io_core.specs.declared.error.IoError.TheVariants.{Failed, NoMemory}

-- The count of faults never falls, and `Failed` is answered only where it rose.
abbrev pub HasIoCause : {T : Type 0} → ℕ → ℕ → Result T IoError → Type 0
HasIoCause before now result = HasCauseOf Failed before now result

-- The count of refused memory never falls, and `NoMemory` is answered only where it rose.
abbrev pub HasIoMemoryCause : {T : Type 0} → ℕ → ℕ → Result T IoError → Type 0
HasIoMemoryCause before now result = HasCauseOf NoMemory before now result

-- The count of absences never falls, and a file is answered to be absent only where it rose.
pub record HasAbsence {T : Type 0} (before now : ℕ) (result : Result (Option T) IoError) : Type 0 where
  pub later : before ≤ now
  pub absent : result ≡ Ok None → Rose before now

-- Why a call answered an error, by a count of its object.
use Rattle.std.specs.Prelude.{ℕ, ◌≤◌, Result, IsErrOf}
use Rattle.cause_core.specs.Counts.{Rose}

-- The count never falls, and this error is answered only where it rose.
pub record HasCauseOf {T E : Type 0} (error : E) (before now : ℕ) (result : Result T E) : Type 0 where
  pub later : before ≤ now
  pub rose : IsErrOf result error → Rose before now

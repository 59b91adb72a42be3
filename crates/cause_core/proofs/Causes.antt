-- The cause of an error over a stretch of calls, and an error that is handed on.
use Rattle.std.proofs.Common.{◌≡◌, ℕ, ◌≤◌, Result, Ok, Err, IfErr, IsErrAnd, sym, subst, arith}
use Rattle.cause_core.specs.Cause.{HasCauseOf}

-- the cause of a call is one of a stretch of calls that ends with it
pub cause_after : {T E : Type 0} {error : E} {result : Result T E} (before mid now : ℕ) → before ≤ mid → HasCauseOf error mid now result → HasCauseOf error before now result
cause_after before mid now earlier cause = record { later = omega (arith, earlier, cause.later); rose = λ is. omega (arith, earlier, cause.rose is) }

-- and of one that begins with it
pub cause_before : {T E : Type 0} {error : E} {result : Result T E} (before mid now : ℕ) → mid ≤ now → HasCauseOf error before mid result → HasCauseOf error before now result
cause_before before mid now later cause = record { later = omega (arith, later, cause.later); rose = λ is. omega (arith, later, cause.rose is) }

-- what holds of an error holds of the one that is handed on
pub handed : {T E : Type 0} (P : E → Type 0) (result : Result T E) (error : E) → IsErrAnd result (λ x. x ≡ error) → P error → IfErr result P
handed P (Ok value) error is p = absurd is
handed P (Err x) error is p = subst P (sym is) p

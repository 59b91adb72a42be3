-- Numbers as words and schedules write them: decimal digits without a sign and without a leading zero.
use Rattle.std.specs.Prelude.{◌≡◌, ℕ, ◌≤◌, List}
use Rattle.std.specs.Fmt.{decimal}

-- a number from low to high
pub record IsDrillNumber (text : List ℕ) (low high n : ℕ) : Type 0 where
  pub spelled : text ≡ decimal n
  pub from : low ≤ n
  pub to : n ≤ high

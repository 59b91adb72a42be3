-- The calls of an object in memory, some of which are to fail.
use Rattle.std.specs.Prelude.{◌≡◌, ℕ, ◌+◌, ◌-◌, ◌^◌, min, List, Contains}

-- the calls that are to fail, counted from 1; how many calls were made; how many failed
pub record Calls : Type 0 where
  pub failing : List ℕ
  pub made : ℕ
  pub faults : ℕ

-- the number of the next call. A count that stands at the end of a u64 stays there
abbrev pub next_call : Calls → ℕ
next_call calls = min (calls.made + 1) (2 ^ 64 - 1)

abbrev pub IsToFail : Calls → Type 0
IsToFail calls = Contains calls.failing (next_call calls)

-- one call more, and the same calls are to fail
pub record IsOneMore (before now : Calls) : Type 0 where
  pub made : now.made ≡ next_call before
  pub failing : now.failing ≡ before.failing

-- Turns of the disk: each write and each sync is one. They are counted in 64 bits, and the count stays at its end.
use Rattle.std.specs.Prelude.{ℕ, ◌+◌, ◌-◌, ◌^◌, ◌≤◌, min, nat_eq, if◌then◌else◌}

abbrev pub turns_after : ℕ → ℕ → ℕ
turns_after turns more = min (turns + more) (2 ^ 64 - 1)

-- so many pending blocks take a write each and one sync, and none takes nothing
abbrev pub sync_turns : ℕ → ℕ
sync_turns pending = if nat_eq pending 0 then 0 else pending + 1

-- one of the next so many turns
pub record IsTurnOf (count before turn : ℕ) : Type 0 where
  pub first : turns_after before 1 ≤ turn
  pub last : turn ≤ turns_after before count

-- What a reader's buffer holds.
use Rattle.std.specs.Prelude.{◌≡◌, ◌≤◌, ◌+◌, ℕ, min, List, ◌++◌, length, take}

-- the event that was read last, the bytes of the file after it, and the length of the buffer
pub record HeldEvent : Type 0 where
  pub event : List ℕ
  pub rest : List ℕ
  pub room : ℕ

-- the first bytes of others
pub record IsFront (bytes all : List ℕ) : Type 0 where
  pub front : bytes ≡ take (length bytes) all

-- Behind the bytes that were here stand the first ones of others: so many that as many as are wanted are here, or all of them.
pub record IsReadOn (before now others : List ℕ) (want : ℕ) : Type 0 where
  pub added : List ℕ
  pub is : now ≡ before ++ added
  pub front : IsFront added others
  pub enough : min want (length before + length others) ≤ length now

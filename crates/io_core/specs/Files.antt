-- The files of a library: a partial map from names to bytes.
use Rattle.std.specs.Prelude.{◌≡◌, ℕ, min, List, ◌++◌, take, drop, length, Option, unwrap_or, []}

-- the bytes of the file of a name, where there is one
abbrev pub Files : Type 0
Files = List ℕ → Option (List ℕ)

-- the bytes of the file from a place on; a name that isn't there has none
abbrev pub bytes_from : ℕ → List ℕ → Files → List ℕ
bytes_from at name files = drop at (unwrap_or (files name) [])

-- A buffer was filled from its front with as many of the bytes as there are or as it holds, n of them.
pub record IsFilled (bytes before : List ℕ) (n : ℕ) (after : List ℕ) : Type 0 where
  pub count : n ≡ min (length before) (length bytes)
  pub filled : after ≡ take n bytes ++ drop n before

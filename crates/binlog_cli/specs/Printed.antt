-- Text of which a front was given to a sink, and the rest is gathered.
use Rattle.std.specs.Prelude.{◌≡◌, ℕ, List, ◌++◌, Option}
use Rattle.io_core.specs.Stream.{extended}

pub record IsPrinted (text : List ℕ) (before now : Option (List ℕ)) (gathered : List ℕ) : Type 0 where
  pub front : List ℕ
  pub given : now ≡ extended front before
  pub is : text ≡ front ++ gathered

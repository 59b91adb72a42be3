-- A text cut at a byte.
use Rattle.std.specs.Prelude.{◌≡◌, ◌≢◌, ℕ, List, [], ◌∷◌, ◌++◌, Option, Some, None, ◌==◌, All}
use Rattle.std.specs.Borrow.{Bor}
use Rattle.std.specs.List.{slice_split}

abbrev pub IsNotByte : ℕ → ℕ → Type 0
IsNotByte separator byte = byte ≢ separator

-- the text up to its first such byte, and what is behind it
pub record IsDrillCut (separator : ℕ) (text front back : List ℕ) : Type 0 where
  pub is : text ≡ front ++ (separator ∷ back)
  pub free : All (IsNotByte separator) front

-- the text's parts, cut at each byte of this value
abbrev pub drill_parts_of : ℕ → List ℕ → List (List ℕ)
drill_parts_of separator text = slice_split (λ byte. byte == separator) text

abbrev pub drill_parts_left : ℕ → Option (Bor (List ℕ)) → List (List ℕ)
drill_parts_left separator None = []
drill_parts_left separator (Some rest) = drill_parts_of separator rest.now

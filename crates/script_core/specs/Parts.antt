-- A text cut at a byte.
use Rattle.std.specs.Prelude.{◌≡◌, ◌≢◌, ℕ, List, [], ◌∷◌, ◌++◌, Option, Some, None, ◌==◌, All}
use Rattle.std.specs.Borrow.{Bor}
use Rattle.std.specs.List.{slice_split}

abbrev pub IsNot : ℕ → ℕ → Type 0
IsNot separator byte = byte ≢ separator

-- the text up to its first such byte, and what is behind it
pub record IsCut (separator : ℕ) (text front back : List ℕ) : Type 0 where
  pub is : text ≡ front ++ (separator ∷ back)
  pub free : All (IsNot separator) front

-- the text's parts, cut at each byte of this value
abbrev pub parts_of : ℕ → List ℕ → List (List ℕ)
parts_of separator text = slice_split (λ byte. byte == separator) text

-- what is left of them behind a cut, none where no text is left
abbrev pub parts_left : ℕ → Option (Bor (List ℕ)) → List (List ℕ)
parts_left separator None = []
parts_left separator (Some rest) = parts_of separator rest.now

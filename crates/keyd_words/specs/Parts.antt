-- A text cut at a byte.
use Rattle.std.specs.Prelude.{◌≡◌, ◌≢◌, ℕ, List, ◌∷◌, ◌++◌, All}

-- no byte of the text is this one
abbrev pub HasNoByte : ℕ → List ℕ → Type 0
HasNoByte separator text = All (λ byte. byte ≢ separator) text

-- the text up to its first such byte, and what is behind it
pub record IsCutAt (separator : ℕ) (text front back : List ℕ) : Type 0 where
  pub is : text ≡ front ++ (separator ∷ back)
  pub free : HasNoByte separator front

-- four parts, with a colon behind each of the first three
pub record AreFourParts (text a b c d : List ℕ) : Type 0 where
  pub is : text ≡ a ++ (58 ∷ (b ++ (58 ∷ (c ++ (58 ∷ d)))))
  pub first_free : HasNoByte 58 a
  pub second_free : HasNoByte 58 b
  pub third_free : HasNoByte 58 c

-- The lines of a script, their words, and what one word writes. Lines end with LF or at the end of the text, and words stand with one space between them.
use Rattle.std.specs.Prelude.{◌≡◌, ◌⊎◌, ℕ, ◌≤◌, ◌<◌, List, length, slice_index, All, Ok}
use Rattle.std.specs.Fmt.{decimal}
use Rattle.std.specs.Str.Parse.{digits_value}
use Rattle.hex.specs.Hex.{decode_of}
use Rattle.script_core.specs.Parts.{parts_of}
use Rattle.script_core.specs.declared.fault.LineFault.{LineFault}
use Rattle.script_core.specs.declared.fault.LineFault.TheVariants.{Number, Range}

abbrev pub Word : Type 0
Word = List ℕ

abbrev pub script_lines : List ℕ → List (List ℕ)
script_lines text = parts_of 10 text

abbrev pub words_of : List ℕ → List Word
words_of line = parts_of 32 line

abbrev pub IsDigit : ℕ → Type 0
IsDigit c = (48 ≤ c) × (c ≤ 57)

-- decimal digits without a sign and without a leading zero; a lone 0 is fine
pub record IsNumeral (word : Word) : Type 0 where
  pub some : 0 < length word
  pub lone : slice_index word 0 ≡ 48 → length word ≡ 1
  pub digits : All IsDigit word

-- the word writes this number, which is one from low to high
pub record IsNumber (word : Word) (low high n : ℕ) : Type 0 where
  pub spelled : word ≡ decimal n
  pub from : low ≤ n
  pub to : n ≤ high

-- a number is past these bounds
abbrev pub IsOutOfRange : ℕ → ℕ → ℕ → Type 0
IsOutOfRange low high n = (n < low) ⊎ (high < n)

-- the word writes no number, or one that is outside
abbrev pub NotNumber : Word → ℕ → ℕ → LineFault → Type 0
NotNumber word low high kind = ((kind ≡ Number) × (IsNumeral word → ⊥)) ⊎ ((kind ≡ Range) × IsNumeral word × IsOutOfRange low high (digits_value 10 word))

-- the type of a page that isn't page 0
pub record IsPageType (word : Word) (n : ℕ) : Type 0 where
  pub number : IsNumber word 0 65535 n
  pub other : IsOutOfRange 8 9 n

-- these bytes in hex digits of either case, one byte at least
pub record IsHex (word : Word) (bytes : List ℕ) : Type 0 where
  pub digits : decode_of word ≡ Ok bytes
  pub some : 0 < length bytes

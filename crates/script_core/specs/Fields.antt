-- The fields of a line: what its words must be, one after another.
use Rattle.std.specs.Prelude.{◌≡◌, ◌⊎◌, ℕ, List, [], ◌∷◌}
use Rattle.script_core.specs.Words.{Word, IsNumber, NotNumber, IsPageType, IsHex}
use Rattle.script_core.specs.Batches.{IsOut}
use Rattle.script_core.specs.declared.act.Act.{Act}
use Rattle.script_core.specs.declared.fault.LineFault.{LineFault}
use Rattle.script_core.specs.declared.fault.LineFault.TheVariants.{Range, Hex, Missing, Extra, Batch}
use Rattle.script_core.specs.declared.fault.LineError.{LineError}
use Rattle.script_core.specs.declared.fault.LineError.TheVariants.{Fault, OutOfMemory}

pub data Field : Type 0 where
  -- a number from the first to the second
  Numeral : ℕ → ℕ → Field
  -- the type of a page, neither 8 nor 9
  PageType : Field
  -- bytes in hex digits
  Bytes : Field
  -- one byte in hex digits
  Byte : Field
  -- a batch that isn't outstanding, or one that is
  FreeBatch : Field
  HeldBatch : Field
  -- no word more
  End : Field

-- these words begin with one that has the property
pub record Takes (words rest : List Word) (Has : Word → Type 0) : Type 0 where
  pub word : Word
  pub begins : words ≡ word ∷ rest
  pub has : Has word

-- a word that can stand for the field, behind a line of these statements
unfoldable pub FitsField : List Act → Field → Word → Type 0
FitsField before (Numeral low high) word = (n : ℕ) × IsNumber word low high n
FitsField before PageType word = (n : ℕ) × IsPageType word n
FitsField before Bytes word = (bytes : List ℕ) × IsHex word bytes
FitsField before Byte word = (byte : ℕ) × IsHex word (byte ∷ [])
FitsField before FreeBatch word = (b : ℕ) × IsNumber word 1 16 b × (IsOut b before → ⊥)
FitsField before HeldBatch word = (b : ℕ) × IsNumber word 1 16 b × IsOut b before
FitsField before End word = ⊥

-- a word that can't, and what is wrong with it
unfoldable pub Misfit : List Act → Field → Word → LineFault → Type 0
Misfit before (Numeral low high) word kind = NotNumber word low high kind
Misfit before PageType word kind = NotNumber word 0 65535 kind ⊎ ((kind ≡ Range) × ((n : ℕ) × IsNumber word 8 9 n))
Misfit before Bytes word kind = (kind ≡ Hex) × ((bytes : List ℕ) → IsHex word bytes → ⊥)
Misfit before Byte word kind = (kind ≡ Hex) × ((byte : ℕ) → IsHex word (byte ∷ []) → ⊥)
Misfit before FreeBatch word kind = NotNumber word 1 16 kind ⊎ ((kind ≡ Batch) × ((b : ℕ) × IsNumber word 1 16 b × IsOut b before))
Misfit before HeldBatch word kind = NotNumber word 1 16 kind ⊎ ((kind ≡ Batch) × ((b : ℕ) × IsNumber word 1 16 b × (IsOut b before → ⊥)))
Misfit before End word kind = kind ≡ Extra

-- what is wrong with these words where the field must stand first
unfoldable pub FaultAt : List Act → Field → List Word → LineFault → Type 0
FaultAt before End [] kind = ⊥
FaultAt before field [] kind = kind ≡ Missing
FaultAt before field (word ∷ words) kind = Misfit before field word kind

-- the field stands first, and these words are behind it
unfoldable pub Passes : List Act → Field → List Word → List Word → Type 0
Passes before End words rest = (words ≡ []) × (rest ≡ [])
Passes before field words rest = Takes words rest (FitsField before field)

-- the first fault of words that should be these fields
unfoldable pub FaultIn : List Act → List Field → List Word → LineFault → Type 0
FaultIn before [] words kind = ⊥
FaultIn before (field ∷ fields) words kind = FaultAt before field words kind ⊎ ((rest : List Word) × Passes before field words rest × FaultIn before fields rest kind)

-- want of memory aside, the fault of a line has this property
abbrev pub ForFault : LineError → (LineFault → Type 0) → Type 0
ForFault (Fault kind) Has = Has kind
ForFault OutOfMemory Has = Unit {0}

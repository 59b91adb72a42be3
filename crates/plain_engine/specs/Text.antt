-- The text of a mini-transaction: its changes one after another. All numbers stand high byte first.
use Rattle.std.specs.Prelude.{◌≢◌, ℕ, ◌+◌, ◌<◌, ◌≤◌, ◌^◌, List, [], ◌∷◌, ◌++◌, length}
use Rattle.std.specs.Int.{to_be_bytes, w16, w32}
use Rattle.redo_text.specs.declared.change.Change.{Change}
use Rattle.redo_text.specs.declared.change.Change.TheVariants.{Put, Kind, Touch, Floor, Encrypt}

-- the text of one change: its kind in one byte, and its fields
abbrev pub plain_change_text : Change → List ℕ
plain_change_text (Put space page at bytes) = 1 ∷ to_be_bytes w32 space ++ to_be_bytes w32 page ++ to_be_bytes w32 at ++ to_be_bytes w32 (length bytes) ++ bytes
plain_change_text (Kind space page kind) = 2 ∷ to_be_bytes w32 space ++ to_be_bytes w32 page ++ to_be_bytes w16 kind
plain_change_text (Touch space page) = 3 ∷ to_be_bytes w32 space ++ to_be_bytes w32 page
plain_change_text (Floor space version) = 4 ∷ to_be_bytes w32 space ++ to_be_bytes w32 version
plain_change_text (Encrypt space) = 5 ∷ to_be_bytes w32 space

abbrev pub mtr_text : List Change → List ℕ
mtr_text [] = []
mtr_text (c ∷ cs) = plain_change_text c ++ mtr_text cs

-- a range that isn't empty and lies in the body of a page
pub record IsPlainRange (at size : ℕ) : Type 0 where
  pub some : 0 < size
  pub from : 38 ≤ at
  pub to : at + size ≤ 16376

-- A change that the format allows. Numbers have 32 bits, and types 16.
abbrev pub IsAllowedInLog : Change → Type 0
IsAllowedInLog (Put space page at bytes) = (space < 2 ^ 32) × (0 < page) × (page < 2 ^ 32) × IsPlainRange at (length bytes)
IsAllowedInLog (Kind space page kind) = (space < 2 ^ 32) × (0 < page) × (page < 2 ^ 32) × (kind < 2 ^ 16) × (kind ≢ 8) × (kind ≢ 9)
IsAllowedInLog (Touch space page) = (space < 2 ^ 32) × (page < 2 ^ 32)
IsAllowedInLog (Floor space version) = (space < 2 ^ 32) × (version < 2 ^ 32)
IsAllowedInLog (Encrypt space) = (space < 2 ^ 32)

abbrev pub ArePlainAllowed : List Change → Type 0
ArePlainAllowed [] = Unit {0}
ArePlainAllowed (c ∷ cs) = IsAllowedInLog c × ArePlainAllowed cs

-- a mini-transaction that one block holds
pub record IsSmall (mtr : List Change) : Type 0 where
  pub allowed : ArePlainAllowed mtr
  pub some : 0 < length (mtr_text mtr)
  pub most : length (mtr_text mtr) ≤ 4076

abbrev pub AreSmall : List (List Change) → Type 0
AreSmall [] = Unit {0}
AreSmall (m ∷ ms) = IsSmall m × AreSmall ms

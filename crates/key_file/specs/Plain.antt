-- A plain key file, as a relation from its bytes to its keys or to its first fault.
use Rattle.std.specs.Prelude.{◌≡◌, ℕ, ◌+◌, ◌<◌, ◌==◌, if◌then◌else◌, ◌⊎◌, List, [], ◌∷◌, AllPairs, Option, Some, None, IsSome, IsNone, Result, Ok, Err}
use Rattle.std.specs.List.{slice_split}
use Rattle.key_file.specs.declared.fault.KeyFault.{KeyFault}
use Rattle.key_file.specs.declared.fault.KeyFault.TheVariants.{NoKeyOne}
use Rattle.key_file.specs.declared.keys.KeyItem.{KeyItem}
use Rattle.key_file.specs.Line.{line_says}

-- the lines of a text, which end at line feeds and at the end of the text
abbrev pub lines_of : List ℕ → List (List ℕ)
lines_of bytes = slice_split (λ b. b == 10) bytes

-- the fault of a line, or else the first of the later lines
abbrev pub fault_or : Result (Option KeyItem) KeyFault → Option KeyFault → Option KeyFault
fault_or (Err fault) later = Some fault
fault_or (Ok said) later = later

-- the first fault in order of lines, the first line having number n
abbrev pub first_fault : ℕ → List (List ℕ) → Option KeyFault
first_fault n [] = None
first_fault n (line ∷ lines) = fault_or (line_says n line) (first_fault (n + 1) lines)

-- the key for the id, if the line names one
abbrev pub key_for : ℕ → Result (Option KeyItem) KeyFault → Option (List ℕ)
key_for id (Err fault) = None
key_for id (Ok None) = None
key_for id (Ok (Some item)) = if item.id == id then Some item.key else None

-- a value, or else another
abbrev pub first_some : Option (List ℕ) → Option (List ℕ) → Option (List ℕ)
first_some (Some key) other = Some key
first_some None other = other

-- the key that the last line for an id names, the first line having number n
abbrev pub last_key : ℕ → List (List ℕ) → ℕ → Option (List ℕ)
last_key n [] id = None
last_key n (line ∷ lines) id = first_some (last_key (n + 1) lines id) (key_for id (line_says n line))

-- the key of an id in a list of keys
abbrev pub key_in : List KeyItem → ℕ → Option (List ℕ)
key_in [] id = None
key_in (item ∷ items) id = if item.id == id then Some item.key else key_in items id

-- each id once, ascending
abbrev pub IsAscending : List KeyItem → Type 0
IsAscending keys = AllPairs (λ a b. a.id < b.id) keys

-- the keys are the finite map that gives each id the key of its last line
pub record IsMapOf (lines : List (List ℕ)) (keys : List KeyItem) : Type 0 where
  pub ascending : IsAscending keys
  pub keys_are : (id : ℕ) → key_in keys id ≡ last_key 1 lines id

-- the bytes have these keys where no line is refused and one names id 1; else they have the fault
-- of the first line that is refused, and `NoKeyOne` after all lines
abbrev pub ReadsPlain : List ℕ → Result (List KeyItem) KeyFault → Type 0
ReadsPlain bytes (Ok keys) = (first_fault 1 (lines_of bytes) ≡ None) × IsSome (last_key 1 (lines_of bytes) 1) × IsMapOf (lines_of bytes) keys
ReadsPlain bytes (Err fault) =
    (first_fault 1 (lines_of bytes) ≡ Some fault)
    ⊎ ((first_fault 1 (lines_of bytes) ≡ None) × IsNone (last_key 1 (lines_of bytes) 1) × (fault ≡ NoKeyOne))

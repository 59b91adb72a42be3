-- What contracts see of the objects that keep everything in memory.
use Rattle.std.specs.Prelude.{ℕ, List, [], ◌∷◌, Some, None, if◌then◌else◌, AllPairs, ◌≢◌, String, Vec, string_bytes, map}
use Rattle.std.specs.Str.{bytes_eq}
use Rattle.io_core.specs.Calls.{Calls}
use Rattle.io_core.specs.Files.{Files}

-- the bytes that are still to come, and the calls
pub record SourceState : Type 0 where
  pub left : List ℕ
  pub calls : Calls

-- the bytes that it was given, the calls, and how often it was refused memory
pub record SinkState : Type 0 where
  pub given : List ℕ
  pub calls : Calls
  pub memory_refusals : ℕ

-- the names with their bytes, the calls, and how often a name wasn't there
pub record ShelfState : Type 0 where
  pub files : List (List ℕ × List ℕ)
  pub calls : Calls
  pub absences : ℕ

-- the names of a list of files as bytes, and their bytes
abbrev pub listed : {Y Z : Type 0} → List (String Y × Vec ℕ Z) → List (List ℕ × List ℕ)
listed files = map (λ f. (string_bytes f.0, f.1.items)) files

-- the files of a list, by name
abbrev pub files_of : List (List ℕ × List ℕ) → Files
files_of [] name = None
files_of (file ∷ files) name = if bytes_eq file.0 name then Some file.1 else files_of files name

-- no two names are equal
abbrev pub NamesDiffer : List (List ℕ × List ℕ) → Type 0
NamesDiffer files = AllPairs (λ a b. a.0 ≢ b.0) files

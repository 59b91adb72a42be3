-- A source or a file that is read whole, up to a limit of bytes.
use Rattle.std.specs.Prelude.{◌≡◌, ◌≤◌, ◌<◌, ℕ, List, [], length, Option, Some, None, IsSomeAnd, vec_len}
use Rattle.io_core.specs.Told.{Told}
use Rattle.io_core.specs.declared.whole.SourceContents.{SourceContents}
use Rattle.io_core.specs.declared.whole.SourceContents.TheVariants as source
use Rattle.io_core.specs.declared.whole.FileContents.{FileContents}
use Rattle.io_core.specs.declared.whole.FileContents.TheVariants as file

-- what a source of these bytes gives: all of them, or that they are more than the limit
abbrev pub IsOfSource : ℕ → List ℕ → SourceContents → Type 0
IsOfSource limit bytes (source.Whole v) = (v.items ≡ bytes) × (length bytes ≤ limit)
IsOfSource limit bytes source.TooLarge = limit < length bytes

-- bytes that are given are no more than the limit
abbrev pub IsWithin : ℕ → SourceContents → Type 0
IsWithin limit (source.Whole v) = vec_len v ≤ limit
IsWithin limit source.TooLarge = Unit {0}

-- where all bytes are given, none is to come
abbrev pub IsDrained : Option (List ℕ) → SourceContents → Type 0
IsDrained left (source.Whole v) = Told (λ bytes. bytes ≡ []) left
IsDrained left source.TooLarge = Unit {0}

-- what a file gives: all its bytes, or that they are more than the limit, or that there is none
abbrev pub IsOfFile : ℕ → Option (List ℕ) → FileContents → Type 0
IsOfFile limit found (file.Whole v) = (found ≡ Some v.items) × (vec_len v ≤ limit)
IsOfFile limit found file.TooLarge = IsSomeAnd found (λ bytes. limit < length bytes)
IsOfFile limit found file.Missing = found ≡ None

-- bytes that are given are no more than the limit
abbrev pub IsFileWithin : ℕ → FileContents → Type 0
IsFileWithin limit (file.Whole v) = vec_len v ≤ limit
IsFileWithin limit _ = Unit {0}

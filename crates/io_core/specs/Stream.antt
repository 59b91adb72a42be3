-- The bytes of a source that are still to come, and those that a sink was given, where they are told.
use Rattle.std.specs.Prelude.{◌≡◌, ℕ, List, ◌++◌, take, Option, Some, None}

-- these bytes, and then those
abbrev pub prefixed : List ℕ → Option (List ℕ) → Option (List ℕ)
prefixed bytes None = None
prefixed bytes (Some rest) = Some (bytes ++ rest)

-- those bytes, and then these
abbrev pub extended : List ℕ → Option (List ℕ) → Option (List ℕ)
extended bytes None = None
extended bytes (Some front) = Some (front ++ bytes)

-- The bytes to come are the earlier ones without some at their front.
abbrev pub IsLeftOf : Option (List ℕ) → Option (List ℕ) → Type 0
IsLeftOf before now = (taken : List ℕ) × (before ≡ prefixed taken now)

-- Some of the bytes, from their front on, were given.
abbrev pub IsPartlyGiven : List ℕ → Option (List ℕ) → Option (List ℕ) → Type 0
IsPartlyGiven bytes before now = (k : ℕ) × (now ≡ extended (take k bytes) before)

-- Lists of bytes and their parts. Places are counted from 0.
use Rattle.std.specs.Prelude.{ℕ, ◌+◌, ◌-◌, ◌<◌, List, ◌++◌, length, take, drop, replicate, slice_index}

-- each element is a byte
abbrev pub AreBytes : List ℕ → Type 0
AreBytes bytes = (i : ℕ) → slice_index bytes i < 256

-- n zero bytes
unfoldable pub zeros : ℕ → List ℕ
zeros n = replicate n 0

-- the n bytes from a place on
abbrev pub range : ℕ → ℕ → List ℕ → List ℕ
range at n bytes = take n (drop at bytes)

-- the bytes with others in place of theirs from a place on
abbrev pub put : ℕ → List ℕ → List ℕ → List ℕ
put at new bytes = take at bytes ++ new ++ drop (at + length new) bytes

-- the bytes from a place up to another
abbrev pub part_of : List ℕ → ℕ → ℕ → List ℕ
part_of bytes at to = take (to - at) (drop at bytes)

-- the bytes with others in place of those from a place up to another
abbrev pub with_part : List ℕ → ℕ → ℕ → List ℕ → List ℕ
with_part bytes at to new = take at bytes ++ (new ++ drop to bytes)

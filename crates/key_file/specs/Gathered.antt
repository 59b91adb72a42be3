-- The keys of the lines of a text while they are gathered.
use Rattle.std.specs.Prelude.{◌≡◌, ℕ, List, map, None, IsOk}
use Rattle.std.specs.Ordering.{nat_cmp}
use Rattle.std.specs.BTreeMap.{BTreeMap, get}
use Rattle.key_file.specs.declared.keys.KeyItem.{KeyItem}
use Rattle.key_file.specs.Line.{line_says}
use Rattle.key_file.specs.Plain.{first_fault, first_some, key_for, last_key}

-- the line is not refused, and the key that it names takes the place of an earlier one
pub record TakesLine (old new : BTreeMap ℕ (List ℕ)) (n : ℕ) (line : List ℕ) : Type 0 where
  pub accepted : IsOk (line_says n line)
  pub keys_are : (id : ℕ) → get nat_cmp new id ≡ first_some (key_for id (line_says n line)) (get nat_cmp old id)

-- no line is refused, and each id has the key of its last line
pub record IsGathered (lines : List (List ℕ)) (keys : BTreeMap ℕ (List ℕ)) : Type 0 where
  pub no_fault : first_fault 1 lines ≡ None
  pub keys_are : (id : ℕ) → get nat_cmp keys id ≡ last_key 1 lines id

-- the entries of a map as items
abbrev pub items_of : List (ℕ × List ℕ) → List KeyItem
items_of entries = map (λ e. record { id = e.0; key = e.1 }) entries

-- Which pages have to be written anew under the latest key version, and the least version that pages need.
use Rattle.std.specs.Prelude.{◌≡◌, ◌≢◌, ℕ, ◌+◌, ◌<◌, ◌≤◌, ◌==◌, nat_lt, Bool, true, false, not, ◌&&◌, ◌||◌, List, length, slice_index_or}
use Rattle.space_head.specs.declared.space.Home.{Home}
use Rattle.space_head.specs.declared.space.Home.TheVariants.{Unused, Clean, Dirty}

-- The age rule. With an age of 0 or a latest version of 0 nothing is to be written anew; else a page in clear is, and one of a version that with the age added is below the latest.
abbrev pub needs_rotation : ℕ → ℕ → ℕ → Bool
needs_rotation version latest age = not (age == 0) && not (latest == 0) && (version == 0 || nat_lt (version + age) latest)

-- a clean used page that has to be written anew
abbrev pub is_due : ℕ → ℕ → Home → Bool
is_due latest age Unused = false
is_due latest age (Clean version) = needs_rotation version latest age
is_due latest age Dirty = false

-- page p, unused past the end
abbrev pub home_at : List Home → ℕ → Home
home_at homes p = slice_index_or homes p Unused

module _ (homes : List Home) where
  -- no page from page 1 on and below this one is due
  abbrev pub NoneDueBelow : ℕ → ℕ → ℕ → Type 0
  NoneDueBelow latest age end = (p : ℕ) → 1 ≤ p → p < end → is_due latest age (home_at homes p) ≡ false

  -- the first page from page 1 on that is due
  pub record IsFirstDue (latest age page : ℕ) : Type 0 where
    pub from : 1 ≤ page
    pub within : page < length homes
    pub due : is_due latest age (home_at homes page) ≡ true
    pub none_before : NoneDueBelow latest age page

  -- no page from page 1 on is dirty
  abbrev pub NoneDirty : Type 0
  NoneDirty = (p : ℕ) → 1 ≤ p → home_at homes p ≢ Dirty

  -- no page from page 1 on and below this one is clean
  abbrev pub NoneCleanBelow : ℕ → Type 0
  NoneCleanBelow end = (p : ℕ) (version : ℕ) → 1 ≤ p → p < end → home_at homes p ≢ Clean version

  -- the least version of the clean pages from page 1 on and below this one
  pub record IsLeastBelow (end version : ℕ) : Type 0 where
    pub page : ℕ
    pub from : 1 ≤ page
    pub within : page < end
    pub is : home_at homes page ≡ Clean version
    pub least : (p : ℕ) (other : ℕ) → 1 ≤ p → p < end → home_at homes p ≡ Clean other → version ≤ other

-- Clean pages in the slots of a cache.
use Rattle.std.specs.Prelude.{◌≡◌, ℕ, zero, suc, Bool, false, nat_eq, if◌then◌else◌, List, [], ◌∷◌, ◌++◌, length, MatchOption, Option, Some, None}
use Rattle.std.specs.Map.{remove_entry}
use Rattle.store_model.specs.declared.contents.PlainPage.{PlainPage}
use Rattle.page_pool.specs.declared.names.PageName.{PageName}
use Rattle.page_pool.specs.Pages.{is_name}

-- what a slot holds: a page or none
abbrev pub SlotContents : Type 0
SlotContents = Option (PageName × PlainPage)

-- one page more where the slot holds one
abbrev pub with_held : SlotContents → List (PageName × PlainPage) → List (PageName × PlainPage)
with_held None pages = pages
with_held (Some page) pages = page ∷ pages

-- the pages in slots
abbrev pub held_in : List (ℕ × SlotContents) → List (PageName × PlainPage)
held_in [] = []
held_in (e ∷ es) = with_held e.1 (held_in es)

-- slots without a page, from this number down
abbrev pub empty_slots : ℕ → List (ℕ × SlotContents)
empty_slots zero = []
empty_slots (suc n) = (n, None) ∷ empty_slots n

abbrev pub holds : PageName → SlotContents → Bool
holds name None = false
holds name (Some page) = is_name name page.0

-- the slot that holds a page
abbrev pub slot_holding : PageName → List (ℕ × SlotContents) → Option ℕ
slot_holding name [] = None
slot_holding name (e ∷ es) = if holds name e.1 then Some e.0 else slot_holding name es

-- behind a slot without a page there is none with one
abbrev pub HoldFirst : List (ℕ × SlotContents) → Type 0
HoldFirst [] = Unit {0}
HoldFirst (e ∷ es) = MatchOption e.1 (held_in es ≡ []) (λ page. HoldFirst es)

-- the slots of a cache
pub record AreSlots (es : List (ℕ × SlotContents)) : Type 0 where
  pub all : length es ≡ 64
  pub first : HoldFirst es

-- a slot without its page, behind all others
abbrev pub emptied : ℕ → List (ℕ × SlotContents) → List (ℕ × SlotContents)
emptied k es = remove_entry (nat_eq k) es ++ (k, None) ∷ []

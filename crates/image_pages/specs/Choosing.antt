-- What a page is read from, by the bytes of its home and of the doublewrite file.
use Rattle.std.specs.Prelude.{◌≡◌, ◌≢◌, ℕ, ◌<◌, ◌≤◌, nat_le, if◌then◌else◌, List, [], Option, Some, None}
use Rattle.places.specs.Places.{place}
use Rattle.page_places.specs.Texts.{held, slot_held, text_in, slot_size}
use Rattle.store_image.specs.Groups.{copy_of}
use Rattle.store_image.specs.View.{Text, Holds, Slot, View, IsCopy, IsChosen, slot_count}
use Rattle.image_pages.specs.declared.choosing.Chosen.{Chosen}
use Rattle.image_pages.specs.declared.choosing.Chosen.TheVariants.{Home, Copy, Unused, Nothing}
use Rattle.image_pages.specs.declared.copies.Newest.{Newest}
use Rattle.store_image.specs.Places.{LogView}

-- slot i of a doublewrite file
abbrev pub slot_in : List ℕ → ℕ → Option Slot
slot_in double i = slot_held (place slot_size i double)

-- the view of a page alone: what the log says, its home and the doublewrite file
abbrev pub page_view : {M : Type 0} → LogView M → List ℕ → List ℕ → View M
page_view log home double = record { from = log.from; end = log.end; run = log.run; home = λ s p. held p home; slot = slot_in double; told = [] }

-- a log that says nothing: what a page is read from hangs on its home and the doublewrite file alone
abbrev pub no_log : LogView (Unit {0})
no_log = record { from = 0; end = 0; run = [] }

-- a slot has a copy of the page with this LSN, or none
abbrev pub IsCopyIn : List ℕ → ℕ → ℕ → Option ℕ → Type 0
IsCopyIn slot s p None = (t : Text) → slot_held slot ≢ copy_of s p t
IsCopyIn slot s p (Some lsn) = (t : Text) × (slot_held slot ≡ copy_of s p t) × (t.lsn ≡ lsn)

-- of two copies the newer, of two of one LSN the first
abbrev pub better : Option Newest → Option ℕ → ℕ → Option Newest
better best None index = best
better None (Some lsn) index = Some (record { index = index; lsn = lsn })
better (Some c) (Some lsn) index = if nat_le lsn c.lsn then Some c else Some (record { index = index; lsn = lsn })

-- the page's copy of greatest LSN in the first n slots, of several the one of least index
pub record IsBest (double : List ℕ) (s p n : ℕ) (c : Newest) : Type 0 where
  pub text : Text
  pub below : c.index < n
  pub is : slot_in double c.index ≡ copy_of s p text
  pub lsn : text.lsn ≡ c.lsn
  pub most : (j : ℕ) (u : Text) → j < n → slot_in double j ≡ copy_of s p u → u.lsn ≤ c.lsn
  pub first : (j : ℕ) (u : Text) → j < n → slot_in double j ≡ copy_of s p u → u.lsn ≡ c.lsn → c.index ≤ j

-- or none of them has one
abbrev pub Best : List ℕ → ℕ → ℕ → ℕ → Option Newest → Type 0
Best double s p n None = (j : ℕ) (u : Text) → j < n → slot_in double j ≢ copy_of s p u
Best double s p n (Some c) = IsBest double s p n c

-- The page is read from its home, from this copy, of those of its LSN the one of least index, from nothing as it is unused, or it can't be read.
abbrev pub IsTextChoice : List ℕ → List ℕ → ℕ → ℕ → Chosen → Type 0
IsTextChoice home double s p Home = (held p home ≡ Holds (text_in home)) × IsChosen (page_view no_log home double) s p (Some (text_in home))
IsTextChoice home double s p (Copy i) = (t : Text) × (slot_in double i ≡ copy_of s p t) × (i < slot_count) × IsChosen (page_view no_log home double) s p (Some t) × ((j : ℕ) (u : Text) → IsCopy (page_view no_log home double) s p j u → u.lsn ≡ t.lsn → i ≤ j)
IsTextChoice home double s p Unused = IsChosen (page_view no_log home double) s p None
IsTextChoice home double s p Nothing = (chosen : Option Text) → IsChosen (page_view no_log home double) s p chosen → ⊥

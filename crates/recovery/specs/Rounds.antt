-- The pages of a space that have changes later than their text, and the ranges in which they are taken.
use Rattle.std.specs.Prelude.{ℕ, zero, suc, ◌+◌, Bool, nat_lt, if◌then◌else◌, List, slice_index_or}
use Rattle.recovery.specs.Notes.{no_note}
use Rattle.recovery.specs.declared.notes.PageNote.{PageNote}

-- the LSN of the page's last change in the run is above that of its text
abbrev pub has_later : List PageNote → List ℕ → ℕ → Bool
has_later notes last p = nat_lt (slice_index_or notes p no_note).lsn (slice_index_or last p 0)

-- how many of so many pages from one on have a property
abbrev pub count_in : (ℕ → Bool) → ℕ → ℕ → ℕ
count_in has from zero = 0
count_in has from (suc n) = count_in has from n + (if has (from + n) then 1 else 0)

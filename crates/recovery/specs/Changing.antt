-- What the changes of a mini-transaction make of the pages of a round.
use Rattle.std.specs.Prelude.{◌≡◌, ℕ, ◌<◌, ◌≤◌, Bool, true, nat_eq, nat_le, nat_lt, ◌&&◌, if◌then◌else◌, List, slice_index_or}
use Rattle.page_pool.specs.Changes.{held_after}
use Rattle.page_pool.specs.Pages.{PoolState, held_page}
use Rattle.page_pool.specs.declared.names.PageName.{PageName}
use Rattle.redo_text.specs.declared.change.Change.{Change}
use Rattle.store_files.specs.RingBlock.{IsMtrText}
use Rattle.recovery.specs.Loading.{HoldsRange, name_in}
use Rattle.recovery.specs.Notes.{no_note}
use Rattle.recovery.specs.Rounds.{has_later}
use Rattle.recovery.specs.declared.notes.PageNote.{PageNote}

-- a change of this page at an LSN is to be made: it is one of these pages of the space, with later changes, and the LSN is above that of its text
abbrev pub is_wanted : List PageNote → List ℕ → ℕ → ℕ → ℕ → PageName → ℕ → Bool
is_wanted notes last s from end name lsn =
    nat_eq name.space s && (nat_le from name.page && (nat_lt name.page end && (has_later notes last name.page && nat_lt (slice_index_or notes name.page no_note).lsn lsn)))

-- Each page of the range with later changes is as the changes of a mini-transaction of this LSN leave it, where that is above the LSN of its text, and else as it was.
pub record ChangesRange (notes : List PageNote) (last : List ℕ) (s from end lsn : ℕ) (changes : List Change) (old new : PoolState) : Type 0 where
  pub each : (p : ℕ) → from ≤ p → p < end → has_later notes last p ≡ true
      → held_page (name_in s p) new ≡ (if nat_le lsn (slice_index_or notes p no_note).lsn then held_page (name_in s p) old else held_after changes (name_in s p) (held_page (name_in s p) old))

-- Those of the mini-transaction with this text do so.
pub record ChangesByText (notes : List PageNote) (last : List ℕ) (s from end lsn : ℕ) (text : List ℕ) (old new : PoolState) : Type 0 where
  pub changes : List Change
  pub text_of : IsMtrText text changes
  pub made : ChangesRange notes last s from end lsn changes old new

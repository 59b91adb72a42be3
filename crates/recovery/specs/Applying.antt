-- What the run makes of the pages of a round.
use Rattle.std.specs.Prelude.{◌≡◌, ℕ, ◌<◌, ◌≤◌, ◌^◌, true, List, slice_index_or, Option}
use Rattle.key_ring.specs.Ring.{RingEntry}
use Rattle.disk_model.specs.Event.{Event, reads}
use Rattle.disk_model.specs.Past.{Past, At}
use Rattle.disk_model.specs.declared.names.FileName.TheVariants.{Log}
use Rattle.doublewrite.specs.declared.refuse.OpenRefuse.{OpenRefuse}
use Rattle.doublewrite.specs.declared.refuse.OpenRefuse.TheVariants.{BadRecord, Damaged, DiskFault, MissingKey, OutOfMemory}
use Rattle.page_pool.specs.Changes.{held_after}
use Rattle.page_pool.specs.Pages.{PoolState, held_page}
use Rattle.redo_text.specs.Text.{AreAllowed}
use Rattle.redo_text.specs.declared.change.Change.{Change}
use Rattle.store_files.specs.Header.{HeldHeader}
use Rattle.store_files.specs.Run.{AreLogEntries, block_at}
use Rattle.store_image.specs.Recovers.{later_by}
use Rattle.store_image.specs.View.{Logged}
use Rattle.store_model.specs.declared.contents.PlainPage.{PlainPage}
use Rattle.recovery.specs.Loading.{name_in}
use Rattle.recovery.specs.Notes.{no_note}
use Rattle.recovery.specs.Passed.{RunPassed}
use Rattle.recovery.specs.Rounds.{has_later}
use Rattle.recovery.specs.Walks.{AllHave}
use Rattle.recovery.specs.declared.notes.PageNote.{PageNote}

-- what the mini-transactions of a run with an LSN above this one make of what a page holds
abbrev pub held_later : ℕ → List (Logged (List Change)) → ℕ → ℕ → Option PlainPage → Option PlainPage
held_later lsn run s p o = later_by (λ changes z q. held_after changes (name_in z q)) lsn run s p o

-- each change of the run is allowed
abbrev pub IsAllowedRun : List (Logged (List Change)) → Type 0
IsAllowedRun run = AllHave (λ e. AreAllowed e.mtr) run

-- Each page of the range with later changes is as those of the run leave it.
pub record AppliesRun (notes : List PageNote) (last : List ℕ) (s from end : ℕ) (run : List (Logged (List Change))) (old new : PoolState) : Type 0 where
  pub each : (p : ℕ) → from ≤ p → p < end → has_later notes last p ≡ true
      → held_page (name_in s p) new ≡ held_later (slice_index_or notes p no_note).lsn run s p (held_page (name_in s p) old)

module _ (header : HeldHeader) (keys : List RingEntry) (first stop : ℕ) where
  -- the blocks from one number up to another say mini-transactions
  abbrev pub SaysRun : List Event → Type 0
  SaysRun es = (run : List (Logged (List Change))) × AreLogEntries header keys (reads Log es) first run stop

  module _ (notes : List PageNote) (last : List ℕ) (s from end : ℕ) where
    -- And each page of the range with later changes is as these leave it.
    pub record AppliesLog (old new : PoolState) (es : List Event) : Type 0 where
      pub run : List (Logged (List Change))
      pub entries : AreLogEntries header keys (reads Log es) first run stop
      pub applies : AppliesRun notes last s from end run old new

    -- The blocks up to a number are passed: the mini-transactions up to the one that begins with block next are applied, and this is the text of the blocks behind them.
    pub record AppliesUpTo (next number : ℕ) (text : List ℕ) (old now : PoolState) (es : List Event) : Type 0 where
      pub run : List (Logged (List Change))
      pub passed : RunPassed header keys first stop next number text run es
      pub applies : AppliesRun notes last s from end run old now

    -- The block of this number was read, and it is one of the run.
    pub record IsAtApplied (next number : ℕ) (block text : List ℕ) (old now : PoolState) (es : List Event) : Type 0 where
      pub here : block ≡ block_at header.blocks (reads Log es) number
      pub within : number < stop
      pub most : stop ≤ 2 ^ 51
      pub says : SaysRun es
      pub upto : AppliesUpTo next number text old now es

-- want of memory is all that such a block may be refused for
abbrev pub IsWant : OpenRefuse → Type 0
IsWant OutOfMemory = Unit {0}
IsWant r = ⊥

-- A refusal by the disk, or of memory. One by a block, or by a text, is met only where the disk doesn't tell its past.
abbrev pub IsRunRefusal : Past → OpenRefuse → Type 0
IsRunRefusal past (BadRecord number at) = At (λ es. ⊥) past
IsRunRefusal past (Damaged file at stored computed) = At (λ es. ⊥) past
IsRunRefusal past (MissingKey id version) = At (λ es. ⊥) past
IsRunRefusal past DiskFault = Unit {0}
IsRunRefusal past OutOfMemory = Unit {0}
IsRunRefusal past r = ⊥

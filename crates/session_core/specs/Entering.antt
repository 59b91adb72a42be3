-- A mini-transaction becomes an entry of the journal.
use Rattle.std.specs.Prelude.{◌≡◌, ◌≢◌, ◌⊎◌, ℕ, ◌+◌, ◌*◌, ◌<◌, ◌≤◌, true, List, [], ◌∷◌, ◌++◌, length, Option, Some, None}
use Rattle.counted_disk.specs.declared.counted.Counted.{Counted}
use Rattle.disk_model.specs.Event.{Event}
use Rattle.disk_model.specs.Past.{Past, At}
use Rattle.page_pool.specs.Changes.{fresh_pages, held_after, page_of_change, pool_after}
use Rattle.page_pool.specs.Pages.{PoolState, held_page}
use Rattle.page_pool.specs.declared.names.PageName.{PageName}
use Rattle.redo_log.specs.Append.{IsEntry, JournalGrows, appended, with_pending}
use Rattle.redo_log.specs.Blocks.{Keys, redo_form}
use Rattle.redo_log.specs.Log.{FitsRing, free_of}
use Rattle.redo_log.specs.Recorded.{BlocksOnce}
use Rattle.redo_log.specs.State.{LogState}
use Rattle.redo_text.specs.Block.{block_count}
use Rattle.redo_text.specs.Text.{text_of}
use Rattle.redo_text.specs.declared.change.Change.{Change}
use Rattle.redo_text.specs.declared.key.RedoKey.{RedoKey}
use Rattle.redo_text.specs.declared.key.TheConstants.{LAST_BLOCK}
use Rattle.ring_log.specs.Ring.{RingReady, RingState}
use Rattle.store_image.specs.View.{block_bytes, most_mtr_blocks}
use Rattle.session_core.specs.Holding.{HoldsNamed, IsHoldRefusal, LooksForPages}
use Rattle.session_core.specs.Keys.{log_key}
use Rattle.session_core.specs.Session.{Running}
use Rattle.session_core.specs.SpaceChanges.{spaces_after}
use Rattle.session_core.specs.declared.fault.EngineFault.{EngineFault}
use Rattle.session_core.specs.declared.fault.EngineFault.TheVariants.{LogFull, OutOfMemory, PoolFull, Spent, TooLong}
use Rattle.session_core.specs.declared.journal.Author.{Author}
use Rattle.session_core.specs.declared.journal.Entry.{Entry}
use Rattle.session_core.specs.declared.journal.Receipt.{Receipt}

-- the changes name pages from page 1 on
abbrev pub AreFromOne : List Change → Type 0
AreFromOne [] = Unit {0}
AreFromOne (c ∷ cs) = ((page_of_change c).page ≢ 0) × AreFromOne cs

-- each page holds what the changes that name it make of it
abbrev pub HoldsAfter : List Change → PoolState → PoolState → Type 0
HoldsAfter cs old new = (name : PageName) → held_page name new ≡ held_after cs name (held_page name old)

-- how many blocks a mini-transaction has
abbrev pub mtr_block_count : List Change → ℕ
mtr_block_count mtr = block_count (text_of mtr)

-- There is room: its blocks are few, have numbers and are free, and so many pages may be dirty.
pub record HasEntryRoom (log : LogState) (pool : PoolState) (mtr : List Change) : Type 0 where
  pub few : mtr_block_count mtr ≤ most_mtr_blocks
  pub numbers : log.next + mtr_block_count mtr ≤ LAST_BLOCK
  pub pages : length pool.dirty.entries + fresh_pages mtr pool.dirty ≤ 256
  pub blocks : mtr_block_count mtr ≤ free_of log

-- Or there is none, for the first of these reasons.
pub data HasNoEntryRoom (log : LogState) (pool : PoolState) (mtr : List Change) : EngineFault → Type 0 where
  Long : most_mtr_blocks < mtr_block_count mtr → HasNoEntryRoom log pool mtr (TooLong (mtr_block_count mtr))
  NoNumbers : mtr_block_count mtr ≤ most_mtr_blocks → LAST_BLOCK < log.next + mtr_block_count mtr → HasNoEntryRoom log pool mtr (Spent log.next)
  NoPages : mtr_block_count mtr ≤ most_mtr_blocks → log.next + mtr_block_count mtr ≤ LAST_BLOCK → 256 < length pool.dirty.entries + fresh_pages mtr pool.dirty
      → HasNoEntryRoom log pool mtr (PoolFull (length pool.dirty.entries) (fresh_pages mtr pool.dirty))
  NoBlocks : mtr_block_count mtr ≤ most_mtr_blocks → log.next + mtr_block_count mtr ≤ LAST_BLOCK → length pool.dirty.entries + fresh_pages mtr pool.dirty ≤ 256 → free_of log < mtr_block_count mtr
      → HasNoEntryRoom log pool mtr (LogFull (mtr_block_count mtr) (free_of log))

-- the LSN of a mini-transaction behind this log: 4096 times the number of the block behind its last one
abbrev pub lsn_behind : LogState → List Change → ℕ
lsn_behind log mtr = (log.next + mtr_block_count mtr) * block_bytes

-- Its blocks are pending: the log is the one with them more, and a ring, a journal or a record of writes that the old one fitted fits it so.
pub record IsAppended (old new : LogState) (mtr : List Change) (key : RedoKey) : Type 0 where
  pub added : new ≡ appended old mtr key
  pub entry : IsEntry old new mtr key
  pub fits : (r : RingState) → FitsRing r old → FitsRing (with_pending r new) new
  pub ready : (keys : Keys) (r : RingState) (past : Past) → At (RingReady old.blocks (redo_form keys) r) past → At (RingReady old.blocks (redo_form keys) (with_pending r new)) past
  pub journal : JournalGrows old new mtr key
  pub recorded : (es : List Event) → BlocksOnce old es → BlocksOnce new es

-- the entry that it becomes
abbrev pub entry_behind : LogState → Option Author → List Change → Entry
entry_behind log by mtr = record { by = by; lsn = lsn_behind log mtr; mtr = mtr }

-- the session with the entry, under this key of the log, where the pool held its pages so
abbrev pub with_entry : {D : Type 0} → Running D → Option Author → List Change → RedoKey → PoolState → Counted D → Running D
with_entry r by mtr key pool disk = record r {
  disk = disk;
  store = spaces_after mtr r.store;
  journal = r.journal ++ entry_behind r.log by mtr ∷ [];
  log = appended r.log mtr key;
  pool = pool_after (lsn_behind r.log mtr) r.log.next mtr pool;
}

-- The same where its pages are at hand.
pub record EntersHeld {D : Type 0} (by : Option Author) (mtr : List Change) (old new : Running D) : Type 0 where
  pub key : RedoKey
  pub key_is : log_key old.ring old.store.header.algorithm old.store.header.salt old.active ≡ Some key
  pub is : new ≡ with_entry old by mtr key old.pool old.disk
  pub appends : IsAppended old.log new.log mtr key

-- The mini-transaction is the journal's last entry, its blocks are pending under the active version, and its changes are made; homes of its pages may have been read.
pub record IsEntered {D : Type 0} (past : D → Past) (by : Option Author) (mtr : List Change) (old new : Running D) : Type 0 where
  pub room : HasEntryRoom old.log old.pool mtr
  pub key : RedoKey
  pub key_is : log_key old.ring old.store.header.algorithm old.store.header.salt old.active ≡ Some key
  pub pool : PoolState
  pub held : HoldsNamed old.ring old.store (past old.disk.disk) mtr old.pool pool
  pub is : new ≡ with_entry old by mtr key pool new.disk
  pub appends : IsAppended old.log new.log mtr key
  pub past_is : past new.disk.disk ≡ past old.disk.disk

-- the answer: how many entries there are with it, and its LSN
abbrev pub receipt_of : {D : Type 0} → Running D → List Change → Receipt
receipt_of r mtr = record { place = length r.journal + 1; lsn = lsn_behind r.log mtr }

-- but for its disk, which was only read, and the clean pages, the session is as it was
pub record OnlyLooksFor {D : Type 0} (past : D → Past) (mtr : List Change) (old new : Running D) : Type 0 where
  pub same : new ≡ record old { disk = new.disk; pool = new.pool }
  pub looks : LooksForPages old.ring old.store (past old.disk.disk) mtr old.pool new.pool
  pub past_is : past new.disk.disk ≡ past old.disk.disk

-- Why it isn't entered, in this order: there is no room, and nothing is changed; one of its pages isn't held; or the machine has no memory.
pub data IsNotEntered {D : Type 0} (past : D → Past) (mtr : List Change) (old new : Running D) : EngineFault → Type 0 where
  NoRoom : (e : EngineFault) → HasNoEntryRoom old.log old.pool mtr e → new ≡ old → IsNotEntered past mtr old new e
  NotHeld : (e : EngineFault) → HasEntryRoom old.log old.pool mtr → IsHoldRefusal old.ring old.store (past old.disk.disk) mtr new.disk old.pool e → OnlyLooksFor past mtr old new → IsNotEntered past mtr old new e
  Wants : HasEntryRoom old.log old.pool mtr → new.disk.stop ≡ None → OnlyLooksFor past mtr old new → IsNotEntered past mtr old new OutOfMemory

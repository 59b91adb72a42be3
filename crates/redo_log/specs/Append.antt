-- A mini-transaction is added to the pending blocks, or isn't taken, or is taken back.
use Rattle.std.specs.Prelude.{◌≡◌, ℕ, ◌+◌, ◌-◌, ◌*◌, ◌^◌, ◌<◌, ◌≤◌, true, false, List, [], ◌∷◌, ◌++◌, take, nat_lt, if◌then◌else◌}
use Rattle.aes_core.specs.Cipher.{IsKey as IsCipherKey}
use Rattle.store_image.specs.View.{block_bytes, Logged}
use Rattle.ring_log.specs.Ring.{RingState, AreWholeEntries, IsRingJournal, IsRingState}
use Rattle.redo_text.specs.declared.change.Change.{Change}
use Rattle.redo_text.specs.declared.key.RedoKey.{RedoKey}
use Rattle.redo_text.specs.declared.key.TheConstants.{LAST_BLOCK}
use Rattle.redo_text.specs.Block.{block_count, blocks}
use Rattle.redo_text.specs.Reading.{block_flags, is_first}
use Rattle.redo_text.specs.Text.{text_of}
use Rattle.redo_log.specs.State.{LogState}
use Rattle.redo_log.specs.Blocks.{Keys, IsStoreKey, redo_form}
use Rattle.redo_log.specs.Log.{durable, free_of, pending_at, pending_count, FitsRing}
use Rattle.redo_log.specs.declared.log.LogFault.{LogFault}
use Rattle.redo_log.specs.declared.log.LogFault.TheVariants.{Spent, LogFull, OutOfMemory}

-- a key of 16 bytes, with a version
pub record IsRedoKey (key : RedoKey) : Type 0 where
  pub cipher : IsCipherKey key.local
  pub some : 1 ≤ key.version
  pub small : key.version < 2 ^ 32

-- the log with the blocks of a mini-transaction more
abbrev pub appended : LogState → List Change → RedoKey → LogState
appended log mtr key = record log { next = log.next + block_count (text_of mtr); pending = log.pending ++ blocks key log.next (text_of mtr) }

-- the log with its last k blocks fewer
abbrev pub taken_back : LogState → ℕ → LogState
taken_back log k = record log { next = log.next - k; pending = take ((pending_count log - k) * block_bytes) log.pending }

-- Each refusal comes exactly where its condition is the first that holds. Without one the mini-transaction is taken, but where there is no memory.
abbrev pub IsLogRefusal : LogState → ℕ → LogFault → Type 0
IsLogRefusal log needed (Spent next) = (next ≡ log.next) × (LAST_BLOCK < log.next + needed)
IsLogRefusal log needed (LogFull n free) = (log.next + needed ≤ LAST_BLOCK) × (n ≡ needed) × (free ≡ free_of log) × (free_of log < needed)
IsLogRefusal log needed OutOfMemory = (log.next + needed ≤ LAST_BLOCK) × (needed ≤ free_of log)

-- so many blocks more are within the numbers of blocks and within the ring
abbrev pub HasRoomFor : LogState → ℕ → Type 0
HasRoomFor log needed = (log.next + needed ≤ LAST_BLOCK) × (needed ≤ free_of log)

-- these are the bytes of the pending blocks
abbrev pub HasPending : (ℕ → List ℕ) → LogState → Type 0
HasPending block log = (j : ℕ) → j < pending_count log → block (durable log + j) ≡ pending_at log j

-- the mini-transaction as an entry of the journal, behind the next block's number of this log
abbrev pub logged_entry : LogState → List Change → Logged (List Change)
logged_entry log mtr = record { first = log.next; lsn = (log.next + block_count (text_of mtr)) * block_bytes; mtr = mtr }

-- The pending blocks of the new log end with those of the mini-transaction: it is the journal's next entry, under the keys of each store whose key this is.
abbrev pub IsEntry : LogState → LogState → List Change → RedoKey → Type 0
IsEntry old new mtr key =
    (keys : Keys) → IsStoreKey keys key → (block : ℕ → List ℕ) → HasPending block new → AreWholeEntries old.blocks (redo_form keys) block old.next (logged_entry old mtr ∷ []) new.next

-- the last k pending blocks are those of one mini-transaction, by their flags, and none of them was handed to the disk
pub record HasLast (log : LogState) (k : ℕ) : Type 0 where
  pub some : 0 < k
  pub within : k ≤ pending_count log
  pub kept : log.handed + k ≤ log.next
  pub first : is_first (block_flags (pending_at log (pending_count log - k))) ≡ true
  pub others : (j : ℕ) → pending_count log - k < j → j < pending_count log → is_first (block_flags (pending_at log j)) ≡ false

-- the ring whose blocks behind the written ones are the pending ones of this log
abbrev pub with_pending : RingState → LogState → RingState
with_pending r log = record r { block = λ n. if nat_lt n r.written then r.block n else pending_at log (n - r.written) }

-- The journal of a ring that the old log fits goes on with the mini-transaction, under the keys of each store whose key this is.
abbrev pub JournalGrows : LogState → LogState → List Change → RedoKey → Type 0
JournalGrows old new mtr key =
    (keys : Keys) → IsStoreKey keys key → (r : RingState) (start : ℕ) (journal : List (Logged (List Change))) → FitsRing r old → IsRingState old.blocks (redo_form keys) r
    → IsRingJournal old.blocks (redo_form keys) r start journal old.next → IsRingJournal old.blocks (redo_form keys) (with_pending r new) start (journal ++ logged_entry old mtr ∷ []) new.next

-- The journal of a ring that the old log fits is without its last mini-transaction.
abbrev pub JournalShrinks : LogState → LogState → Type 0
JournalShrinks old new =
    (keys : Keys) (r : RingState) (start : ℕ) (journal : List (Logged (List Change))) (last : Logged (List Change)) → FitsRing r old → IsRingState old.blocks (redo_form keys) r
    → IsRingJournal old.blocks (redo_form keys) r start (journal ++ last ∷ []) old.next → IsRingJournal old.blocks (redo_form keys) r start journal new.next

-- What the record of writes says of the log's ring blocks: of one number one block alone was ever written.
use Rattle.std.specs.Prelude.{◌≡◌, ℕ, ◌+◌, ◌-◌, ◌<◌, ◌≤◌, List}
use Rattle.crash_image.specs.Writes.{Once, written_items}
use Rattle.disk_model.specs.Event.{Event, record_of}
use Rattle.key_ring.specs.Ring.{RingEntry}
use Rattle.redo_text.specs.Reading.{block_version}
use Rattle.redo_text.specs.declared.change.Change.{Change}
use Rattle.ring_log.specs.Ring.{RingState, IsRunOf}
use Rattle.store_files.specs.Header.{HeldHeader}
use Rattle.store_image.specs.Places.{LogView}
use Rattle.store_image.specs.Record.{IsAmongBlocks}
use Rattle.store_image.specs.View.{Logged}
use Rattle.redo_log.specs.State.{LogState}
use Rattle.redo_log.specs.Blocks.{Keys, redo_form}
use Rattle.redo_log.specs.Log.{durable, pending_at}

-- a ring block of this number and version was written
abbrev pub IsBlockWritten : List Event → ℕ → ℕ → List ℕ → Type 0
IsBlockWritten es n v b = IsAmongBlocks (written_items (record_of es)) n v b

-- of one number one block alone was written
abbrev pub AreBlocksOnce : List Event → Type 0
AreBlocksOnce es = (n v w : ℕ) (b d : List ℕ) → IsBlockWritten es n v b → IsBlockWritten es n w d → (v ≡ w) × (b ≡ d)

-- no block of this number or a later one was written
abbrev pub AreBlocksBelow : ℕ → List Event → Type 0
AreBlocksBelow next es = (n v : ℕ) (b : List ℕ) → IsBlockWritten es n v b → n < next

-- The record and the log agree: of one number one block alone was written, none that wasn't handed to the disk, and of a number that isn't durable yet none but the pending block.
pub record BlocksOnce (log : LogState) (es : List Event) : Type 0 where
  pub once : AreBlocksOnce es
  pub below : AreBlocksBelow log.handed es
  pub pending : (n v : ℕ) (b : List ℕ) → IsBlockWritten es n v b → durable log ≤ n → (v ≡ block_version (pending_at log (n - durable log))) × (b ≡ pending_at log (n - durable log))

-- the record keeps its page texts and ring blocks
abbrev pub KeepsItems : List Event → List Event → Type 0
KeepsItems s m = written_items (record_of m) ≡ written_items (record_of s)

-- the store's record is right: no number of it serves two of its texts
abbrev pub IsRecordOnce : HeldHeader → List RingEntry → (ℕ → List ℕ) → List Event → Type 0
IsRecordOnce header keys salts es = Once header keys salts (record_of es)

-- Whatever an image of the log says, no block was written that the blocks a ring's length behind its run could meet.
abbrev pub AreBlocksSettled : ℕ → Keys → RingState → ℕ → List (Logged (List Change)) → ℕ → List Event → Type 0
AreBlocksSettled N keys r start journal next es = (l : LogView (List Change)) → IsRunOf N (redo_form keys) r start journal next l → AreBlocksBelow (l.end + N) es

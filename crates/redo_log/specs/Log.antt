-- What the log keeps in memory, and how its calls change it.
use Rattle.std.specs.Prelude.{◌≡◌, ℕ, ◌+◌, ◌-◌, ◌*◌, ◌/◌, ◌^◌, ◌<◌, ◌≤◌, nat_eq, if◌then◌else◌, true, List, [], length}
use Rattle.places.specs.Places.{place}
use Rattle.ring_log.specs.Ring.{RingState}
use Rattle.ring_log.specs.Batches.{checkpointed}
use Rattle.redo_log.specs.State.{LogState}
use Rattle.store_image.specs.View.{block_bytes}
use Rattle.store_files.specs.RingBlock.{is_ring_block}
use Rattle.store_files.specs.Header.{least_ring_blocks, most_ring_blocks}

-- how many blocks are pending
abbrev pub pending_count : LogState → ℕ
pending_count log = length log.pending / block_bytes

-- the number of the first pending block
abbrev pub durable : LogState → ℕ
durable log = log.next - pending_count log

-- the pending block at this place, from 0
abbrev pub pending_at : LogState → ℕ → List ℕ
pending_at log j = place block_bytes j log.pending

-- the numbers are those of a ring, each durable block was handed to the disk, and each pending block is valid under its number
pub record IsOpen (log : LogState) : Type 0 where
  pub least : least_ring_blocks ≤ log.blocks
  pub most : log.blocks ≤ most_ring_blocks
  pub low : 2 ≤ log.from
  pub high : log.next ≤ 2 ^ 50
  pub some : 1 ≤ log.sequence
  pub below : log.sequence < log.from
  pub order : log.from + pending_count log ≤ log.next
  pub room : log.next ≤ log.from + log.blocks
  pub handed_all : durable log ≤ log.handed
  pub handed_few : log.handed ≤ log.next
  pub whole : length log.pending ≡ pending_count log * block_bytes
  pub valid : (j : ℕ) → j < pending_count log → is_ring_block (durable log + j) (pending_at log j) ≡ true

-- a log with nothing pending
abbrev pub empty_log : ℕ → ℕ → ℕ → LogState
empty_log blocks from sequence = record { blocks = blocks; from = from; sequence = sequence; next = from; handed = from; pending = [] }

-- how many blocks of the ring are free
abbrev pub free_of : LogState → ℕ
free_of log = log.blocks - (log.next - log.from)

-- the log once its pending blocks were handed to the disk, which may have some of them
abbrev pub handed_over : LogState → LogState
handed_over log = record log { handed = log.next }

-- and once they are durable
abbrev pub written_out : LogState → LogState
written_out log = record log { handed = log.next; pending = [] }

-- and once the run begins at another block
abbrev pub with_checkpoint : LogState → ℕ → LogState
with_checkpoint log from = if nat_eq from log.from then log else record log { from = from; sequence = log.sequence + 1 }

-- The log in memory and the ring of the disk have the same numbers, and the pending blocks are those behind the written ones.
pub record FitsRing (r : RingState) (log : LogState) : Type 0 where
  pub sequence : r.sequence ≡ log.sequence
  pub from : r.from ≡ log.from
  pub written : r.written ≡ durable log
  pub blocks : (j : ℕ) → j < pending_count log → r.block (r.written + j) ≡ pending_at log j

-- the ring after a checkpoint, which does nothing where the run begins at the old block
abbrev pub checked : RingState → ℕ → RingState
checked r f = if nat_eq f r.from then r else checkpointed r f

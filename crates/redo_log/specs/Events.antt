-- The events of a write out and of a checkpoint, and what is known of the disk while they come.
use Rattle.std.specs.Prelude.{ℕ, zero, suc, ◌+◌, ◌*◌, List, [], ◌∷◌}
use Rattle.disk_model.specs.Event.{Event, Write, Sync}
use Rattle.disk_model.specs.declared.names.FileName.TheVariants.{Log as LogFile}
use Rattle.places.specs.Batches.{Batch, Writing, Wrote, BatchSettled, IsOf}
use Rattle.places.specs.Writes.{writes_of}
use Rattle.ring_log.specs.Blocks.{place_in_ring}
use Rattle.redo_log.specs.State.{LogState}
use Rattle.redo_log.specs.Check.{check_bytes}
use Rattle.store_image.specs.Checkpoint.{side_of}
use Rattle.store_image.specs.View.{block_bytes}
use Rattle.redo_log.specs.Log.{durable, pending_at, pending_count}
use Rattle.crash_image.specs.LogForm.{log_places}

-- the writes of the pending blocks
abbrev pub block_batch : LogState → Batch
block_batch log = record { place = λ j. place_in_ring log.blocks (durable log + j); bytes = λ j. pending_at log j }

-- the write of a checkpoint
abbrev pub side_batch : ℕ → ℕ → Batch
side_batch sequence from = record { place = λ j. side_of sequence; bytes = λ j. check_bytes sequence from }

-- pending blocks are being written, so many of them were, and all are durable
abbrev pub BlocksWriting : LogState → List Event → List Event → Type 0
BlocksWriting log s m = Writing LogFile (log_places log.blocks) (block_batch log) (pending_count log) s m

abbrev pub BlocksWrote : LogState → ℕ → List Event → List Event → Type 0
BlocksWrote log k s m = Wrote LogFile (log_places log.blocks) (block_batch log) k s m

abbrev pub BlocksSettled : LogState → List Event → List Event → Type 0
BlocksSettled log s m = BatchSettled LogFile (log_places log.blocks) (block_batch log) (pending_count log) s m

-- a write of a pending block, or a sync of the log
abbrev pub IsBlockEvent : LogState → Event → Type 0
IsBlockEvent log e = IsOf LogFile block_bytes (block_batch log) (pending_count log) e

-- what a write out adds: each pending block in order, and one sync, but nothing where nothing is pending
abbrev pub out_events : ℕ → LogState → List Event
out_events zero log = []
out_events (suc k) log = Sync LogFile ∷ writes_of LogFile block_bytes (block_batch log) (suc k)

-- a checkpoint is being written, was written, and is durable
abbrev pub CheckWriting : ℕ → ℕ → ℕ → List Event → List Event → Type 0
CheckWriting blocks sequence from s m = Writing LogFile (log_places blocks) (side_batch sequence from) 1 s m

abbrev pub CheckWrote : ℕ → ℕ → ℕ → ℕ → List Event → List Event → Type 0
CheckWrote blocks sequence from k s m = Wrote LogFile (log_places blocks) (side_batch sequence from) k s m

abbrev pub CheckSettled : ℕ → ℕ → ℕ → List Event → List Event → Type 0
CheckSettled blocks sequence from s m = BatchSettled LogFile (log_places blocks) (side_batch sequence from) 1 s m

-- a write of the checkpoint, or a sync of the log
abbrev pub IsCheckEvent : ℕ → ℕ → Event → Type 0
IsCheckEvent sequence from e = IsOf LogFile block_bytes (side_batch sequence from) 1 e

-- a moment of which nothing is said
abbrev pub IsAny : List Event → Type 0
IsAny m = Unit {0}

-- the write itself
abbrev pub check_event : ℕ → ℕ → Event
check_event sequence from = Write LogFile (side_of sequence * block_bytes) (check_bytes sequence from) (check_bytes sequence from)

-- A log that was made of zero bytes.
use Rattle.std.specs.Prelude.{◌≡◌, ℕ, ◌+◌, ◌*◌, List, []}
use Rattle.disk_model.specs.Event.{Event, zeros}
use Rattle.disk_model.specs.declared.names.FileName.TheVariants.{Log as LogFile}
use Rattle.places.specs.Places.{place, shown, HasPlaces}
use Rattle.ring_log.specs.Ring.{RingState, ring_at_start}
use Rattle.store_image.specs.Checkpoint.{front_blocks}
use Rattle.store_image.specs.View.{block_bytes}
use Rattle.crash_image.specs.LogForm.{log_places}

-- its file reads as zero bytes
pub record IsFresh (blocks : ℕ) (es : List Event) : Type 0 where
  pub shows : (i : ℕ) → shown LogFile block_bytes i es ≡ place block_bytes i (zeros ((front_blocks + blocks) * block_bytes))
  pub places : HasPlaces LogFile (log_places blocks) es

-- the ring of a log with its first checkpoint, and a header of zero bytes
abbrev pub fresh_ring : ℕ → RingState
fresh_ring blocks = ring_at_start (place block_bytes 0 (zeros ((front_blocks + blocks) * block_bytes))) 1 2 (λ n. [])

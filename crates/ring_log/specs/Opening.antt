-- The log while a store is opened: what was found, and the checkpoint that is written behind it.
use Rattle.std.specs.Prelude.{◌≡◌, ℕ, ◌+◌, List, []}
use Rattle.disk_model.specs.Event.{Event, reads}
use Rattle.disk_model.specs.declared.names.FileName.TheVariants.{Log}
use Rattle.places.specs.Places.{HasPlaces}
use Rattle.places.specs.Batches.{Batch, IsFileSettled}
use Rattle.store_image.specs.Checkpoint.{side_of}
use Rattle.store_image.specs.Places.{LogView}
use Rattle.store_image.specs.View.{block_bytes}
use Rattle.ring_log.specs.Blocks.{ring_layout}
use Rattle.ring_log.specs.Ring.{Form, IsRingLog, IsRingClear}

module _ {M : Type 0} (N : ℕ) (F : Form M) where
  -- An opening finds this log: nothing of it is pending, its newest checkpoint has this sequence, and no ring block has a number that the blocks behind its run could meet.
  pub record IsFound (sequence : ℕ) (l : LogView M) (es : List Event) : Type 0 where
    pub places : HasPlaces Log (ring_layout N F.passes) es
    pub settled : IsFileSettled Log block_bytes es
    pub log : IsRingLog N F (reads Log es) l
    pub is_newest : log.sequence ≡ sequence
    pub clear : IsRingClear N F (reads Log es) l.end

  -- what the log says once it begins a ring's length behind the run
  abbrev pub log_behind : LogView M → LogView M
  log_behind l = record { from = l.end + N; end = l.end + N; run = [] }

-- the checkpoint behind the newest one, of this sequence
abbrev pub opening_batch : ℕ → List ℕ → Batch
opening_batch sequence bytes = record { place = λ j. side_of (sequence + 1); bytes = λ j. bytes }

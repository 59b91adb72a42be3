-- The log of a moment while the checkpoint of an opening is written, and once it is durable.
use Rattle.std.specs.Prelude.{◌≡◌, ◌⊎◌, ℕ, ◌+◌, ◌*◌, Bool, true, List, length}
use Rattle.disk_model.specs.Event.{Event, reads}
use Rattle.disk_model.specs.Image.{Image, IsImage, IsLucky}
use Rattle.disk_model.specs.declared.names.FileName.{FileName}
use Rattle.disk_model.specs.declared.names.FileName.TheVariants.{Log as LogFile}
use Rattle.places.specs.Places.{place, shown}
use Rattle.ring_log.specs.Opening.{log_behind}
use Rattle.ring_log.specs.Ring.{Form, ring_at_start, IsRingLog, IsRingClear, RingReady}
use Rattle.store_image.specs.Checkpoint.{front_blocks}
use Rattle.store_image.specs.Places.{LogView}
use Rattle.store_image.specs.View.{block_bytes}

-- block 0 of the log's file reads as these bytes
abbrev pub HasHeaderBlock : List ℕ → List Event → Type 0
HasHeaderBlock header es = shown LogFile block_bytes 0 es ≡ header

module _ {M : Type 0} (N : ℕ) (F : Form M) where
  -- A file with its header has the log that was found or the one behind it, and no block of the ring has a number that the latter's could meet.
  pub record OpeningStands (header : List ℕ) (found : LogView M) (file : List ℕ) : Type 0 where
    pub size : length file ≡ (front_blocks + N) * block_bytes
    pub header_is : place block_bytes 0 file ≡ header
    pub log : IsRingLog N F file found ⊎ IsRingLog N F file (log_behind N F found)
    pub clear : IsRingClear N F file found.end

  -- So does the file of each lucky image.
  abbrev pub IsOpening : List ℕ → LogView M → List Event → Type 0
  IsOpening header found es =
      (test : FileName → List ℕ → Bool) → ((b : List ℕ) → F.passes b ≡ true → test LogFile b ≡ true) → (image : Image) → IsImage es image → IsLucky test image → OpeningStands header found (image.bytes LogFile)

  -- The file with its header has the log behind it, and a session may begin there, whatever its blocks will be.
  pub record IsOpenedLog (sequence : ℕ) (header : List ℕ) (found : LogView M) (es : List Event) : Type 0 where
    pub size : length (reads LogFile es) ≡ (front_blocks + N) * block_bytes
    pub header_is : shown LogFile block_bytes 0 es ≡ header
    pub log : IsRingLog N F (reads LogFile es) (log_behind N F found)
    pub ready : (block : ℕ → List ℕ) → RingReady N F (ring_at_start header (sequence + 1) (found.end + N) block) es

-- What is known of the disk while a batch is stored and written home, from the moment s at which that began.
use Rattle.std.specs.Prelude.{◌≢◌, ℕ, ◌<◌, List, length}
use Rattle.disk_model.specs.Event.{Event}
use Rattle.disk_model.specs.declared.names.FileName.TheVariants.{Double, Space}
use Rattle.places.specs.Places.{HasFile, HasPlaces}
use Rattle.places.specs.Batches.{Writing, Wrote, BatchSettled, IsOf}
use Rattle.page_places.specs.Texts.{slots, pages, slot_size, page_bytes}
use Rattle.doublewrite.specs.Text.{page_number_of}
use Rattle.doublewrite.specs.Batch.{text_at, slot_batch, home_batch}
use Rattle.doublewrite.specs.declared.texts.Texts.{Texts}

-- each moment while the batch is stored
abbrev pub SlotsWriting : Texts → List Event → List Event → Type 0
SlotsWriting batch s m = Writing Double slots (slot_batch batch) (length batch.pages) s m

-- its first k slots are written
abbrev pub SlotsWrote : Texts → ℕ → List Event → List Event → Type 0
SlotsWrote batch k s m = Wrote Double slots (slot_batch batch) k s m

-- all are, and synced
abbrev pub SlotsSettled : Texts → List Event → List Event → Type 0
SlotsSettled batch s m = BatchSettled Double slots (slot_batch batch) (length batch.pages) s m

abbrev pub IsSlotEvent : Texts → Event → Type 0
IsSlotEvent batch e = IsOf Double slot_size (slot_batch batch) (length batch.pages) e

-- the pages of the batch are pages of their space, which has so many
pub record IsInside (batch : Texts) (count : ℕ) (es : List Event) : Type 0 where
  pub places : HasPlaces (Space batch.space) (pages count) es
  pub within : (i : ℕ) → i < length batch.pages → page_number_of (text_at batch i) < count

-- and so whatever is pending in the space
pub record FitsSpace (batch : Texts) (count : ℕ) (es : List Event) : Type 0 where
  pub file : HasFile (Space batch.space) (pages count) es
  pub within : (i : ℕ) → i < length batch.pages → page_number_of (text_at batch i) < count

-- no two texts of the same page
abbrev pub ArePagesDistinct : Texts → Type 0
ArePagesDistinct batch = (i j : ℕ) → i < j → j < length batch.pages → page_number_of (text_at batch i) ≢ page_number_of (text_at batch j)

-- each moment while the batch is written home
abbrev pub HomesWriting : Texts → List Event → List Event → Type 0
HomesWriting batch s m = (count : ℕ) → IsInside batch count s → Writing (Space batch.space) (pages count) (home_batch batch) (length batch.pages) s m

abbrev pub HomesWrote : Texts → ℕ → List Event → List Event → Type 0
HomesWrote batch k s m = (count : ℕ) → IsInside batch count s → Wrote (Space batch.space) (pages count) (home_batch batch) k s m

abbrev pub HomesSettled : Texts → List Event → List Event → Type 0
HomesSettled batch s m = (count : ℕ) → IsInside batch count s → BatchSettled (Space batch.space) (pages count) (home_batch batch) (length batch.pages) s m

abbrev pub IsHomeEvent : Texts → Event → Type 0
IsHomeEvent batch e = IsOf (Space batch.space) page_bytes (home_batch batch) (length batch.pages) e

-- The writes of a batch of page texts, to the doublewrite file and to their homes.
use Rattle.std.specs.Prelude.{ℕ, List, [], ◌∷◌, length, slice_index_or}
use Rattle.disk_model.specs.Event.{Event, Sync}
use Rattle.disk_model.specs.declared.names.FileName.TheVariants.{Double, Space}
use Rattle.places.specs.Batches.{Batch}
use Rattle.places.specs.Writes.{writes_of}
use Rattle.page_places.specs.Texts.{slot_bytes, slot_size, page_bytes}
use Rattle.doublewrite.specs.Text.{page_number_of}
use Rattle.doublewrite.specs.declared.texts.Texts.{Texts}

abbrev pub text_at : Texts → ℕ → List ℕ
text_at batch i = slice_index_or batch.pages i []

-- page i of the batch to slot i
abbrev pub slot_batch : Texts → Batch
slot_batch batch = record { place = λ i. i; bytes = λ i. slot_bytes batch.space (page_number_of (text_at batch i)) batch.batch (text_at batch i) }

-- each page to its home
abbrev pub home_batch : Texts → Batch
home_batch batch = record { place = λ i. page_number_of (text_at batch i); bytes = λ i. text_at batch i }

-- what a batch that is stored adds, the newest first: its slots in order, and one sync, which also comes where the batch is empty
abbrev pub slot_events : Texts → List Event
slot_events batch = Sync Double ∷ writes_of Double slot_size (slot_batch batch) (length batch.pages)

-- and one that is written home, in the same way
abbrev pub home_events : Texts → List Event
home_events batch = Sync (Space batch.space) ∷ writes_of (Space batch.space) page_bytes (home_batch batch) (length batch.pages)

-- A batch is stored and written home, and the disk crashes.
use Rattle.std.specs.Prelude.{◌≡◌, ◌⊎◌, ℕ, ◌*◌, Bool, false, List, [], ◌∷◌, length}
use Rattle.disk_model.specs.Event.{Event, Open, Make}
use Rattle.disk_model.specs.Image.{Image, IsLucky}
use Rattle.disk_model.specs.Does.{Since}
use Rattle.disk_model.specs.declared.names.FileName.{FileName}
use Rattle.disk_model.specs.declared.names.FileName.TheVariants.{Log, Double, Space}
use Rattle.places.specs.Places.{Layout}
use Rattle.page_places.specs.Texts.{slots, pages, text_in, slot_size, page_bytes}
use Rattle.doublewrite.specs.Text.{page_number_of}
use Rattle.doublewrite.specs.Batch.{text_at}
use Rattle.page_places.specs.Views.{places_by, view}
use Rattle.page_places.specs.Steps.{slots_written, homes_written}
use Rattle.store_image.specs.View.{Slot, block_bytes, slot_count}
use Rattle.store_image.specs.Places.{LogView, Places, IsViewOf, slots_synced}
use Rattle.doublewrite.specs.Layer.{SlotsWriting, SlotsSettled, HomesWriting, HomesSettled, IsSlotEvent, IsHomeEvent}
use Rattle.doublewrite.specs.declared.texts.Texts.{Texts}

-- the batch was stored from s to t
pub record IsBatchStored (batch : Texts) (s t : List Event) : Type 0 where
  pub since : Since (IsSlotEvent batch) s t
  pub settled : SlotsSettled batch s t

-- each moment: while the batch is stored, or while it is written home behind that
pub data Putting (batch : Texts) (s m : List Event) : Type 0 where
  Storing : Since (IsSlotEvent batch) s m → SlotsWriting batch s m → Putting batch s m
  Homing : (t : List Event) → IsBatchStored batch s t → Since (IsHomeEvent batch) t m → HomesWriting batch t m → Putting batch s m

-- at the end
pub record IsPut (batch : Texts) (s m : List Event) : Type 0 where
  pub middle : List Event
  pub stored : IsBatchStored batch s middle
  pub since : Since (IsHomeEvent batch) middle m
  pub settled : HomesSettled batch middle m

abbrev pub IsPutEvent : Texts → Event → Type 0
IsPutEvent batch e = IsSlotEvent batch e ⊎ IsHomeEvent batch e

-- ---- a store of one space, 5, of 64 pages, and the crash

abbrev pub layout_of : FileName → Layout
layout_of Log = record { size = block_bytes; count = 0; passes = λ bytes. false }
layout_of Double = slots
layout_of (Space s) = pages 64

abbrev pub put_test : FileName → List ℕ → Bool
put_test f bytes = (layout_of f).passes bytes

-- the files were made, and nothing else was asked of the disk
abbrev pub AreFilesMade : List Event → Type 0
AreFilesMade es = es ≡ Make (Space 5) (64 * page_bytes) ∷ Make Double (slot_count * slot_size) ∷ Open [] [] [] ∷ []

abbrev pub text_at_slot : Texts → ℕ → Slot
text_at_slot batch i = record { space = batch.space; page = page_number_of (text_at batch i); text = text_in (text_at batch i) }

abbrev pub stored : Texts → Places (Unit {0}) → Places (Unit {0})
stored batch places = slots_written (λ i. i) (text_at_slot batch) (length batch.pages) places

abbrev pub homed : Texts → Places (Unit {0}) → Places (Unit {0})
homed batch places = homes_written batch.space (λ i. page_number_of (text_at batch i)) (λ i. text_in (text_at batch i)) (length batch.pages) places

-- The image is lucky, and its view is one of the store with the slots of the batch written, or with these synced and its homes written.
pub record ShowsBatch (batch : Texts) (s : List Event) (image : Image) : Type 0 where
  pub made : AreFilesMade s
  pub lucky : IsLucky put_test image
  pub view : (log : LogView (Unit {0})) → IsViewOf (stored batch (places_by (λ l. l ≡ log) s)) (view log image) ⊎ IsViewOf (homed batch (slots_synced (stored batch (places_by (λ l. l ≡ log) s)))) (view log image)

-- The record of writes while a store is opened: what holds of it at each moment, and between two calls.
use Rattle.std.specs.Prelude.{ℕ, List}
use Rattle.disk_model.specs.Event.{Event, record_of}
use Rattle.disk_model.specs.Image.{Image, IsImage}
use Rattle.store_image.specs.LifeStages.{Failed, InOpening, LifeStage}
use Rattle.store_image.specs.RecordKept.{IsLifeMoment}
use Rattle.store_model.specs.declared.contents.SpaceContents.{SpaceContents}
use Rattle.store_files.specs.Pages.{pages_of, salts_of}
use Rattle.crash_image.specs.Opened.{StoreOpened, opened_theory}
use Rattle.crash_image.specs.Recovers.{Recovers}
use Rattle.crash_image.specs.Stands.{Lucky}
use Rattle.crash_image.specs.Writes.{Once, Settled, written_items}
use Rattle.recovery.specs.Putting.{opened_places}

-- the stage of the store's life until the opening's checkpoint is written
abbrev pub opened_stage : (o : StoreOpened) → LifeStage (opened_theory o)
opened_stage o = InOpening o.view.end o.view.run (pages_of o.contents)

-- what was written is as the opening found it and has written since, also after a call that was refused
abbrev pub IsRecordMoment : StoreOpened → List Event → Type 0
IsRecordMoment o m = IsLifeMoment (opened_theory o) o.header.blocks (Failed (opened_stage o)) (written_items (record_of m)) (opened_places o m)

-- and between two calls that were answered Ok
abbrev pub HasRecord : StoreOpened → List Event → Type 0
HasRecord o m = IsLifeMoment (opened_theory o) o.header.blocks (opened_stage o) (written_items (record_of m)) (opened_places o m)

-- At each moment no number served two texts, and each lucky image agrees with what was written, whatever it recovers to.
pub record KeepsOpeningRecord (o : StoreOpened) (m : List Event) : Type 0 where
  pub moment : IsRecordMoment o m
  pub once : Once o.header o.keys (salts_of o.contents) (record_of m)
  pub settled : (image : Image) → IsImage m image → Lucky image → (c : List SpaceContents) (last : ℕ) → (r : Recovers image o.keys c last) → Settled (record_of m) image r.header o.keys r.log c

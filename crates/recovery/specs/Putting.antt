-- A group of sealed pages is stored and written home while a store is opened: what holds at each moment, and behind it.
use Rattle.std.specs.Prelude.{◌≡◌, ◌⊎◌, ℕ, true, List, length, Option}
use Rattle.disk_model.specs.Event.{Event}
use Rattle.disk_model.specs.Image.{Image, IsImage}
use Rattle.disk_model.specs.Past.{Past}
use Rattle.disk_model.specs.declared.names.FileName.TheVariants.{Double, Space}
use Rattle.places.specs.Places.{shown}
use Rattle.places.specs.Writes.{grows, IsPart}
use Rattle.page_places.specs.Texts.{held, page_bytes, slot_size}
use Rattle.page_places.specs.Views.{places_by}
use Rattle.redo_text.specs.declared.change.Change.{Change}
use Rattle.store_files.specs.Pages.{has_page, pages_of}
use Rattle.store_image.specs.Groups.{IsAmong}
use Rattle.store_image.specs.Opening.{AreSealed, Between, IsDone, MayApply, held_of}
use Rattle.store_image.specs.Places.{Places, log_of}
use Rattle.store_image.specs.View.{Text, IsChosen}
use Rattle.crash_image.specs.Opened.{StoreOpened, opened_theory, FilesOpened, FilesSettled}
use Rattle.crash_image.specs.Stands.{Lucky, RecoversRotated}
use Rattle.doublewrite.specs.Batch.{home_batch, slot_batch, slot_events}
use Rattle.doublewrite.specs.Group.{group_of}
use Rattle.doublewrite.specs.Layer.{IsHomeEvent, IsSlotEvent}
use Rattle.doublewrite.specs.declared.texts.Texts.{Texts}

-- the places of a store that is opened, by its events, where its log is as it was
abbrev pub opened_places : StoreOpened → List Event → Places (List Change)
opened_places o m = places_by (λ l. l ≡ log_of o.view) m

-- each text of the batch is the one that the opening seals its page with
abbrev pub IsSealedBatch : StoreOpened → Texts → Type 0
IsSealedBatch o batch = AreSealed (opened_theory o) o.view (pages_of o.contents) o.active batch.space (group_of batch)

-- the home has the page's sealed text
abbrev pub IsPageDone : StoreOpened → List Event → ℕ → ℕ → Type 0
IsPageDone o m z p = IsDone (opened_theory o) o.view (pages_of o.contents) o.active (opened_places o m) z p

-- or it is as the page's chosen text says
abbrev pub IsAsChosen : StoreOpened → List Event → ℕ → ℕ → Type 0
IsAsChosen o m z p = (chosen : Option Text) × IsChosen o.view z p chosen × (held p (shown (Space z) page_bytes p m) ≡ held_of chosen)

-- so is each home
abbrev pub AreAsChosen : StoreOpened → List Event → Type 0
AreAsChosen o m = (z p : ℕ) → has_page o.header.spaces z p ≡ true → IsAsChosen o m z p

-- Each moment while groups are applied, also after a call that was refused; s is the opening's entry.
pub record MayApplyGroups (o : StoreOpened) (s m : List Event) : Type 0 where
  pub may : MayApply (opened_theory o) o.view (pages_of o.contents) o.active (opened_places o m)
  pub files : FilesOpened o s m

-- Before, between and behind the groups.
pub record BetweenGroups (o : StoreOpened) (s m : List Event) : Type 0 where
  pub between : Between (opened_theory o) o.view (pages_of o.contents) o.active (opened_places o m)
  pub files : FilesOpened o s m
  pub settled : FilesSettled m

-- each lucky image of the moment recovers to what was opened, with this last block of its run, and is rotated
abbrev pub ImagesRecover : StoreOpened → ℕ → List Event → Type 0
ImagesRecover o last m = (image : Image) → IsImage m image → Lucky image → RecoversRotated image o.keys o.contents last

-- each page that was done at b is
abbrev pub StillDone : StoreOpened → List Event → List Event → Type 0
StillDone o b m = (z p : ℕ) → IsPageDone o b z p → IsPageDone o m z p

-- Since b each page of the group is done, and each that was stays so.
pub record IsGroupApplied (o : StoreOpened) (batch : Texts) (b m : List Event) : Type 0 where
  pub done : (p : ℕ) (t : Text) → IsAmong p t (group_of batch) → IsPageDone o m batch.space p
  pub still : StillDone o b m

abbrev pub IsGroupEvent : Texts → Event → Type 0
IsGroupEvent batch e = IsSlotEvent batch e ⊎ IsHomeEvent batch e

-- Some of the writes were done in order, the slots before the homes. The one behind them may have failed.
pub data IsGroupPart (batch : Texts) (old new : Past) : Type 0 where
  InSlots : IsPart Double slot_size (slot_batch batch) (length batch.pages) old new → IsGroupPart batch old new
  InHomes : IsPart (Space batch.space) page_bytes (home_batch batch) (length batch.pages) (grows (slot_events batch) old) new → IsGroupPart batch old new

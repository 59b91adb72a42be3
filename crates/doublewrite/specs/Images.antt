-- What each image of a moment may hold of homes and slots while a batch is stored and written home, and once it is.
use Rattle.std.specs.Prelude.{◌≡◌, ◌≢◌, ◌⊎◌, ℕ, ◌<◌, ◌≤◌, List, length, Option, Some, None}
use Rattle.disk_model.specs.Event.{Event}
use Rattle.disk_model.specs.declared.names.FileName.TheVariants.{Double, Space}
use Rattle.places.specs.Places.{shown, May, MayRead}
use Rattle.store_image.specs.View.{Held, Holds, Slot}
use Rattle.store_image.specs.Groups.{IsNoText, slot_of}
use Rattle.store_image.specs.Doublewrite.{IsBeing}
use Rattle.page_places.specs.Texts.{page_bytes, held, slot_held, text_in, slot_size}
use Rattle.page_places.specs.Views.{IsNoSlot}
use Rattle.doublewrite.specs.Text.{page_number_of}
use Rattle.doublewrite.specs.Batch.{text_at}
use Rattle.doublewrite.specs.declared.texts.Texts.{Texts}

-- an image may hold this in slot i: what its bytes say, and nothing where it is torn
abbrev pub MaySlot : ℕ → List Event → Option Slot → Type 0
MaySlot i es h = MayRead slot_held IsNoSlot Double slot_size i es h

-- and this in the home of page p of a space
abbrev pub MayHome : ℕ → ℕ → List Event → Held → Type 0
MayHome s p es h = MayRead (held p) IsNoText (Space s) page_bytes p es h

-- what the slots read as is what an image may hold
abbrev pub AreSlotsHonest : List Event → Type 0
AreSlotsHonest es = (i : ℕ) → May Double slot_size i es (Some (shown Double slot_size i es))

-- and so of the homes of a space
abbrev pub AreHomesHonest : ℕ → List Event → Type 0
AreHomesHonest s es = (p : ℕ) → May (Space s) page_bytes p es (Some (shown (Space s) page_bytes p es))

-- page i of a batch, as a slot holds it
abbrev pub batch_slot : Texts → ℕ → Slot
batch_slot batch i = slot_of batch.space (page_number_of (text_at batch i)) (text_in (text_at batch i))

-- While a batch is stored since s: each slot holds what it could hold then, or the batch's page of its index, or nothing; each home what it could hold then.
pub record SlotsMay (batch : Texts) (s m : List Event) : Type 0 where
  pub slots : (i : ℕ) (h : Option Slot) → MaySlot i m h → MaySlot i s h ⊎ ((i < length batch.pages) × ((h ≡ Some (batch_slot batch i)) ⊎ (h ≡ None)))
  pub homes : (z p : ℕ) (h : Held) → MayHome z p m h → MayHome z p s h

-- Once it is stored: the slots hold the batch in every image, the others what they read as at s, and each home what it could hold then.
pub record SlotsHold (batch : Texts) (s m : List Event) : Type 0 where
  pub slots : (i : ℕ) (h : Option Slot) → i < length batch.pages → MaySlot i m h → h ≡ Some (batch_slot batch i)
  pub others : (i : ℕ) (h : Option Slot) → length batch.pages ≤ i → MaySlot i m h → h ≡ slot_held (shown Double slot_size i s)
  pub homes : (z p : ℕ) (h : Held) → MayHome z p m h → MayHome z p s h

-- While it is written home since s: each home holds what it could hold then, or the batch's text for its page, or no text; each slot what it could hold then.
pub record HomesMay (batch : Texts) (s m : List Event) : Type 0 where
  pub homes : (z p : ℕ) (h : Held) → MayHome z p m h → MayHome z p s h ⊎ IsBeing (batch_slot batch) (length batch.pages) z p h
  pub slots : (i : ℕ) (h : Option Slot) → MaySlot i m h → MaySlot i s h

-- Once it is: the homes hold the batch in every image, nothing is pending in its space, and all else holds what it could hold at s.
pub record HomesHold (batch : Texts) (s m : List Event) : Type 0 where
  pub homes : (i : ℕ) (h : Held) → i < length batch.pages → MayHome batch.space (page_number_of (text_at batch i)) m h → h ≡ Holds (text_in (text_at batch i))
  pub settled : (p : ℕ) (h : Held) → MayHome batch.space p m h → h ≡ held p (shown (Space batch.space) page_bytes p m)
  pub others : (z p : ℕ) (h : Held) → batch.space ≢ z → MayHome z p m h → MayHome z p s h
  pub slots : (i : ℕ) (h : Option Slot) → MaySlot i m h → MaySlot i s h

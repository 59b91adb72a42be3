-- What each device call does to the slots.
use Rattle.std.proofs.Common.{ℕ, ◌+◌, ◌*◌, ◌<◌, ◌≤◌, List, ◌∷◌, length, arith}
use Rattle.disk_model.specs.Event.{Event, Write, Sync}
use Rattle.disk_model.specs.Past.{Past, At, IsWrite}
use Rattle.disk_model.specs.declared.names.FileName.TheVariants.{Double}
use Rattle.disk_model.proofs.Moments.{at_each}
use Rattle.places.specs.Places.{HasPlaces}
use Rattle.places.specs.Batches.{From, IsNext}
use Rattle.places.proofs.Batches.{wrote_none, writing_more, next_each, next_wrote, last_sync, fact_of_settled, at_start}
use Rattle.page_places.specs.Texts.{slots}
use Rattle.page_places.proofs.Sums.{last_byte}
use Rattle.page_places.proofs.Texts.{length-slot, torn_slot}
use Rattle.doublewrite.specs.Text.{IsPageText, page_number_of}
use Rattle.doublewrite.specs.Batch.{text_at, slot_batch}
use Rattle.doublewrite.specs.Layer.{SlotsWriting, SlotsWrote, SlotsSettled}
use Rattle.doublewrite.specs.declared.texts.Texts.{Texts}

module _ (batch : Texts) where
  abbrev total : ℕ
  total = length batch.pages

  pub slot_next : (i : ℕ) → i < total → total ≤ 64 → IsPageText (text_at batch i) → IsNext slots (slot_batch batch) i
  slot_next i more most is =
      let text = text_at batch i in
      record {
        within = omega (arith, more, most);
        long = length-slot batch.space (page_number_of text) batch.batch text is.long;
        refused = torn_slot batch.space (page_number_of text) batch.batch text (omega (arith, is.long)) (last_byte text is.sums);
        differ = λ j lt same. omega (arith, lt, same);
      }

  pub slots_begin : (first : Past) → At (HasPlaces Double slots) first → At (From (SlotsWrote batch 0) first) first
  slots_begin first has = at_start (λ s h. wrote_none Double slots (slot_batch batch) s h) has

  pub slots_now : (i : ℕ) → i ≤ total → (first : Past) (es : List Event) → From (SlotsWrote batch i) first es → From (SlotsWriting batch) first es
  slots_now i le first es r = at_each (λ s w. writing_more Double slots (slot_batch batch) s i total le es w.writing) r

  module _ (i : ℕ) (more : i < total) (next : IsNext slots (slot_batch batch) i) (first : Past) where
    pub slot_each : (d : Event) → IsWrite Double (i * 16896) ((slot_batch batch).bytes i) d → (es : List Event) → From (SlotsWrote batch i) first es → From (SlotsWriting batch) first (d ∷ es)
    slot_each d is es r = at_each (λ s w. next_each Double slots (slot_batch batch) s i next es total more d is w) r

    pub slot_wrote : (es : List Event) → From (SlotsWrote batch i) first es → From (SlotsWrote batch (i + 1)) first (Write Double (i * 16896) ((slot_batch batch).bytes i) ((slot_batch batch).bytes i) ∷ es)
    slot_wrote es r = at_each (λ s w. next_wrote Double slots (slot_batch batch) s i next es w) r

  pub slots_sync : (first : Past) (es : List Event) → From (SlotsWrote batch total) first es → From (SlotsSettled batch) first (Sync Double ∷ es)
  slots_sync first es r = at_each (λ s w. last_sync Double slots (slot_batch batch) s total es w) r

  pub slots_then : (first : Past) (es : List Event) → From (SlotsSettled batch) first es → From (SlotsWriting batch) first es
  slots_then first es r = at_each (λ s w. fact_of_settled Double slots (slot_batch batch) s total es w) r

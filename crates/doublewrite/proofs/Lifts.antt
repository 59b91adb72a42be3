-- What storing and writing home make of the places of a store.
use Rattle.std.proofs.Common.{◌≡◌, ℕ, ◌<◌, ◌^◌, true, List, length, Some, arith}
use Rattle.std.proofs.lemmas.Bool.Decides.{nat_tests}
use Rattle.disk_model.specs.Event.{Event}
use Rattle.disk_model.specs.Does.{Since}
use Rattle.disk_model.specs.declared.names.FileName.TheVariants.{Double, Space}
use Rattle.disk_model.proofs.Layers.{since_each}
use Rattle.places.specs.Places.{shown, May}
use Rattle.places.proofs.Batches.{of_is_on}
use Rattle.store_image.specs.View.{Text, Holds, Slot}
use Rattle.store_image.specs.Places.{LogView, space_synced, slots_synced, MayWithin, ArePlacesWithin}
use Rattle.page_places.specs.Texts.{held, slot_held, is_page_text, text_in}
use Rattle.page_places.specs.Views.{places_by}
use Rattle.page_places.specs.Steps.{slots_written, homes_written}
use Rattle.page_places.proofs.Sums.{and_both}
use Rattle.page_places.proofs.Texts.{held-text, slot-holds}
use Rattle.page_places.proofs.Batches.{slots_within, slots_refine, homes_within, homes_refine}
use Rattle.doublewrite.specs.Text.{IsPageText, ArePageTexts, page_number_of}
use Rattle.doublewrite.specs.Batch.{text_at, slot_batch, home_batch}
use Rattle.doublewrite.specs.Layer.{SlotsWriting, SlotsSettled, IsSlotEvent, IsInside, ArePagesDistinct, HomesWriting, HomesSettled, IsHomeEvent}
use Rattle.doublewrite.specs.declared.texts.Texts.{Texts}

-- a text is one of its number
pub text_is : (text : List ℕ) → IsPageText text → is_page_text (page_number_of text) text ≡ true
unfolding is_page_text
text_is text is = and_both _ _ is.sums (grind (arith, nat_tests))

module _ {M : Type 0} (may_log : LogView M → Type 0) (batch : Texts) (texts : ArePageTexts batch.pages) (s m : List Event) where
  abbrev total : ℕ
  total = length batch.pages

  -- the slot of text i
  abbrev pub slot_in : ℕ → Slot
  slot_in i = record { space = batch.space; page = page_number_of (text_at batch i); text = text_in (text_at batch i) }

  abbrev pub text_of : ℕ → Text
  text_of i = text_in (text_at batch i)

  slots_valid : batch.space < 2 ^ 32 → (j : ℕ) → j < total → slot_held ((slot_batch batch).bytes j) ≡ Some (slot_in j)
  slots_valid small j lt = let is = texts j lt in slot-holds batch.space (page_number_of (text_at batch j)) batch.batch (text_at batch j) small is.number (text_is (text_at batch j) is)

  -- Each view inside `store` is one of the places with the batch's slots written.
  pub store_within : batch.space < 2 ^ 32 → Since (IsSlotEvent batch) s m → SlotsWriting batch s m → ((i : ℕ) → May Double 16896 i s (Some (shown Double 16896 i s)))
      → MayWithin (places_by may_log m) (slots_written (λ i. i) slot_in total (places_by may_log s))
  store_within small since w honest =
      slots_within may_log (slot_batch batch) slot_in total (slots_valid small) s m (since_each (of_is_on Double 16896 (slot_batch batch) total) since) w honest

  -- and behind it, with these synced.
  pub store_refines : batch.space < 2 ^ 32 → Since (IsSlotEvent batch) s m → SlotsSettled batch s m → ArePlacesWithin (places_by may_log m) (slots_synced (slots_written (λ i. i) slot_in total (places_by may_log s)))
  store_refines small since q =
      slots_refine may_log (slot_batch batch) slot_in total (slots_valid small) s m (since_each (of_is_on Double 16896 (slot_batch batch) total) since) q (λ i j lt below same. omega (arith, lt, same))

  homes_valid : (j : ℕ) → j < total → held ((home_batch batch).place j) ((home_batch batch).bytes j) ≡ Holds (text_of j)
  homes_valid j lt = held-text (page_number_of (text_at batch j)) (text_at batch j) (text_is (text_at batch j) (texts j lt))

  -- Each view inside `home` is one of the places with the batch's homes written.
  pub home_within : (count : ℕ) → IsInside batch count s → Since (IsHomeEvent batch) s m → HomesWriting batch s m → ((i : ℕ) → May (Space batch.space) 16384 i s (Some (shown (Space batch.space) 16384 i s)))
      → MayWithin (places_by may_log m) (homes_written batch.space (λ i. page_number_of (text_at batch i)) text_of total (places_by may_log s))
  home_within count inside since w honest =
      homes_within may_log batch.space count (home_batch batch) text_of total homes_valid s m (since_each (of_is_on (Space batch.space) 16384 (home_batch batch) total) since) (w count inside) honest

  -- and behind it, with the space synced.
  pub home_refines : (count : ℕ) → IsInside batch count s → ArePagesDistinct batch → Since (IsHomeEvent batch) s m → HomesSettled batch s m
      → ArePlacesWithin (places_by may_log m) (space_synced batch.space (homes_written batch.space (λ i. page_number_of (text_at batch i)) text_of total (places_by may_log s)))
  home_refines count inside distinct since q =
      homes_refine may_log batch.space count (home_batch batch) text_of total homes_valid s m (since_each (of_is_on (Space batch.space) 16384 (home_batch batch) total) since) (q count inside) distinct

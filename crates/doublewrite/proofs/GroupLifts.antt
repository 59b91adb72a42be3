-- What store and home make of the places of a store, as a group: exactly what a session's put (SessionGroups) and an opening's groups (OpeningApplies) ask.
use Rattle.std.proofs.Common.{◌≡◌, ℕ, zero, suc, ◌<◌, ◌^◌, List, [], ◌∷◌, length, slice_index_or, Some, refl, ap, subst, arith}
use Rattle.disk_model.specs.Event.{Event}
use Rattle.disk_model.specs.Does.{Since}
use Rattle.disk_model.specs.declared.names.FileName.TheVariants.{Double, Space}
use Rattle.places.specs.Places.{shown, May}
use Rattle.store_image.specs.Places.{LogView, Places, space_synced, slots_synced, MayWithin, ArePlacesWithin}
use Rattle.store_image.specs.Groups.{slot_of, stored_all, homed_all, stored_may, homed_may, item_of}
use Rattle.store_image.proofs.GroupPlaces.{store_all_within, home_all_within}
use Rattle.store_image.proofs.PlaceSteps.{may_then}
use Rattle.page_places.specs.Steps.{slots_written, homes_written}
use Rattle.page_places.specs.Texts.{text_in}
use Rattle.page_places.specs.Views.{places_by}
use Rattle.page_places.proofs.Groups.{slots_group, homes_group}
use Rattle.doublewrite.specs.Text.{ArePageTexts, page_number_of}
use Rattle.doublewrite.specs.Batch.{text_at}
use Rattle.doublewrite.specs.Group.{pages_in, group_of}
use Rattle.doublewrite.specs.Layer.{SlotsWriting, SlotsSettled, IsSlotEvent, IsInside, ArePagesDistinct, HomesWriting, HomesSettled, IsHomeEvent}
use Rattle.doublewrite.specs.declared.texts.Texts.{Texts}
use Rattle.doublewrite.proofs.Lifts.{slot_in, text_of, store_within, store_refines, home_within, home_refines}

pub pages_length : (xs : List (List ℕ)) → length (pages_in xs) ≡ length xs
pages_length [] = refl
pages_length (x ∷ xs) = ap suc (pages_length xs)

pub page_item : (space : ℕ) (xs : List (List ℕ)) (k : ℕ) → k < length xs → slot_of space (page_number_of (slice_index_or xs k [])) (text_in (slice_index_or xs k [])) ≡ item_of space (pages_in xs) k
page_item space [] k lt = absurd (omega (arith, lt))
page_item space (x ∷ xs) zero lt = refl
page_item space (x ∷ xs) (suc k) lt = page_item space xs k (omega (arith, lt))

module _ {M : Type 0} (may_log : LogView M → Type 0) (batch : Texts) (texts : ArePageTexts batch.pages) (s m : List Event) where
  abbrev first : Places M
  first = places_by may_log s

  abbrev z : ℕ
  z = batch.space

  many : length (group_of batch) ≡ length batch.pages
  many = pages_length batch.pages

  slots_are : (places : Places M) → slots_written (λ i. i) (slot_in may_log batch texts s m) (length batch.pages) places ≡ stored_all z 0 (group_of batch) places
  slots_are places = subst (λ (n : ℕ). slots_written (λ i. i) (slot_in may_log batch texts s m) n places ≡ stored_all z 0 (group_of batch) places) many
      (slots_group z 0 (group_of batch) (λ i. i) (slot_in may_log batch texts s m) places (λ k lt. omega arith) (λ k lt. page_item z batch.pages k (omega (arith, lt, many))))

  homes_are : (places : Places M) → homes_written z (λ i. page_number_of (text_at batch i)) (text_of may_log batch texts s m) (length batch.pages) places ≡ homed_all z (group_of batch) places
  homes_are places = subst (λ (n : ℕ). homes_written z (λ i. page_number_of (text_at batch i)) (text_of may_log batch texts s m) n places ≡ homed_all z (group_of batch) places) many
      (homes_group z (group_of batch) (λ i. page_number_of (text_at batch i)) (text_of may_log batch texts s m) places (λ k lt. page_item z batch.pages k (omega (arith, lt, many))))

  -- each moment inside `store`, and after its refusal
  pub store_group_within : z < 2 ^ 32 → Since (IsSlotEvent batch) s m → SlotsWriting batch s m → ((i : ℕ) → May Double 16896 i s (Some (shown Double 16896 i s)))
      → MayWithin (places_by may_log m) (stored_may z (group_of batch) first)
  store_group_within small since w honest = may_then (places_by may_log m) (stored_all z 0 (group_of batch) first) (stored_may z (group_of batch) first)
      (subst (λ (p : Places M). MayWithin (places_by may_log m) p) (slots_are first) (store_within may_log batch texts s m small since w honest))
      (store_all_within z (group_of batch) first)

  -- at Ok of `store`
  pub store_group : z < 2 ^ 32 → Since (IsSlotEvent batch) s m → SlotsSettled batch s m → ArePlacesWithin (places_by may_log m) (slots_synced (stored_all z 0 (group_of batch) first))
  store_group small since q = subst (λ (p : Places M). ArePlacesWithin (places_by may_log m) (slots_synced p)) (slots_are first) (store_refines may_log batch texts s m small since q)

  -- each moment inside `home`, and after its refusal
  pub home_group_within : (count : ℕ) → IsInside batch count s → Since (IsHomeEvent batch) s m → HomesWriting batch s m → ((i : ℕ) → May (Space z) 16384 i s (Some (shown (Space z) 16384 i s)))
      → MayWithin (places_by may_log m) (homed_may z (group_of batch) first)
  home_group_within count inside since w honest = may_then (places_by may_log m) (homed_all z (group_of batch) first) (homed_may z (group_of batch) first)
      (subst (λ (p : Places M). MayWithin (places_by may_log m) p) (homes_are first) (home_within may_log batch texts s m count inside since w honest))
      (home_all_within z (group_of batch) first)

  -- at Ok of `home`
  pub home_group : (count : ℕ) → IsInside batch count s → ArePagesDistinct batch → Since (IsHomeEvent batch) s m → HomesSettled batch s m → ArePlacesWithin (places_by may_log m) (space_synced z (homed_all z (group_of batch) first))
  home_group count inside distinct since q = subst (λ (p : Places M). ArePlacesWithin (places_by may_log m) (space_synced z p)) (homes_are first) (home_refines may_log batch texts s m count inside distinct since q)

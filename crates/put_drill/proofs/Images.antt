-- Each image of a moment while a batch is put.
use Rattle.std.proofs.Common.{◌≡◌, ◌≢◌, ℕ, ◌<◌, ◌^◌, ◌⊎◌, inl, inr, ⊎_elim, Bool, true, false, nat_eq, List, [], ◌∷◌, length, Some, refl, sym, ap, subst, ◌∙◌, arith}
use Rattle.std.specs.Prelude.{MatchBool}
use Rattle.std.proofs.lemmas.Bool.{cases_eq}
use Rattle.std.proofs.lemmas.Bool.Decides.{nat_tests}
use Rattle.disk_model.specs.Event.{Event, Open, Make}
use Rattle.disk_model.specs.Image.{IsLucky}
use Rattle.disk_model.specs.Does.{Since}
use Rattle.disk_model.specs.Crash.{crash_image}
use Rattle.disk_model.specs.declared.calls.Choice.{Choice}
use Rattle.disk_model.specs.declared.names.FileName.{FileName}
use Rattle.disk_model.specs.declared.names.FileName.TheVariants.{Log, Double, Space}
use Rattle.disk_model.proofs.CrashImage.{crash_is_image}
use Rattle.disk_model.proofs.Layers.{since_each}
use Rattle.disk_model.proofs.Lucky.{crash_is_lucky}
use Rattle.places.specs.Places.{shown, May, AreWhole, HasPlaces}
use Rattle.places.specs.Batches.{IsFileSettled}
use Rattle.places.proofs.Batches.{of_is_on}
use Rattle.places.proofs.Others.{may_since, shown_since, whole_since, places_since}
use Rattle.places.proofs.Refusable.{refusable}
use Rattle.places.proofs.Steps.{settled_honest}
use Rattle.page_places.specs.Texts.{slots, pages}
use Rattle.page_places.specs.Views.{places_by, view}
use Rattle.page_places.proofs.Monotone.{homes_more}
use Rattle.byte_list.proofs.RangeLaws.{length-zeros}
use Rattle.page_places.proofs.Views.{is_view}
use Rattle.store_image.proofs.PlaceSteps.{within_may, view_within, may_then}
use Rattle.store_image.specs.Places.{LogView, IsViewOf, slots_synced}
use Rattle.doublewrite.specs.Batch.{text_at, slot_batch, home_batch}
use Rattle.doublewrite.specs.Layer.{IsInside, IsSlotEvent, IsHomeEvent}
use Rattle.doublewrite.specs.Text.{ArePageTexts, page_number_of}
use Rattle.doublewrite.specs.declared.texts.Texts.{Texts}
use Rattle.doublewrite.proofs.Lifts.{store_within, store_refines, home_within}
use Rattle.put_drill.specs.Put.{Putting, Storing, Homing, IsBatchStored, AreFilesMade, ShowsBatch, layout_of, put_test, stored, homed}

abbrev AllWhole : List Event → Type 0
AllWhole es = (f : FileName) → AreWhole f (layout_of f) es

-- the two files that are made
either : (b : Bool) → MatchBool b (Unit {0}) (Unit {0})
either true = tt
either false = tt

made_whole : AllWhole (Make (Space 5) 1048576 ∷ Make Double 1081344 ∷ Open [] [] [] ∷ [])
made_whole Log = tt
made_whole Double = tt
made_whole (Space t) = either (nat_eq t 5)

pub made_double : (s : List Event) → AreFilesMade s → HasPlaces Double slots s
made_double s is = subst (HasPlaces Double slots) (sym is) (record { some = omega arith; there = refl; size = length-zeros 1081344; whole = tt })

pub made_space : (s : List Event) → AreFilesMade s → HasPlaces (Space 5) (pages 64) s
made_space s is = subst (HasPlaces (Space 5) (pages 64)) (sym is) (record { some = omega arith; there = refl; size = length-zeros 1048576; whole = tt })

module _ (batch : Texts) (five : batch.space ≡ 5) (texts : ArePageTexts batch.pages) (numbers : (i : ℕ) → i < length batch.pages → page_number_of (text_at batch i) < 64) (s : List Event) (made : AreFilesMade s) where
  abbrev z : ℕ
  z = batch.space

  abbrev total : ℕ
  total = length batch.pages

  small : z < 2 ^ 32
  small = omega (arith, five)

  start_whole : AllWhole s
  start_whole = subst AllWhole (sym made) made_whole

  pub start_inside : IsInside batch 64 s
  start_inside = record { places = subst (λ (k : ℕ). HasPlaces (Space k) (pages 64) s) (sym five) (made_space s made); within = numbers }

  double_settled : IsFileSettled Double 16896 s
  double_settled = subst (IsFileSettled Double 16896) (sym made) (λ i x may. may)

  space_settled : IsFileSettled (Space z) 16384 s
  space_settled = subst (λ (k : ℕ). IsFileSettled (Space k) 16384 s) (sym five) (subst (IsFileSettled (Space 5) 16384) (sym made) (λ i x may. may))

  on_double : (m : List Event) → Since (IsSlotEvent batch) s m → AllWhole s → AreWhole Double slots m → AllWhole m
  on_double m since whole here Log = whole_since Double Log refl (layout_of Log) s m (since_each (of_is_on Double 16896 (slot_batch batch) total) since) (whole Log)
  on_double m since whole here Double = here
  on_double m since whole here (Space t) = whole_since Double (Space t) refl (pages 64) s m (since_each (of_is_on Double 16896 (slot_batch batch) total) since) (whole (Space t))

  on_space : (t m : List Event) → Since (IsHomeEvent batch) t m → AllWhole t → AreWhole (Space z) (pages 64) m → AllWhole m
  on_space t m since whole here Log = whole_since (Space z) Log refl (layout_of Log) t m (since_each (of_is_on (Space z) 16384 (home_batch batch) total) since) (whole Log)
  on_space t m since whole here Double = whole_since (Space z) Double refl slots t m (since_each (of_is_on (Space z) 16384 (home_batch batch) total) since) (whole Double)
  on_space t m since whole here (Space y) = ⊎_elim
      (λ (e : y ≡ z). subst (λ (k : ℕ). AreWhole (Space k) (pages 64) m) (sym e) here)
      (λ (other : y ≢ z). let apart : nat_eq y z ≡ false = grind (arith, nat_tests) in
      whole_since (Space z) (Space y) apart (pages 64) t m (since_each (of_is_on (Space z) 16384 (home_batch batch) total) since) (whole (Space y)))
      (cases_eq y z)

  inside_then : (t : List Event) → IsBatchStored batch s t → IsInside batch 64 t
  inside_then t a = record {
    places = places_since Double (Space z) refl (pages 64) s t (since_each (of_is_on Double 16896 (slot_batch batch) total) a.since) start_inside.places;
    within = numbers;
  }

  all_whole : (m : List Event) → Putting batch s m → AllWhole m
  all_whole m (Storing since w) = on_double m since start_whole w.places.whole
  all_whole m (Homing t a since w) = on_space t m since (on_double t a.since start_whole a.settled.wrote.writing.places.whole) (w 64 (inside_then t a)).places.whole

  pub put_double : (m : List Event) → Putting batch s m → HasPlaces Double slots m
  put_double m (Storing since w) = w.places
  put_double m (Homing t a since w) = places_since (Space z) Double refl slots t m (since_each (of_is_on (Space z) 16384 (home_batch batch) total) since) a.settled.wrote.writing.places

  put_space : (m : List Event) → Putting batch s m → HasPlaces (Space z) (pages 64) m
  put_space m (Storing since w) = places_since Double (Space z) refl (pages 64) s m (since_each (of_is_on Double 16896 (slot_batch batch) total) since) start_inside.places
  put_space m (Homing t a since w) = (w 64 (inside_then t a)).places

  pub put_pages : (m : List Event) → Putting batch s m → HasPlaces (Space 5) (pages 64) m
  put_pages m p = subst (λ (k : ℕ). HasPlaces (Space k) (pages 64) m) five (put_space m p)

  lucky : (choices : List Choice) (m : List Event) → Putting batch s m → IsLucky put_test (crash_image choices m)
  lucky choices m p = crash_is_lucky put_test choices m (λ f. refusable f (layout_of f) m (all_whole m p f) (put_test f) (λ bytes. refl))

  module _ (may_log : LogView (Unit {0}) → Type 0) (log : LogView (Unit {0})) (may : may_log log) (choices : List Choice) (m : List Event) (p : Putting batch s m) where
    here : IsViewOf (places_by may_log m) (view log (crash_image choices m))
    here = is_view may_log log (λ k. 64) m (all_whole m p Double) (λ k. all_whole m p (Space k)) put_test (λ bytes. refl) (λ k bytes. refl) (crash_image choices m) (crash_is_image choices m) (lucky choices m p) may

    by : Putting batch s m
        → IsViewOf (stored batch (places_by may_log s)) (view log (crash_image choices m)) ⊎ IsViewOf (homed batch (slots_synced (stored batch (places_by may_log s)))) (view log (crash_image choices m))
    by (Storing since w) = inl (view_within _ _ _ (store_within may_log batch texts s m small since w (λ i. settled_honest Double 16896 i s (double_settled i))) here)
    by (Homing t a since w) =
        let slot_since = since_each (of_is_on Double 16896 (slot_batch batch) total) a.since in
        let honest : (i : ℕ) → May (Space z) 16384 i t (Some (shown (Space z) 16384 i t)) =
        λ i. settled_honest (Space z) 16384 i t (λ x left. space_settled i x (may_since Double (Space z) refl 16384 i s t x slot_since left) ∙ ap (λ (l : List ℕ). Some l) (sym (shown_since Double (Space z) refl 16384 i s t slot_since))) in
        let last = home_within may_log batch texts t m 64 (inside_then t a) since w honest in
        let first = store_refines may_log batch texts s t small a.since a.settled in
        inr (view_within _ _ _ (may_then _ _ _ last (homes_more z (λ i. page_number_of (text_at batch i)) _ total (places_by may_log t) (slots_synced (stored batch (places_by may_log s))) (within_may _ _ first))) here)

  pub crash_stands : (choices : List Choice) (m : List Event) → Putting batch s m → ShowsBatch batch s (crash_image choices m)
  crash_stands choices m p = record { made = made; lucky = lucky choices m p; view = λ log. by (λ l. l ≡ log) log refl choices m p p }

-- what the files are as the disk begins
pub made_now : (batch : Texts) → batch.space ≡ 5 → ((i : ℕ) → i < length batch.pages → page_number_of (text_at batch i) < 64) → (s : List Event) → AreFilesMade s → (count : ℕ) × IsInside batch count s
made_now batch five numbers s made = (64, record { places = subst (λ (k : ℕ). HasPlaces (Space k) (pages 64) s) (sym five) (made_space s made); within = numbers })

-- What each device call does to the homes.
use Rattle.std.proofs.Common.{ℕ, ◌+◌, ◌*◌, ◌<◌, ◌≤◌, List, ◌∷◌, length, refl, arith}
use Rattle.disk_model.specs.Event.{Event, Write, Sync}
use Rattle.disk_model.specs.Image.{InFile}
use Rattle.disk_model.specs.Past.{Past, At, IsWrite}
use Rattle.disk_model.specs.declared.names.FileName.TheVariants.{Space}
use Rattle.disk_model.proofs.Moments.{at_each}
use Rattle.places.specs.Batches.{From, IsNext}
use Rattle.places.proofs.Steps.{place_ends}
use Rattle.places.proofs.FileSteps.{file_inside, file_write}
use Rattle.places.proofs.Batches.{wrote_none, writing_more, next_each, next_wrote, last_sync, fact_of_settled, at_start}
use Rattle.page_places.specs.Texts.{pages}
use Rattle.page_places.proofs.Sums.{torn_page}
use Rattle.doublewrite.specs.Text.{IsPageText, page_number_of}
use Rattle.doublewrite.specs.Batch.{text_at, home_batch}
use Rattle.doublewrite.specs.Layer.{FitsSpace, IsInside, ArePagesDistinct, HomesWriting, HomesWrote, HomesSettled}
use Rattle.doublewrite.specs.declared.texts.Texts.{Texts}

module _ (batch : Texts) where
  abbrev total : ℕ
  total = length batch.pages

  home_next : (count i : ℕ) (s : List Event) → i < total → ArePagesDistinct batch → IsPageText (text_at batch i) → IsInside batch count s → IsNext (pages count) (home_batch batch) i
  home_next count i s more distinct is inside = record {
    within = inside.within i more;
    long = is.long;
    refused = torn_page (text_at batch i) is.sums;
    differ = λ j lt. distinct j i lt more;
  }

  pub homes_begin : (first : Past) → At (From (HomesWrote batch 0) first) first
  homes_begin first = at_start {X = λ es. Unit {0}} (λ s h count inside. wrote_none (Space batch.space) (pages count) (home_batch batch) s inside.places) (record { here = λ es is. tt })

  pub homes_now : (i : ℕ) → i ≤ total → (first : Past) (es : List Event) → From (HomesWrote batch i) first es → From (HomesWriting batch) first es
  homes_now i le first es r = at_each (λ s w count inside. writing_more (Space batch.space) (pages count) (home_batch batch) s i total le es (w count inside).writing) r

  -- the home of the next text lies within its file
  pub home_inside : (i : ℕ) → i < total → (m : List Event) → (count : ℕ) × FitsSpace batch count m → InFile (Space batch.space) (page_number_of (text_at batch i) * 16384) 16384 m
  home_inside i more m fits = file_inside (Space batch.space) (pages fits.0) (page_number_of (text_at batch i)) (fits.1.within i more) 16384 refl m fits.1.file

  -- and the file goes on behind its write
  pub home_fits : (i : ℕ) → i < total → IsPageText (text_at batch i) → (es : List Event) → (count : ℕ) × FitsSpace batch count es
      → (count : ℕ) × FitsSpace batch count (Write (Space batch.space) (page_number_of (text_at batch i) * 16384) (text_at batch i) (text_at batch i) ∷ es)
  home_fits i more is es (count, fits) =
      let text = text_at batch i in
      let at = page_number_of text * 16384 in
      let ends : at + length text ≤ count * 16384 = omega (arith, is.long, place_ends (pages count) (page_number_of text) (fits.within i more)) in
      (count, record { file = file_write (Space batch.space) (Space batch.space) (pages count) at text text es ends fits.file; within = fits.within })

  module _ (i : ℕ) (more : i < total) (distinct : ArePagesDistinct batch) (is : IsPageText (text_at batch i)) (first : Past) where
    pub home_each : (d : Event) → IsWrite (Space batch.space) (page_number_of (text_at batch i) * 16384) (text_at batch i) d → (es : List Event) → From (HomesWrote batch i) first es → From (HomesWriting batch) first (d ∷ es)
    home_each d write es r =
        at_each (λ s w count inside. next_each (Space batch.space) (pages count) (home_batch batch) s i (home_next count i s more distinct is inside) es total more d write (w count inside)) r

    pub home_wrote : (es : List Event) → From (HomesWrote batch i) first es → From (HomesWrote batch (i + 1)) first (Write (Space batch.space) (page_number_of (text_at batch i) * 16384) (text_at batch i) (text_at batch i) ∷ es)
    home_wrote es r = at_each (λ s w count inside. next_wrote (Space batch.space) (pages count) (home_batch batch) s i (home_next count i s more distinct is inside) es (w count inside)) r

  pub homes_sync : (first : Past) (es : List Event) → From (HomesWrote batch total) first es → From (HomesSettled batch) first (Sync (Space batch.space) ∷ es)
  homes_sync first es r = at_each (λ s w count inside. last_sync (Space batch.space) (pages count) (home_batch batch) s total es (w count inside)) r

  pub homes_then : (first : Past) (es : List Event) → From (HomesSettled batch) first es → From (HomesWriting batch) first es
  homes_then first es r = at_each (λ s w count inside. fact_of_settled (Space batch.space) (pages count) (home_batch batch) s total es (w count inside)) r

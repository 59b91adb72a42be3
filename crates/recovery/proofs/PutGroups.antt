-- What a group that is stored and written home makes of a store that is opened.
use Rattle.std.proofs.Common.{◌≡◌, ℕ, zero, suc, ◌+◌, ◌*◌, ◌<◌, ◌≤◌, ◌^◌, ◌≢◌, ⊎_elim, true, false, nat_eq, List, [], ◌∷◌, ◌++◌, length, Some, None, refl, sym, ap, subst, ◌∙◌, arith}
use Rattle.std.proofs.lemmas.Bool.{cases_eq}
use Rattle.std.proofs.lemmas.Bool.Decides.{nat_tests}
use Rattle.std.proofs.lemmas.Option.{none-some, same_Some}
use Rattle.disk_model.specs.Event.{Event, same_file}
use Rattle.disk_model.specs.Does.{AllAre, Since, IsOn}
use Rattle.disk_model.specs.Past.{Past, At}
use Rattle.disk_model.specs.declared.names.FileName.{FileName}
use Rattle.disk_model.specs.declared.names.FileName.TheVariants.{Double, Space}
use Rattle.disk_model.proofs.Layers.{since_each}
use Rattle.places.specs.Beside.{LeavesFile}
use Rattle.places.specs.Batches.{Batch, From}
use Rattle.places.specs.Places.{Layout, HasFile, HasPlaces}
use Rattle.places.specs.Writes.{grows, writes_of}
use Rattle.places.proofs.Batches.{of_is_on}
use Rattle.places.proofs.FileSteps.{file_left_alone, file_sync, file_write}
use Rattle.places.proofs.Steps.{place_ends, settled_honest}
use Rattle.page_places.specs.Placed.{MayBePlaced}
use Rattle.page_places.specs.Texts.{held, pages, slots, text_in}
use Rattle.page_places.proofs.Placed.{placed_settled, placed_writing}
use Rattle.page_places.proofs.Texts.{held-text, length-slot}
use Rattle.store_files.specs.Pages.{has_page, pages_of}
use Rattle.store_image.specs.Opening.{InApply, IsApplyStored, Stopped}
use Rattle.store_image.specs.Places.{LogView, log_of}
use Rattle.store_image.specs.Recovers.{PageContents, Theory}
use Rattle.store_image.specs.View.{Holds, View}
use Rattle.store_image.proofs.OpeningApplies.{apply_done, apply_homed, apply_homing, apply_still, apply_stored, apply_storing, stored_still}
use Rattle.redo_text.specs.declared.change.Change.{Change}
use Rattle.crash_image.proofs.OpeningsOverBytes.{opening_recovers}
use Rattle.crash_image.specs.Opened.{IsOpenedAt, StoreOpened, opened_theory, FilesOpened, FilesSettled}
use Rattle.crash_image.proofs.OpeningFiles.{files_double, files_space, settled_double, settled_space, space_places}
use Rattle.doublewrite.specs.Batch.{home_batch, home_events, slot_batch, slot_events, text_at}
use Rattle.doublewrite.specs.Group.{group_of, pages_in}
use Rattle.doublewrite.specs.Layer.{ArePagesDistinct, FitsSpace, HomesSettled, HomesWriting, IsHomeEvent, IsInside, IsSlotEvent, SlotsSettled, SlotsWriting}
use Rattle.doublewrite.specs.Text.{ArePageTexts, page_number_of}
use Rattle.doublewrite.specs.declared.texts.Texts.{Texts}
use Rattle.doublewrite.proofs.GroupLifts.{home_group, home_group_within, store_group, store_group_within}
use Rattle.doublewrite.proofs.Lifts.{text_is}
use Rattle.recovery.specs.Putting.{BetweenGroups, ImagesRecover, IsGroupApplied, IsPageDone, IsSealedBatch, MayApplyGroups, opened_places}

group_length : (xs : List (List ℕ)) → length (pages_in xs) ≡ length xs
group_length [] = refl
group_length (x ∷ xs) = ap suc (group_length xs)

module _ (o : StoreOpened) (s : List Event) (batch : Texts) (texts : ArePageTexts batch.pages) (small : batch.space < 2 ^ 32) (few : length batch.pages ≤ 64) (sealed : IsSealedBatch o batch) where
  abbrev T : Theory
  T = opened_theory o

  abbrev v : View (List Change)
  v = o.view

  abbrev c : PageContents T
  c = pages_of o.contents

  abbrev z : ℕ
  z = batch.space

  abbrev may_log : LogView (List Change) → Type 0
  may_log l = l ≡ log_of v

  at_most : length (group_of batch) ≤ 64
  at_most = let same = group_length batch.pages in omega (arith, few, same)

  -- the group is in its slots, and nothing is pending
  pub record IsGroupStored (t : List Event) : Type 0 where
    pub applied : IsApplyStored T v c o.active (opened_places o t) z (group_of batch)
    pub files : FilesOpened o s t
    pub settled : FilesSettled t

  on_double : (b m : List Event) → Since (IsSlotEvent batch) b m → Since (IsOn Double) b m
  on_double b m since = since_each (of_is_on Double 16896 (slot_batch batch) (length batch.pages)) since

  on_space : (t m : List Event) → Since (IsHomeEvent batch) t m → Since (IsOn (Space z)) t m
  on_space t m since = since_each (of_is_on (Space z) 16384 (home_batch batch) (length batch.pages)) since

  -- ---- the slots

  module _ (b m : List Event) (between : BetweenGroups o s b) (double : HasFile Double slots b) (since : Since (IsSlotEvent batch) b m) where
    pub group_storing : SlotsWriting batch b m → MayApplyGroups o s m
    group_storing w = record {
      may = apply_storing T v c o.active z (group_of batch) (opened_places o b) between.between.storing sealed (opened_places o m)
          (store_group_within may_log batch texts b m small since w (λ i. settled_honest Double 16896 i b (between.settled.double i)));
      files = files_double o s b m between.files (on_double b m since) double w.places;
    }

    pub group_stored : SlotsSettled batch b m → IsGroupStored m
    group_stored q = record {
      applied = apply_stored T v c o.active z (group_of batch) (opened_places o b) between.between.storing sealed (opened_places o m) (store_group may_log batch texts b m small since q);
      files = files_double o s b m between.files (on_double b m since) double q.wrote.writing.places;
      settled = settled_double b m between.settled (on_double b m since) q.settled;
    }

    pub done_stored : SlotsSettled batch b m → (y p : ℕ) → IsPageDone o b y p → IsPageDone o m y p
    done_stored q = stored_still T v c o.active z (group_of batch) (opened_places o b) (opened_places o m) (store_group may_log batch texts b m small since q)

  -- ---- the homes

  home_valid : (j : ℕ) → j < length batch.pages → held ((home_batch batch).place j) ((home_batch batch).bytes j) ≡ Holds (text_in (text_at batch j))
  home_valid j lt = held-text (page_number_of (text_at batch j)) (text_at batch j) (text_is (text_at batch j) (texts j lt))

  pub group_inside : (t : List Event) → IsGroupStored t → (count : ℕ) → FitsSpace batch count t → IsInside batch count t
  group_inside t stored count fits = record {
    places = record { some = omega arith; there = fits.file.there; size = fits.file.size; whole = stored.files.files.spaces_whole z count };
    within = fits.within;
  }

  module _ (t m : List Event) (stored : IsGroupStored t) (count : ℕ) (fits : FitsSpace batch count t) (since : Since (IsHomeEvent batch) t m) where
    inside : IsInside batch count t
    inside = group_inside t stored count fits

    may_placed : HomesWriting batch t m → (p : ℕ) → has_page o.header.spaces z p ≡ true → MayBePlaced z p m
    may_placed w p here =
        placed_writing z p t m (placed_settled z p t (stored.files.files.placed z p here) (stored.settled.spaces z)) count (length batch.pages) (home_batch batch) (λ j. text_in (text_at batch j)) home_valid (w count inside)

    files_home : HomesWriting batch t m → FilesOpened o s m
    files_home w = files_space o s t m stored.files z (on_space t m since) (space_places o s t m stored.files z count fits.file (w count inside).places (may_placed w))

    pub group_homing : HomesWriting batch t m → MayApplyGroups o s m
    group_homing w = record {
      may = apply_homing T v c o.active z (group_of batch) (opened_places o t) stored.applied sealed at_most (opened_places o m)
          (home_group_within may_log batch texts t m count inside since w (λ i. settled_honest (Space z) 16384 i t (stored.settled.spaces z i)));
      files = files_home w;
    }

    module _ (distinct : ArePagesDistinct batch) (q : HomesSettled batch t m) where
      writing : HomesWriting batch t m
      writing n i = (q n i).wrote.writing

      pub group_homed : BetweenGroups o s m
      group_homed = record {
        between = apply_homed T v c o.active z (group_of batch) (opened_places o t) stored.applied sealed at_most (opened_places o m) (home_group may_log batch texts t m count inside distinct since q);
        files = files_home writing;
        settled = settled_space t m stored.settled z (on_space t m since) (q count inside).settled;
      }

      pub group_applied : (b : List Event) → ((y p : ℕ) → IsPageDone o b y p → IsPageDone o t y p) → IsGroupApplied o batch b m
      group_applied b still =
          let homed = home_group may_log batch texts t m count inside distinct since q in
          record {
            done = λ p x among. apply_done T v c o.active z (group_of batch) (opened_places o t) sealed (opened_places o m) homed p x among;
            still = λ y p done. apply_still T v c o.active z (group_of batch) (opened_places o t) sealed (opened_places o m) homed y p (still y p done);
          }

-- Each lucky image of a moment while groups are applied recovers to what was opened.
pub groups_recover : (o : StoreOpened) (last : ℕ) (s : List Event) → IsOpenedAt o last s → (m : List Event) → MayApplyGroups o s m → ImagesRecover o last m
groups_recover o last s opened m g image is lucky = opening_recovers o last s opened m g.files Stopped (InApply g.may) image is lucky

-- the doublewrite file has its places
pub double_places : (o : StoreOpened) (s es : List Event) → BetweenGroups o s es → HasFile Double slots es → HasPlaces Double slots es
double_places o s es between double = record { some = omega arith; there = double.there; size = double.size; whole = between.files.files.double_whole }

-- what is known of the moment at which a call began
pub from_start : (R : List Event → List Event → Type 0) {old : Past} (b m : List Event) → old ≡ Some b → R b m → From R old m
from_start R b m is r = record { here = λ t here. subst (λ (l : List Event). R l m) (same_Some b t (sym is ∙ here)) r }

-- ---- the files go on

-- writes of whole places and a sync behind them
pub writes_fit : (f g : FileName) (layout : Layout) (n : ℕ) (b : Batch) (k : ℕ) → ((j : ℕ) → j < k → b.place j * n + length (b.bytes j) ≤ layout.count * layout.size) → (es : List Event) → HasFile f layout es → HasFile f layout (writes_of g n b k ++ es)
writes_fit f g layout n b zero fits es has = has
writes_fit f g layout n b (suc k) fits es has =
    file_write f g layout (b.place k * n) (b.bytes k) (b.bytes k) (writes_of g n b k ++ es) (fits k (omega arith)) (writes_fit f g layout n b k (λ j lt. fits j (omega (arith, lt))) es has)

pub writes_leave : (f g : FileName) → same_file g f ≡ false → (n : ℕ) (b : Batch) (k : ℕ) → AllAre (LeavesFile g) (writes_of f n b k)
writes_leave f g apart n b zero = tt
writes_leave f g apart n b (suc k) = (apart, writes_leave f g apart n b k)

-- what holds behind known events
pub at_grown : {P Q : List Event → Type 0} (news : List Event) → ((es : List Event) → P es → Q (news ++ es)) → (old new : Past) → new ≡ grows news old → At P old → At Q new
at_grown news goes None new is at = record { here = λ es now. absurd (none-some es (sym is ∙ now)) }
at_grown {Q = Q} news goes (Some s) new is at = record { here = λ es now. subst Q (same_Some (news ++ s) es (sym is ∙ now)) (goes s (at.here s refl)) }

module _ (batch : Texts) (texts : ArePageTexts batch.pages) (few : length batch.pages ≤ 64) where
  slot_fits : (j : ℕ) → j < length batch.pages → j * 16896 + length ((slot_batch batch).bytes j) ≤ 64 * 16896
  slot_fits j lt =
      let is = texts j lt in
      let long = length-slot batch.space (page_number_of (text_at batch j)) batch.batch (text_at batch j) is.long in
      omega (arith, long, lt, few)

  pub double_stored : (es : List Event) → HasFile Double slots es → HasFile Double slots (slot_events batch ++ es)
  double_stored es has = file_sync Double Double slots (writes_of Double 16896 (slot_batch batch) (length batch.pages) ++ es) (writes_fit Double Double slots 16896 (slot_batch batch) (length batch.pages) slot_fits es has)

  -- what is beside the doublewrite file
  pub left_stored : (g : FileName) → same_file g Double ≡ false → (layout : Layout) (es : List Event) → HasFile g layout es → HasFile g layout (slot_events batch ++ es)
  left_stored g apart layout es has =
      file_left_alone g layout es (slot_events batch ++ es) (record { news = slot_events batch; is = refl; all = (apart, writes_leave Double g apart 16896 (slot_batch batch) (length batch.pages)) }) has

  -- and beside the space
  pub left_homed : (g : FileName) → same_file g (Space batch.space) ≡ false → (layout : Layout) (es : List Event) → HasFile g layout es → HasFile g layout (home_events batch ++ es)
  left_homed g apart layout es has =
      file_left_alone g layout es (home_events batch ++ es) (record { news = home_events batch; is = refl; all = (apart, writes_leave (Space batch.space) g apart 16384 (home_batch batch) (length batch.pages)) }) has

  pub space_stored : (y count : ℕ) (es : List Event) → HasFile (Space y) (pages count) es → HasFile (Space y) (pages count) (slot_events batch ++ es)
  space_stored y count es has = left_stored (Space y) refl (pages count) es has

  pub fits_stored : (es : List Event) → (count : ℕ) × FitsSpace batch count es → (count : ℕ) × FitsSpace batch count (slot_events batch ++ es)
  fits_stored es (count, fits) = (count, record { file = space_stored batch.space count es fits.file; within = fits.within })

  pub double_homed : (es : List Event) → HasFile Double slots es → HasFile Double slots (home_events batch ++ es)
  double_homed es has = left_homed Double refl slots es has

  pub space_homed : (y count : ℕ) (es : List Event) → (n : ℕ) × FitsSpace batch n es → HasFile (Space y) (pages count) es → HasFile (Space y) (pages count) (home_events batch ++ es)
  space_homed y count es (n, fits) has = ⊎_elim
      (λ (e : batch.space ≡ y). subst (λ (x : ℕ). HasFile (Space x) (pages count) es → HasFile (Space x) (pages count) (home_events batch ++ es)) e own has)
      (λ (other : batch.space ≢ y). let apart : nat_eq y batch.space ≡ false = differs y other in
      file_left_alone (Space y) (pages count) es (home_events batch ++ es) (record { news = home_events batch; is = refl; all = (apart, writes_leave (Space batch.space) (Space y) apart 16384 (home_batch batch) (length batch.pages)) }) has)
      (cases_eq batch.space y)
    where
      differs : (y : ℕ) → batch.space ≢ y → nat_eq y batch.space ≡ false
      differs y other = let flip : y ≢ batch.space = λ e. other (sym e) in grind (arith, nat_tests)

      own : HasFile (Space batch.space) (pages count) es → HasFile (Space batch.space) (pages count) (home_events batch ++ es)
      own here =
          let same : count ≡ n = omega (arith, here.size, fits.file.size) in
          let ends : (j : ℕ) → j < length batch.pages → page_number_of (text_at batch j) * 16384 + length (text_at batch j) ≤ count * 16384 =
          λ j lt. let is = texts j lt in omega (arith, is.long, place_ends (pages n) (page_number_of (text_at batch j)) (fits.within j lt), same) in
          file_sync (Space batch.space) (Space batch.space) (pages count) (writes_of (Space batch.space) 16384 (home_batch batch) (length batch.pages) ++ es)
          (writes_fit (Space batch.space) (Space batch.space) (pages count) 16384 (home_batch batch) (length batch.pages) ends es here)

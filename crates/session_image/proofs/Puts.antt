-- A put writes a batch of page texts: to the slots of the doublewrite file, and then to the homes.
use Rattle.std.proofs.Common.{◌∙◌, ◌≡◌, ◌≢◌, ℕ, ◌^◌, ◌<◌, ◌≤◌, ⊎_elim, Bool, true, false, true≢false, nat_eq, nat_lt, if◌then◌else◌, List, [], ◌∷◌, length, Option, Some, None, refl, sym, subst, arith}
use Rattle.std.proofs.lemmas.Bool.{cases_eq, ne_eqb}
use Rattle.std.proofs.lemmas.Bool.Decides.{nat_tests}
use Rattle.std.proofs.lemmas.Option.{none-some}
use Rattle.disk_model.specs.Event.{Event, same_file, marks}
use Rattle.disk_model.specs.Does.{Since, IsOn}
use Rattle.disk_model.specs.declared.names.FileName.{FileName}
use Rattle.disk_model.specs.declared.names.FileName.TheVariants.{Double, Space}
use Rattle.disk_model.proofs.Layers.{since_each}
use Rattle.places.specs.Beside.{LeavesFile}
use Rattle.places.specs.Batches.{Writing, IsFileSettled}
use Rattle.places.specs.Places.{May, shown, AreWhole, HasPlaces}
use Rattle.places.proofs.Batches.{of_is_on}
use Rattle.places.proofs.LeftAlone.{leaves_file, may_left_alone, whole_left_alone, places_left_alone}
use Rattle.places.proofs.Steps.{settled_honest}
use Rattle.page_places.specs.Placed.{MayBePlaced}
use Rattle.page_places.specs.Texts.{page_bytes, slot_size, held, text_in, slots, pages}
use Rattle.page_places.proofs.Placed.{placed_settled, placed_writing}
use Rattle.page_places.proofs.Texts.{held-text}
use Rattle.redo_text.specs.declared.change.Change.{Change}
use Rattle.ring_log.specs.Ring.{Form, RingState, RingReady}
use Rattle.ring_log.proofs.Events.{ringed_since, ready_since}
use Rattle.store_image.specs.Doublewrite.{IsSlotOf}
use Rattle.store_image.proofs.DoublewritePlaces.{at_page, in_batch}
use Rattle.store_image.specs.Groups.{item_of, slot_of}
use Rattle.store_image.specs.Recovers.{Theory}
use Rattle.store_image.specs.Session.{Session, Dirty, IsLogOfSession}
use Rattle.store_image.specs.SessionPhases.{AreDueIn, IsCleaned, IsPutStored, Ready}
use Rattle.store_image.specs.View.{Slot, Text, Holds, slot_count}
use Rattle.store_image.proofs.SessionCalls.{ready_log}
use Rattle.store_image.proofs.SessionGroups.{put_storing, put_stored, put_stored_keeps, put_homing, put_homed}
use Rattle.store_image.proofs.SessionPuts.{ready_keeps}
use Rattle.store_files.specs.Header.{HeldSpace}
use Rattle.store_files.specs.Pages.{has_page}
use Rattle.crash_image.proofs.LogForms.{is_form}
use Rattle.doublewrite.specs.Batch.{text_at, slot_batch, home_batch}
use Rattle.doublewrite.specs.Group.{group_of}
use Rattle.doublewrite.specs.Layer.{SlotsWriting, SlotsSettled, IsSlotEvent, IsInside, ArePagesDistinct, HomesWriting, HomesSettled, IsHomeEvent}
use Rattle.doublewrite.specs.Text.{ArePageTexts, page_number_of}
use Rattle.doublewrite.specs.declared.texts.Texts.{Texts}
use Rattle.doublewrite.proofs.GroupLifts.{page_item, pages_length, store_group, store_group_within, home_group, home_group_within}
use Rattle.doublewrite.proofs.Lifts.{text_is}
use Rattle.session_image.specs.Kept.{SessionStore, page_count, session_theory, session_form, session_places, SessionFiles, SessionMoment, SessionReady, PutReady}
use Rattle.session_image.proofs.MomentSteps.{settled_left, moment_at}

-- events on one file leave another alone
beside : (f g : FileName) → same_file g f ≡ false → {a b : List Event} → Since (IsOn f) a b → Since (LeavesFile g) a b
beside f g apart since = since_each (leaves_file f g apart) since

-- a page of the store is among the pages of its space
pub page_below : (hs : List HeldSpace) (s p : ℕ) → has_page hs s p ≡ true → p < page_count hs s
page_below [] s p there = absurd (true≢false (sym there))
page_below (h ∷ hs) s p there = by (nat_eq h.space s) there (λ rest. page_below hs s p rest)
  where
    by : (b : Bool) → (if b then nat_lt p h.pages else has_page hs s p) ≡ true → (has_page hs s p ≡ true → p < page_count hs s) → p < (if b then h.pages else page_count hs s)
    by true below rest = grind (arith, nat_tests)
    by false there rest = rest there

-- a page that is dirty behind a batch was dirty as it is
cleaned_old : (item : ℕ → Slot) (count : ℕ) (old new : ℕ → ℕ → Option Dirty) → IsCleaned item count old new → (s p : ℕ) (d : Dirty) → new s p ≡ Some d → old s p ≡ Some d
cleaned_old item count old new cleans s p d is = ⊎_elim
    (λ (inside : (i : ℕ) × (i < count) × IsSlotOf (item i) s p). absurd (none-some d (sym (at_page (λ a b. new a b ≡ None) (item inside.0) s p inside.2 (cleans.clean inside.0 inside.1)) ∙ is)))
    (λ (outside : (i : ℕ) → i < count → IsSlotOf (item i) s p → ⊥). sym (cleans.others s p outside) ∙ is)
    (in_batch item count s p)

module _ (store : SessionStore) where
  abbrev T : Theory
  T = session_theory store

  abbrev N : ℕ
  N = store.header.blocks

  abbrev F : Form (List Change)
  F = session_form store

  abbrev count : ℕ → ℕ
  count s = page_count store.header.spaces s

  module _ (w : Session T) (r : RingState) (s m : List Event) (batch : Texts) (texts : ArePageTexts batch.pages) where
    abbrev z : ℕ
    z = batch.space

    abbrev group : List (ℕ × Text)
    group = group_of batch

    -- ---- the slots

    module _ (small : z < 2 ^ 32) (ready : SessionReady store w r s) (few : length group ≤ slot_count) (due : AreDueIn T w (marks s) z group) (since : Since (IsSlotEvent batch) s m) where
      on_double : Since (IsOn Double) s m
      on_double = since_each (of_is_on Double slot_size (slot_batch batch) (length batch.pages)) since

      honest_slots : (i : ℕ) → May Double slot_size i s (Some (shown Double slot_size i s))
      honest_slots i = settled_honest Double slot_size i s (ready.double i)

      slot_files : HasPlaces Double slots m → SessionFiles store m
      slot_files double = record {
        double = double;
        spaces = λ y there. places_left_alone (Space y) (pages (count y)) s m (beside Double (Space y) refl on_double) (ready.moment.files.spaces y there);
        whole = λ y. whole_left_alone (Space y) (pages (count y)) s m (beside Double (Space y) refl on_double) (ready.moment.files.whole y);
        placed = λ y p there bytes may. ready.moment.files.placed y p there bytes (may_left_alone (Space y) page_bytes p s m (Some bytes) (beside Double (Space y) refl on_double) may);
      }

      -- At each moment inside `store`, and after its refusal.
      pub session_storing : SlotsWriting batch s m → SessionMoment store w r m
      session_storing writing = moment_at store w r s m ready.moment (ringed_since N F (is_form store.header store.book) r Double refl s m on_double ready.moment.ringed) (slot_files writing.places)
          (put_storing T w z group (session_places store w s) ready.ready few due (session_places store w m) (store_group_within (IsLogOfSession T w) batch texts s m small since writing honest_slots))

      -- At its Ok.
      pub session_stored : SlotsSettled batch s m → PutReady store w r z group m
      session_stored settled =
          let stored : IsPutStored T w (session_places store w m) z group = put_stored T w z group (session_places store w s) ready.ready few due (session_places store w m) (store_group (IsLogOfSession T w) batch texts s m small since settled) in
          let ring : RingReady N F r m = ready_since N F (is_form store.header store.book) r Double refl s m on_double ready.ring in
          record {
            moment = moment_at store w r s m ready.moment ring.ringed (slot_files settled.wrote.writing.places) (put_stored_keeps T w z group (session_places store w m) stored);
            ring = ring;
            stored = stored;
            double = settled.settled;
            spaces = λ y. settled_left (Space y) page_bytes s m (beside Double (Space y) refl on_double) (ready.spaces y);
            from = ready.from;
            newest = ready.newest;
            written = ready.written;
            firsts = ready.firsts;
          }

    -- ---- the homes

    module _ (ready : PutReady store w r z group s) (space : has_page store.header.spaces z 0 ≡ true) where
      -- the pages of the batch are pages of the space
      pub put_inside : IsInside batch (count z) s
      put_inside = record {
        places = ready.moment.files.spaces z space;
        within = λ i below.
            let few : i < length group = let same = pages_length batch.pages in omega (arith, below, same) in
            let item = ready.stored.homes.due.items i few in
            let is : slot_of z (page_number_of (text_at batch i)) (text_in (text_at batch i)) ≡ item_of z group i = page_item z batch.pages i below in
            let there : has_page store.header.spaces z (page_number_of (text_at batch i)) ≡ true = subst (λ (x : Slot). has_page store.header.spaces x.space x.page ≡ true) (sym is) item.there in
            page_below store.header.spaces z (page_number_of (text_at batch i)) there;
      }

      module _ (since : Since (IsHomeEvent batch) s m) where
        on_space : Since (IsOn (Space z)) s m
        on_space = since_each (of_is_on (Space z) page_bytes (home_batch batch) (length batch.pages)) since

        honest_homes : (i : ℕ) → May (Space z) page_bytes i s (Some (shown (Space z) page_bytes i s))
        honest_homes i = settled_honest (Space z) page_bytes i s (ready.spaces z i)

        -- another space is left alone
        aside : (y : ℕ) → y ≢ z → Since (LeavesFile (Space y)) s m
        aside y other = beside (Space z) (Space y) (ne_eqb y z other) on_space

        valid : (j : ℕ) → j < length batch.pages → held ((home_batch batch).place j) ((home_batch batch).bytes j) ≡ Holds (text_in (text_at batch j))
        valid j below = held-text (page_number_of (text_at batch j)) (text_at batch j) (text_is (text_at batch j) (texts j below))

        home_files : Writing (Space z) (pages (count z)) (home_batch batch) (length batch.pages) s m → SessionFiles store m
        home_files writing = record {
          double = places_left_alone Double slots s m (beside (Space z) Double refl on_space) files.double;
          spaces = λ y there. ⊎_elim
              (λ (same : y ≡ z). subst (λ (x : ℕ). HasPlaces (Space x) (pages (count x)) m) (sym same) writing.places)
              (λ (other : y ≢ z). places_left_alone (Space y) (pages (count y)) s m (aside y other) (files.spaces y there))
              (cases_eq y z);
          whole = λ y. ⊎_elim
              (λ (same : y ≡ z). subst (λ (x : ℕ). AreWhole (Space x) (pages (count x)) m) (sym same) writing.places.whole)
              (λ (other : y ≢ z). whole_left_alone (Space y) (pages (count y)) s m (aside y other) (files.whole y))
              (cases_eq y z);
          placed = λ y p there. ⊎_elim
              (λ (same : y ≡ z).
              let here : has_page store.header.spaces z p ≡ true = subst (λ (x : ℕ). has_page store.header.spaces x p ≡ true) same there in
              subst (λ (x : ℕ). MayBePlaced x p m) (sym same)
              (placed_writing z p s m (placed_settled z p s (files.placed z p here) (ready.spaces z)) (count z) (length batch.pages) (home_batch batch) (λ j. text_in (text_at batch j)) valid writing))
              (λ (other : y ≢ z). λ bytes may. files.placed y p there bytes (may_left_alone (Space y) page_bytes p s m (Some bytes) (aside y other) may))
              (cases_eq y z);
        }
          where
            files : SessionFiles store s
            files = ready.moment.files

        -- At each moment inside `home`, and after its refusal.
        pub session_homing : HomesWriting batch s m → SessionMoment store w r m
        session_homing writing = moment_at store w r s m ready.moment (ringed_since N F (is_form store.header store.book) r (Space z) refl s m on_space ready.moment.ringed) (home_files (writing (count z) put_inside))
            (put_homing T w z group (session_places store w s) ready.stored (session_places store w m)
            (home_group_within (IsLogOfSession T w) batch texts s m (count z) put_inside since writing honest_homes))

        -- At its Ok, with the pages of the batch clean.
        pub session_homed : ArePagesDistinct batch → HomesSettled batch s m → (new : ℕ → ℕ → Option Dirty) → IsCleaned (item_of z group) (length group) w.dirty new → SessionReady store (record w { dirty = new }) r m
        session_homed distinct settled new cleans =
            let q = settled (count z) put_inside in
            let after : Session T = record w { dirty = new } in
            let ring : RingReady N F r m = ready_since N F (is_form store.header store.book) r (Space z) refl s m on_space ready.ring in
            let homed : Ready T after (session_places store w m) = put_homed T w z group (session_places store w s) ready.stored new cleans (session_places store w m)
            (home_group (IsLogOfSession T w) batch texts s m (count z) put_inside distinct since settled) in
            let clean : Ready T after (session_places store after m) = ready_log T after (session_places store w m) homed (IsLogOfSession T after) (λ l says. says) in
            record {
              moment = record {
                base = ready.moment.base;
                keys = ready.moment.keys;
                have = ready.moment.have;
                header = ready.moment.header;
                ringed = ring.ringed;
                journal = ready.moment.journal;
                settled = ready.moment.settled;
                known = ready.moment.known;
                newer = ready.moment.newer;
                versions = ready.moment.versions;
                of_store = ready.moment.of_store;
                files = home_files q.wrote.writing;
                keeps = ready_keeps T after (session_places store after m) clean;
              };
              ring = ring;
              ready = clean;
              double = settled_left Double slot_size s m (beside (Space z) Double refl on_space) ready.double;
              spaces = λ y. ⊎_elim
                  (λ (same : y ≡ z). subst (λ (x : ℕ). IsFileSettled (Space x) page_bytes m) (sym same) q.settled)
                  (λ (other : y ≢ z). settled_left (Space y) page_bytes s m (aside y other) (ready.spaces y))
                  (cases_eq y z);
              from = ready.from;
              newest = ready.newest;
              written = ready.written;
              firsts = λ y p d there is. ready.firsts y p d there (cleaned_old (item_of z group) (length group) w.dirty new cleans y p d is);
            }

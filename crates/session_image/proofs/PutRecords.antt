-- The record over a put: each text that is written is one that the session may write.
use Rattle.std.proofs.Common.{◌≡◌, ℕ, zero, suc, ◌^◌, ◌<◌, true, List, [], ◌∷◌, ◌++◌, length, Option, arith}
use Rattle.disk_model.specs.Event.{Event, marks, record_of}
use Rattle.disk_model.specs.Does.{Since}
use Rattle.disk_model.specs.Past.{Past, At, Throughout}
use Rattle.disk_model.specs.declared.names.FileName.TheVariants.{Double, Space}
use Rattle.places.specs.Writes.{grows, IsPart}
use Rattle.page_places.specs.Texts.{page_bytes, slot_size}
use Rattle.store_image.specs.Groups.{item_of}
use Rattle.store_image.specs.LifeStages.{InSession}
use Rattle.store_image.specs.Recovers.{Theory}
use Rattle.store_image.specs.Session.{Session, Dirty, IsLogOfSession}
use Rattle.store_image.specs.SessionPhases.{AreDueIn}
use Rattle.store_image.specs.View.{Text}
use Rattle.store_image.proofs.LifeGroups.{AreWritable}
use Rattle.store_image.proofs.LifeMoments.{moment_may_log, moment_notes}
use Rattle.store_image.proofs.SessionToRecord.{due_writable}
use Rattle.store_files.specs.Pages.{has_page}
use Rattle.crash_image.specs.Writes.{written_items}
use Rattle.doublewrite.specs.Batch.{slot_batch, slot_events, home_batch, home_events}
use Rattle.doublewrite.specs.Group.{group_of}
use Rattle.doublewrite.specs.Layer.{SlotsSettled, IsSlotEvent, IsInside, ArePagesDistinct, HomesSettled, IsHomeEvent}
use Rattle.doublewrite.specs.Text.{ArePageTexts}
use Rattle.doublewrite.specs.declared.texts.Texts.{Texts}
use Rattle.ring_log.specs.Ring.{RingState}
use Rattle.session_image.specs.Kept.{SessionStore, session_theory, session_places, SessionReady, SessionRecord, SessionRecordReady}
use Rattle.session_image.proofs.BatchRecords.{storing_kept, stores_kept, stored_ready, homing_kept, homes_kept, homed_ready}

module _ (store : SessionStore) where
  abbrev T : Theory
  T = session_theory store

  abbrev N : ℕ
  N = store.header.blocks

  -- The texts of a put may be written, also while the put goes on.
  pub session_writable : (w : Session T) (r : RingState) (es : List Event) (z : ℕ) (pages : List (ℕ × Text)) → SessionReady store w r es → AreDueIn T w (marks es) z pages → AreWritable T N (InSession w) z pages
  session_writable w r es z pages ready due = due_writable T N w (session_places store w es) z pages ready.ready due

  -- their pages are the store's
  due_there : (w : Session T) (z : ℕ) (xs : List (ℕ × Text)) → AreWritable T N (InSession w) z xs → (j : ℕ) → j < length xs → has_page store.header.spaces z (item_of z xs j).page ≡ true
  due_there w z [] writable j below = absurd (omega (arith, below))
  due_there w z (x ∷ xs) writable zero below = (writable.0 []).there
  due_there w z (x ∷ xs) writable (suc j) below = due_there w z xs writable.1 j (omega (arith, below))

  module _ (w : Session T) (batch : Texts) (texts : ArePageTexts batch.pages) (may : AreWritable T N (InSession w) batch.space (group_of batch)) where
    there : (j : ℕ) → j < length (group_of batch) → has_page store.header.spaces batch.space (item_of batch.space (group_of batch) j).page ≡ true
    there = due_there w batch.space (group_of batch) may

    -- Each moment of a `store` that was refused.
    pub record_storing : batch.space < 2 ^ 32 → (old new : Past) → At (SessionRecord store w) old → IsPart Double slot_size (slot_batch batch) (length batch.pages) old new → Throughout (SessionRecord store w) old new
    record_storing = storing_kept T N (IsLogOfSession T w) (InSession w) batch texts there may

    -- Each moment of one that was answered Ok, and its end.
    pub record_stores : batch.space < 2 ^ 32 → (old new : Past) → At (SessionRecord store w) old → new ≡ grows (slot_events batch) old → At (SessionRecord store w) new → Throughout (SessionRecord store w) old new
    record_stores = stores_kept T N (IsLogOfSession T w) (InSession w) batch texts there may

    pub record_stored : batch.space < 2 ^ 32 → (s m : List Event) → SessionRecordReady store w s → m ≡ slot_events batch ++ s → Since (IsSlotEvent batch) s m → SlotsSettled batch s m → SessionRecordReady store w m
    record_stored small s m kept exact since settled = stored_ready T N (IsLogOfSession T w) (InSession w) batch texts there may small tt s m kept exact since settled

    -- The same of `home`.
    pub record_homing : (old new : Past) → At (SessionRecord store w) old → IsPart (Space batch.space) page_bytes (home_batch batch) (length batch.pages) old new → Throughout (SessionRecord store w) old new
    record_homing = homing_kept T N (IsLogOfSession T w) (InSession w) batch texts there may

    pub record_homes : (old new : Past) → At (SessionRecord store w) old → new ≡ grows (home_events batch) old → At (SessionRecord store w) new → Throughout (SessionRecord store w) old new
    record_homes = homes_kept T N (IsLogOfSession T w) (InSession w) batch texts there may

    pub record_homed : (s m : List Event) → SessionRecordReady store w s → m ≡ home_events batch ++ s → (count : ℕ) → IsInside batch count s → ArePagesDistinct batch → Since (IsHomeEvent batch) s m → HomesSettled batch s m → (new : ℕ → ℕ → Option Dirty)
        → SessionRecordReady store (record w { dirty = new }) m
    record_homed s m kept exact count inside distinct since settled new =
        let homed : SessionRecordReady store w m = homed_ready T N (IsLogOfSession T w) (InSession w) batch texts there may tt s m kept exact count inside distinct since settled in
        let after : Session T = record w { dirty = new } in
        moment_may_log T N (written_items (record_of m)) (session_places store w m) (InSession after)
        (moment_notes T N (written_items (record_of m)) (session_places store w m) w homed w.newest new w.keys) (IsLogOfSession T after)

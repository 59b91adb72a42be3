-- What contracts see of an engine, and what its type keeps.
use Rattle.std.specs.Prelude.{◌≡◌, ℕ, List, ◌∷◌, None, refl}
use Rattle.counted_disk.specs.Counting.{IsCounted, count_of}
use Rattle.disk_model.specs.Event.{Event, Tell}
use Rattle.disk_model.specs.Past.{Past, At, Throughout}
use Rattle.disk_model.specs.declared.names.Mark.TheVariants.{Started}
use Rattle.session_core.specs.Session.{Running}
use Rattle.session_image.specs.Kept.{SessionStore, AllImagesStand}
use Rattle.engine_core.specs.Journal.{journal_of}
use Rattle.engine_core.specs.Kept.{AreCrashesLucky, BeginsAt, BeginsRecordAt, IsReadySession, KeepsRecord}

-- An engine: its session as `start` left it, and as it is now.
pub record EngineState (D : Type 0) : Type 0 where
  pub first : Running D
  pub now : Running D

-- the last event is that the session started
pub record IsStarted (es : List Event) : Type 0 where
  pub before : List Event
  pub is : es ≡ Tell Started ∷ before

-- the disk's past as `start` left it, and the present one
abbrev pub first_past : {D : Type 0} → (D → Past) → EngineState D → Past
first_past past e = past e.first.disk.disk

abbrev pub now_past : {D : Type 0} → (D → Past) → EngineState D → Past
now_past past e = past e.now.disk.disk

-- What the type of an engine keeps.
--
-- Start: `Started` was told last then, and the present disk is a later one, with its turns counted.
-- Images: for each store that the first moment is at rest as, at each moment since each lucky image stands for a beginning of the journal, and what a crash of a disk in memory leaves is lucky.
-- Record: where also no number had served twice, none does at each moment since, and each lucky image agrees with what was written.
-- Ready: while the engine is up, for the same store, its data are those of the disk.
pub record IsEngine {D : Type 0} (past : D → Past) (faults refusals : D → ℕ) (is_later : D → D → Type 0) (e : EngineState D) : Type 0 where
  pub started : At IsStarted (first_past past e)
  pub later : is_later e.first.disk.disk e.now.disk.disk
  pub counted : IsCounted (count_of past faults refusals e.first.disk) (count_of past faults refusals e.now.disk)
  pub images : (store : SessionStore) → At (BeginsAt store e.first) (first_past past e) → Throughout (AllImagesStand store (journal_of e.now) e.now.log.next) (first_past past e) (now_past past e)
  pub crashes : (store : SessionStore) → At (BeginsAt store e.first) (first_past past e) → Throughout AreCrashesLucky (first_past past e) (now_past past e)
  pub recorded : (store : SessionStore) → At (BeginsRecordAt store e.first) (first_past past e) → Throughout (KeepsRecord store) (first_past past e) (now_past past e)
  pub ready : e.now.disk.stop ≡ None → (store : SessionStore) → At (BeginsAt store e.first) (first_past past e) → At (IsReadySession store (At (BeginsRecordAt store e.first) (first_past past e)) e.now) (now_past past e)

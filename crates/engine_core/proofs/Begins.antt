-- What the type of an engine keeps, as the engine begins.
use Rattle.std.proofs.Common.{◌≡◌, ℕ, inl, inr, ap, List, ◌∷◌, Some, None, refl, sym, subst, ◌∙◌}
use Rattle.std.proofs.lemmas.Option.{none-some, same_Some}
use Rattle.counted_disk.specs.Counting.{counts_none}
use Rattle.counted_disk.specs.declared.counted.Counted.{Counted}
use Rattle.disk_model.specs.Event.{Event, Tell}
use Rattle.disk_model.specs.Past.{At, Past, grow}
use Rattle.disk_model.specs.declared.names.Mark.TheVariants.{Started}
use Rattle.disk_model.proofs.Moments.{at_each, at_is, begins}
use Rattle.key_ring.specs.Ring.{RingEntry}
use Rattle.session_core.specs.Session.{IsSession, Running}
use Rattle.session_core.specs.Start.{HasBegun, IsStartRefusal, session_begun}
use Rattle.session_core.specs.Told.{ReadsAsTold}
use Rattle.session_core.specs.declared.fault.StartFault.{StartFault}
use Rattle.session_core.specs.declared.fault.StartFault.TheVariants.{DiskFault, NoVersion, OutOfMemory, VersionBelowFloor}
use Rattle.session_core.proofs.StartLaws.{at_grown, at_told}
use Rattle.session_core.specs.declared.options.SessionOptions.{SessionOptions}
use Rattle.session_image.specs.Kept.{AllImagesStand, BeginsSession, SessionStore}
use Rattle.session_image.proofs.Starts.{begins_told, record_begins_told}
use Rattle.store_form.specs.Rest.{StoreAtRest}
use Rattle.engine_core.specs.Engine.{IsEngine, IsStarted}
use Rattle.engine_core.specs.Journal.{journal_of}
use Rattle.engine_core.specs.Kept.{AreCrashesLucky, BeginsAt, BeginsRecordAt, BeginsRecorded, IsReadySession, KeepsRecord}
use Rattle.engine_core.proofs.Firsts.{first_ready}
use Rattle.engine_core.proofs.Ready.{crashes_at, moment_of, record_at, stands_at}

-- the mark is the last event then
started_at : (old new : Past) → new ≡ grow (Tell Started) old → At IsStarted new
started_at None new is = record { here = λ es told. absurd (none-some es (sym is ∙ told)) }
started_at (Some es) new is = record { here = λ ms told. record { before = es; is = same_Some _ _ (sym told ∙ is) } }

-- ---- the disk is still at rest behind the mark

module _ (store : SessionStore) (ring : List RingEntry) (active next sequence : ℕ) where
  told_begins : (es : List Event) → BeginsSession store ring active next sequence es → BeginsSession store ring active next sequence (Tell Started ∷ es)
  told_begins es b = begins_told store ring active next sequence es b

  told_recorded : (es : List Event) → BeginsRecorded store ring active next sequence es → BeginsRecorded store ring active next sequence (Tell Started ∷ es)
  told_recorded es b = record { begins = begins_told store ring active next sequence es b.begins; record_is = record_begins_told store ring active next sequence es b.begins b.record_is }

  pub begins_behind : (old new : Past) → new ≡ grow (Tell Started) old → At (BeginsSession store ring active next sequence) old → At (BeginsSession store ring active next sequence) new
  begins_behind old new is at = at_grown (BeginsSession store ring active next sequence) Started old new told_begins at is

  pub recorded_behind : (old new : Past) → new ≡ grow (Tell Started) old → At (BeginsRecorded store ring active next sequence) old → At (BeginsRecorded store ring active next sequence) new
  recorded_behind old new is at = at_grown (BeginsRecorded store ring active next sequence) Started old new told_recorded at is

-- what a mark leaves holds of the disk that a refused start hands back
refused_keeps : {D : Type 0} (past : D → Past) (faults refusals : D → ℕ) (keys : List RingEntry) (version : ℕ) (old new : StoreAtRest D) (why : StartFault) (P : List Event → Type 0) → ((es : List Event) → P es → P (Tell Started ∷ es))
    → IsStartRefusal past faults refusals keys version old new why → At P (past old.disk) → At P (past new.disk)
refused_keeps past faults refusals keys version old new (NoVersion id v) P tells (none, same) at = at_is (ap (λ r. past r.disk) same) at
refused_keeps past faults refusals keys version old new (VersionBelowFloor s floor v) P tells (none, same) at = at_is (ap (λ r. past r.disk) same) at
refused_keeps past faults refusals keys version old new DiskFault P tells (may, back, rose) at = at_told P Started (past old.disk) (past new.disk) tells at back.told
refused_keeps past faults refusals keys version old new OutOfMemory P tells (may, inl same) at = at_is (ap (λ r. past r.disk) same) at
refused_keeps past faults refusals keys version old new OutOfMemory P tells (may, inr (back, rose)) at = at_told P Started (past old.disk) (past new.disk) tells at back.told

module _ {D : Type 0} (past : D → Past) (faults refusals : D → ℕ) (keys : List RingEntry) (version : ℕ) (old new : StoreAtRest D) (why : StartFault) (refused : IsStartRefusal past faults refusals keys version old new why) where
  pub begins_still : (store : SessionStore) → At (BeginsSession store keys version old.next old.sequence) (past old.disk) → At (BeginsSession store keys version old.next old.sequence) (past new.disk)
  begins_still store at = refused_keeps past faults refusals keys version old new why (BeginsSession store keys version old.next old.sequence) (told_begins store keys version old.next old.sequence) refused at

  pub recorded_still : (store : SessionStore) → At (BeginsRecorded store keys version old.next old.sequence) (past old.disk) → At (BeginsRecorded store keys version old.next old.sequence) (past new.disk)
  recorded_still store at = refused_keeps past faults refusals keys version old new why (BeginsRecorded store keys version old.next old.sequence) (told_recorded store keys version old.next old.sequence) refused at

-- ---- the first moment

module _ {D : Type 0} (past : D → Past) (faults refusals : D → ℕ) (is_later : D → D → Type 0) (rest : StoreAtRest D) (ring : List RingEntry) (options : SessionOptions) (r : Running D) (is : r ≡ session_begun rest ring options r.disk) (begun : HasBegun past is_later rest.disk r.disk)
    (session : IsSession past r) where
  abbrev here : Past
  here = past r.disk.disk

  ready_at : (store : SessionStore) (kept : Type 0) → (kept → At (BeginsRecordAt store r) here) → At (BeginsAt store r) here → At (IsReadySession store kept r) here
  ready_at store kept has b = record {
    here = λ es told.
        subst (λ (q : Running D). BeginsAt store q es → ReadsAsTold q.store q.log q.pool es → (kept → BeginsRecordAt store q es) → IsReadySession store kept q es) (sym is)
        (λ begins reads recorded. first_ready store kept rest ring options r.disk es begins (started.here es told) reads recorded) (b.here es told) ((session.reads begun.stop).here es told) (λ k. (has k).here es told);
  }
    where
      started : At IsStarted here
      started = started_at (past rest.disk) here begun.told

  pub first_is : is_later r.disk.disk r.disk.disk → IsEngine past faults refusals is_later (record { first = r; now = r })
  first_is later = record {
    started = started_at (past rest.disk) here begun.told;
    later = later;
    counted = counts_none _;
    images = λ store b. begins (AllImagesStand store (journal_of r) r.log.next) here (at_each (λ es x. stands_at store ⊥ r es (moment_of store ⊥ r es x)) (ready_at store ⊥ (λ k. absurd k) b));
    crashes = λ store b. begins AreCrashesLucky here (at_each (λ es x. crashes_at store ⊥ r es (moment_of store ⊥ r es x)) (ready_at store ⊥ (λ k. absurd k) b));
    recorded = λ store b. begins (KeepsRecord store) here (at_each (λ es x. record_at store (Unit {0}) r tt es (moment_of store (Unit {0}) r es x)) (ready_at store (Unit {0}) (λ k. b) (at_each (λ es x. x.begins) b)));
    ready = λ up store b. ready_at store (At (BeginsRecordAt store r) here) (λ k. k) b;
  }

-- A checkpoint is written, and synced: the run begins at a later block of the journal.
use Rattle.std.proofs.Common.{◌<◌, ◌++◌, length, ◌≡◌, ℕ, ◌≤◌, Bool, true, false, nat_eq, if◌then◌else◌, List, Some, refl, sym, ap, subst, ◌∙◌, arith}
use Rattle.std.specs.Prelude.{Contains}
use Rattle.std.proofs.lemmas.Bool.Decides.{nat_tests}
use Rattle.std.proofs.lemmas.Option.{none-some, same_Some}
use Rattle.disk_model.specs.Event.{Event, record_of}
use Rattle.disk_model.specs.Does.{Since, IsOn}
use Rattle.disk_model.specs.declared.names.FileName.TheVariants.{Log, Double, Space}
use Rattle.disk_model.proofs.Layers.{since_each}
use Rattle.places.proofs.Batches.{of_is_on}
use Rattle.page_places.specs.Texts.{page_bytes, slot_size}
use Rattle.page_places.proofs.LogSteps.{log_events}
use Rattle.redo_log.specs.Events.{side_batch, IsCheckEvent}
use Rattle.redo_log.specs.Log.{checked}
use Rattle.redo_log.specs.Recorded.{KeepsItems}
use Rattle.redo_text.specs.Reading.{block_version}
use Rattle.redo_text.specs.declared.change.Change.{Change}
use Rattle.ring_log.specs.Batches.{checking, checkpointed}
use Rattle.ring_log.specs.Ring.{Form, RingState, Ringed, RingReady, IsBound, IsRingJournal}
use Rattle.ring_log.proofs.Journals.{journal_checking, journal_moved, numbered_parts}
use Rattle.store_image.specs.Journal.{IsIn, IsJournal}
use Rattle.store_image.proofs.SessionEnds.{oldest_settled}
use Rattle.session_image.proofs.StoreRuns.{names_page, run_in}
use Rattle.store_image.specs.LifeStages.{InSession}
use Rattle.store_image.specs.Places.{log_may}
use Rattle.store_image.specs.Record.{Item}
use Rattle.store_image.specs.RecordKept.{IsLifeMoment}
use Rattle.store_image.specs.Recovers.{Theory}
use Rattle.store_image.specs.Session.{Session, Dirty, IsLogOfSession}
use Rattle.store_image.specs.SessionPhases.{Ready}
use Rattle.store_image.specs.View.{Logged, block_bytes}
use Rattle.store_image.proofs.LifeGroups.{moment_within}
use Rattle.store_image.proofs.LifeMoments.{moment_may_log, moment_notes, moment_syncs_checkpoint}
use Rattle.store_image.proofs.SessionCalls.{ready_checkpoint, ready_log, ready_numbers}
use Rattle.store_image.proofs.SessionPuts.{ready_keeps}
use Rattle.store_files.specs.Header.{header_in}
use Rattle.store_files.specs.Pages.{has_page}
use Rattle.crash_image.specs.Writes.{written_items}
use Rattle.session_image.specs.Kept.{SessionStore, session_theory, session_form, session_places, SessionMoment, SessionReady, SessionRecord, SessionRecordReady}
use Rattle.session_image.proofs.MomentSteps.{beside_log, settled_left, log_files, log_ready, record_moment}

module _ (store : SessionStore) where
  abbrev T : Theory
  T = session_theory store

  abbrev N : ℕ
  N = store.header.blocks

  abbrev F : Form (List Change)
  F = session_form store

  -- the session while the checkpoint is written, and once it is synced
  abbrev noted : Session T → ℕ → Session T
  noted w f = record w { newest = f }

  abbrev moved : Session T → ℕ → Session T
  moved w f = record w { from = f; newest = f }

  -- The run begins at this block from now on: a bound of the journal, up to which nothing is dirty.
  module _ (w : Session T) (r : RingState) (s m : List Event) (sequence f : ℕ) (ready : SessionReady store w r s) (low : r.from ≤ f) (high : f ≤ w.settled) (bound : IsBound N F r.block w.start w.journal f)
      (oldest : (z p : ℕ) (d : Dirty) → has_page store.header.spaces z p ≡ true → w.dirty z p ≡ Some d → f ≤ d.first) (since : Since (IsCheckEvent sequence f) s m) where
    on_log : Since (IsOn Log) s m
    on_log = since_each (of_is_on Log block_bytes (side_batch sequence f) 1) since

    noted_places : Ready T (noted w f) (session_places store (noted w f) s)
    noted_places =
        let newest = ready.newest in
        let settles = ready.ready.ground.settles in
        ready_checkpoint T w (session_places store w s) ready.ready f (IsLogOfSession T (noted w f)) (omega (arith, newest, low)) (omega (arith, high, settles)) oldest (λ l says. says)

    -- At each moment, whether the checkpoint is written, torn or not there.
    pub session_checking : Ringed N F (checking r f) m → SessionMoment store (record w { newest = f }) (checking r f) m
    session_checking ringed =
        let moment = ready.moment in
        record {
          base = moment.base;
          keys = moment.keys;
          have = moment.have;
          header = moment.header;
          ringed = ringed;
          journal = journal_checking N F r f w.start w.next w.journal bound moment.journal;
          settled = moment.settled;
          known = low;
          newer = λ g is. let same = same_Some f g is in omega (arith, same);
          versions = moment.versions;
          of_store = moment.of_store;
          files = log_files store w s m on_log moment.files;
          keeps = ready_keeps T (noted w f) (session_places store (noted w f) m) (log_ready store (noted w f) s m on_log noted_places);
        }

    moved_places : Ready T (moved w f) (session_places store (moved w f) m)
    moved_places =
        let numbered : Ready T (moved w f) (session_places store (noted w f) s) = ready_numbers T (noted w f) (session_places store (noted w f) s) noted_places f w.written in
        log_ready store (moved w f) s m on_log (ready_log T (moved w f) (session_places store (noted w f) s) numbered (IsLogOfSession T (moved w f)) (λ l says. says))

    -- a ring that has moved, or stands where it stood
    ready_at : (q : RingState) → q.header ≡ r.header → q.from ≡ f → q.settled ≡ r.settled → q.written ≡ r.written → q.block ≡ r.block → IsRingJournal N F q w.start w.journal w.next → RingReady N F q m → SessionReady store (moved w f) q m
    ready_at q header from settled written block journal ring =
        let moment = ready.moment in
        record {
          moment = record {
            base = moment.base;
            keys = moment.keys;
            have = moment.have;
            header = ap header_in header ∙ moment.header;
            ringed = ring.ringed;
            journal = journal;
            settled = moment.settled ∙ sym settled;
            known = omega (arith, from);
            newer = λ g is. absurd (none-some g (sym ring.none ∙ is));
            versions = λ n above below. subst (λ (b : ℕ → List ℕ). Contains store.named (1, block_version (b n))) (sym block) (moment.versions n (omega (arith, low, above, from)) below);
            of_store = moment.of_store;
            files = log_files store w s m on_log moment.files;
            keeps = ready_keeps T (moved w f) (session_places store (moved w f) m) moved_places;
          };
          ring = ring;
          ready = moved_places;
          double = settled_left Double slot_size s m (beside_log Double refl on_log) ready.double;
          spaces = λ z. settled_left (Space z) page_bytes s m (beside_log (Space z) refl on_log) (ready.spaces z);
          from = sym from;
          newest = sym from;
          written = ready.written ∙ sym written;
          firsts = λ z p d there is. subst (λ (b : ℕ → List ℕ). IsBound N F b w.start w.journal d.first) (sym block) (ready.firsts z p d there is);
        }

    -- And once it is synced.
    pub session_checked : RingReady N F (checked r f) m → SessionReady store (record w { from = f; newest = f }) (checked r f) m
    session_checked ring = by (nat_eq f r.from) refl ring
      where
        by : (b : Bool) → nat_eq f r.from ≡ b → RingReady N F (if b then r else checkpointed r f) m → SessionReady store (moved w f) (if b then r else checkpointed r f) m
        by true same here = let e : r.from ≡ f = grind (arith, nat_tests) in ready_at r refl e refl refl refl ready.moment.journal here
        by false other here = ready_at (checkpointed r f) refl refl refl refl refl (journal_moved N F r f w.start w.next w.journal bound ready.moment.journal) here

  -- The first block that a dirty page needs is settled, or the next one: so the run may begin with the least of them, or with the next block where none is dirty.
  pub session_oldest : (w : Session T) (r : RingState) (es : List Event) → SessionReady store w r es → ((e : Logged (List Change)) → IsIn e w.journal → 0 < length e.mtr) → (f : ℕ) → f ≤ w.next
      → ((z p : ℕ) (d : Dirty) → has_page store.header.spaces z p ≡ true → w.dirty z p ≡ Some d → f ≤ d.first) → f ≤ w.settled
  session_oldest w r es ready some f below oldest =
      let settled = ready.moment.journal.settled in
      let numbered : IsJournal w.start (settled.before ++ settled.behind) w.next = subst (λ (l : List (Logged (List Change))). IsJournal w.start l w.next) settled.parts ready.ready.ground.journal in
      let rest : IsJournal r.settled settled.behind w.next = (numbered_parts N F r.block w.start r.settled settled.before settled.behind w.next numbered settled.left).1 in
      oldest_settled T w (session_places store w es) ready.ready settled.before settled.behind settled.parts (subst (λ (n : ℕ). IsJournal n settled.behind w.next) (sym ready.moment.settled) rest)
      (λ e inside. names_page store.header.spaces e.mtr (some e inside) (run_in store.header.spaces w.journal e ready.moment.of_store inside)) f below oldest

  -- ---- the record

  -- A checkpoint is no text and no block.
  module _ (w : Session T) (s m : List Event) (sequence f : ℕ) (kept : SessionRecordReady store w s) (since : Since (IsCheckEvent sequence f) s m) (same : KeepsItems s m) where
    items_moved : (v : Session T) → IsLifeMoment T N (InSession v) (written_items (record_of s)) (session_places store w s) → SessionRecordReady store v m
    items_moved v old = subst (λ (l : List Item). IsLifeMoment T N (InSession v) l (session_places store v m)) (sym same)
        (moment_within T N (InSession v) (written_items (record_of s)) (session_places store v m) (log_may (IsLogOfSession T v) (session_places store w s))
        (log_events (IsLogOfSession T w) (IsLogOfSession T v) s m (since_each (of_is_on Log block_bytes (side_batch sequence f) 1) since))
        (moment_may_log T N (written_items (record_of s)) (session_places store w s) (InSession v) old (IsLogOfSession T v)))

    noted_record : IsLifeMoment T N (InSession (noted w f)) (written_items (record_of s)) (session_places store w s)
    noted_record = moment_notes T N (written_items (record_of s)) (session_places store w s) w kept f w.dirty w.keys

    pub record_checking : SessionRecord store (record w { newest = f }) m
    record_checking = record_moment store (noted w f) m (items_moved (noted w f) noted_record)

    pub record_checked : w.from ≤ f → f ≤ w.settled → SessionRecordReady store (record w { from = f; newest = f }) m
    record_checked low high = items_moved (moved w f) (moment_syncs_checkpoint T N (written_items (record_of s)) (session_places store w s) (noted w f) noted_record f low high)

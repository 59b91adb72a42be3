-- The pending blocks of the log are written, and synced.
use Rattle.std.proofs.Common.{◌≡◌, ℕ, ◌+◌, ◌*◌, ◌≤◌, ◌⊎◌, inl, inr, List, [], Some, refl, sym, subst, ◌∙◌, arith}
use Rattle.std.proofs.lemmas.Option.{same_Some}
use Rattle.disk_model.specs.Event.{Event, record_of}
use Rattle.disk_model.specs.Past.{At, Later}
use Rattle.disk_model.specs.Does.{Adds, Since, IsOn}
use Rattle.disk_model.specs.declared.names.FileName.TheVariants.{Log, Double, Space}
use Rattle.disk_model.proofs.Layers.{since_each}
use Rattle.places.proofs.Batches.{of_is_on}
use Rattle.page_places.proofs.LogSteps.{log_events}
use Rattle.redo_log.specs.State.{LogState}
use Rattle.redo_log.specs.Events.{block_batch, IsBlockEvent}
use Rattle.redo_log.specs.Log.{IsOpen, pending_count, handed_over, FitsRing}
use Rattle.redo_log.specs.Recorded.{BlocksOnce, IsRecordOnce}
use Rattle.redo_log.proofs.RecordSteps.{once_handed, out_once, out_record}
use Rattle.redo_text.specs.declared.change.Change.{Change}
use Rattle.ring_log.specs.Batches.{more, settle}
use Rattle.ring_log.specs.Ring.{Form, RingState, Ringed, RingReady}
use Rattle.ring_log.proofs.Journals.{journal_settled, journal_writing}
use Rattle.store_image.specs.Places.{ArePlacesWithin, log_may}
use Rattle.store_image.specs.RecordKept.{IsTextOf, IsSessionRecord}
use Rattle.store_image.specs.Recovers.{Theory}
use Rattle.store_image.specs.Session.{Session, IsLogOfSession}
use Rattle.store_image.specs.SessionPhases.{Ready}
use Rattle.store_image.specs.View.{Text, Holds}
use Rattle.store_image.proofs.SessionCalls.{ready_log, ready_numbers, ready_settled}
use Rattle.store_image.proofs.SessionPuts.{ready_keeps}
use Rattle.store_files.specs.Pages.{salts_of}
use Rattle.crash_image.specs.Writes.{written_items}
use Rattle.session_image.specs.Kept.{SessionStore, session_theory, session_form, session_places, SessionMoment, SessionReady, SessionRecord, SessionRecordReady}
use Rattle.session_image.proofs.MomentSteps.{beside_log, settled_left, log_files, log_ready, ring_low, record_moment, texts_before, texts_since}

module _ (store : SessionStore) where
  abbrev T : Theory
  T = session_theory store

  abbrev N : ℕ
  N = store.header.blocks

  abbrev F : Form (List Change)
  F = session_form store

  -- the session once the log is synced up to a number, and all blocks are written
  abbrev settled_at : Session T → ℕ → Session T
  settled_at w n = record w { settled = n; written = w.next }

  module _ (w : Session T) (r : RingState) (s m : List Event) (log : LogState) (ready : SessionReady store w r s) (fits : FitsRing r log) (next : w.next ≡ log.next) (since : Since (IsBlockEvent log) s m) where
    on_log : Since (IsOn Log) s m
    on_log = since_each (of_is_on Log 4096 (block_batch log) (pending_count log)) since

    all_written : r.written + pending_count log ≡ w.next
    all_written =
        let low = ring_low store r s ready.moment.ringed in
        let began = ready.moment.ringed.at.is.began in
        let order = ready.moment.ringed.at.is.order in
        let written = fits.written in
        omega (arith, low, began, order, written, next)

    -- Some of the blocks are written, each whole, torn or not at all.
    pub session_writing : Ringed N F (more r (pending_count log)) m → SessionMoment store w (more r (pending_count log)) m
    session_writing ringed =
        let moment = ready.moment in
        record {
          base = moment.base;
          keys = moment.keys;
          have = moment.have;
          header = moment.header;
          ringed = ringed;
          journal = let all = all_written in journal_writing N F r (pending_count log) w.start w.next w.journal (omega (arith, all)) moment.journal;
          settled = moment.settled;
          known = moment.known;
          newer = moment.newer;
          versions = moment.versions;
          of_store = moment.of_store;
          files = log_files store w s m on_log moment.files;
          keeps = ready_keeps T w (session_places store w m) (log_ready store w s m on_log ready.ready);
        }

    settled_places : Ready T (settled_at w w.next) (session_places store (settled_at w w.next) m)
    settled_places =
        let settles = ready.ready.ground.settles in
        let synced : Session T = record w { settled = w.next } in
        let one : Ready T synced (session_places store synced s) = ready_settled T w (session_places store w s) ready.ready w.next (IsLogOfSession T synced) settles (omega arith) (λ l says. says) in
        let two : Ready T (settled_at w w.next) (session_places store synced s) = ready_numbers T synced (session_places store synced s) one w.from w.next in
        log_ready store (settled_at w w.next) s m on_log (ready_log T (settled_at w w.next) (session_places store synced s) two (IsLogOfSession T (settled_at w w.next)) (λ l says. says))

    -- All are, and synced.
    pub session_written : RingReady N F (settle r (pending_count log)) m → SessionReady store (record w { settled = w.next; written = w.next }) (settle r (pending_count log)) m
    session_written ring =
        let moment = ready.moment in
        let all = all_written in
        let synced = ready.ring.all in
        record {
          moment = record {
            base = moment.base;
            keys = moment.keys;
            have = moment.have;
            header = moment.header;
            ringed = ring.ringed;
            journal = journal_settled N F r (pending_count log) w.start w.next w.journal synced all moment.journal;
            settled = omega (arith, all, synced);
            known = moment.known;
            newer = moment.newer;
            versions = moment.versions;
            of_store = moment.of_store;
            files = log_files store w s m on_log moment.files;
            keeps = ready_keeps T (settled_at w w.next) (session_places store (settled_at w w.next) m) settled_places;
          };
          ring = ring;
          ready = settled_places;
          double = settled_left Double 16896 s m (beside_log Double refl on_log) ready.double;
          spaces = λ z. settled_left (Space z) 16384 s m (beside_log (Space z) refl on_log) (ready.spaces z);
          from = ready.from;
          newest = ready.newest;
          written = sym all;
          firsts = ready.firsts;
        }

    -- ---- the record

    module _ (kept : SessionRecordReady store w s) (open_log : IsOpen log) where
      once_before : BlocksOnce log s
      once_before = record {
        once = kept.kept.once.blocks;
        below = λ n v b among.
            let lt = kept.kept.blocks n v b among in
            let handed = open_log.handed_all in
            omega (arith, lt, handed, ready.written, fits.written);
        pending = λ n v b among low. absurd (let lt = kept.kept.blocks n v b among in omega (arith, lt, low, ready.written, fits.written));
      }

      later : Later (Some s) (Some m)
      later = (since.news, since.is)

      adds : Adds (IsBlockEvent log) (Some s) (Some m)
      adds = record { since = λ a b from to. subst (λ (x : List Event). Since (IsBlockEvent log) x b) (same_Some s a from) (subst (λ (y : List Event). Since (IsBlockEvent log) s y) (same_Some m b to) since) }

      at_first : (P : List Event → Type 0) → P s → At P (Some s)
      at_first P here = record { here = λ es is. subst P (same_Some s es is) here }

      once_now : BlocksOnce (handed_over log) m
      once_now = (out_once log open_log {old = Some s} {new = Some m} later adds (at_first (BlocksOnce (handed_over log)) (once_handed log open_log s once_before))).each m later ([], refl)

      record_now : IsRecordOnce store.header store.book (salts_of store.base) m
      record_now = (out_record log open_log store.header store.book (salts_of store.base) {old = Some s} {new = Some m} later adds
          (at_first (BlocksOnce (handed_over log)) (once_handed log open_log s once_before)) (at_first (IsRecordOnce store.header store.book (salts_of store.base)) kept.kept.once)).each m later ([], refl)

      session_record : (n : ℕ) → w.settled ≤ n → n ≤ w.next → IsSessionRecord T N (written_items (record_of m)) (settled_at w n)
      session_record n low high =
          let old = kept.kept in
          record {
            once = record_now;
            journal = old.journal;
            begins = old.begins;
            needs = let needs = old.needs in omega (arith, needs, low);
            synced = high;
            within = omega arith;
            room = old.room;
            texts = λ z p t among. by z p t (old.texts z p t (texts_before s m on_log z p t among));
            blocks = λ number v b among. let lt = once_now.below number v b among in omega (arith, lt, next);
          }
        where
          by : (z p : ℕ) (t : Text) → (t.lsn ≤ w.start * 4096) ⊎ IsTextOf T w z p t → (t.lsn ≤ w.start * 4096) ⊎ IsTextOf T (settled_at w n) z p t
          by z p t (inl before) = inl before
          by z p t (inr text) = inr (record { named = text.named; settled = let le = text.settled in omega (arith, le, low); means = text.means })

      record_at : (n : ℕ) → w.settled ≤ n → n ≤ w.next → SessionRecordReady store (settled_at w n) m
      record_at n low high =
          let within : ArePlacesWithin (session_places store (settled_at w n) m) (log_may (IsLogOfSession T (settled_at w n)) (session_places store w s)) = log_events (IsLogOfSession T w) (IsLogOfSession T (settled_at w n)) s m on_log in
          let reads = kept.reads tt in
          record {
            there = λ z p t among. kept.there z p t (texts_before s m on_log z p t among);
            kept = session_record n low high;
            may = record {
              homes = λ z p t there may. texts_since s m on_log z p t (kept.may.homes z p t there (within.may_home z p (Holds t) may));
              slots = λ i x lt may. texts_since s m on_log x.space x.page x.text (kept.may.slots i x lt (within.may_slot i (Some x) may));
            };
            reads = λ up. record {
              homes = λ z p t there is. texts_since s m on_log z p t (reads.homes z p t there (sym (within.home z p) ∙ is));
              slots = λ i x lt is. texts_since s m on_log x.space x.page x.text (reads.slots i x lt (sym (within.slot i) ∙ is));
            };
          }

      -- Whichever of the blocks were written, the record has one block a number.
      pub record_writing : SessionRecord store (record w { written = w.next }) m
      record_writing = let settles = ready.ready.ground.settles in record_moment store (record w { written = w.next }) m (record_at w.settled (omega arith) settles)

      pub record_written : SessionRecordReady store (record w { settled = w.next; written = w.next }) m
      record_written = let settles = ready.ready.ground.settles in record_at w.next settles (omega arith)

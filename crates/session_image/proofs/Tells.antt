-- A mark is told: entries as acknowledged, or a space's least version.
use Rattle.std.proofs.Common.{◌≡◌, ◌≢◌, ℕ, ◌≤◌, true, List, ◌∷◌, length}
use Rattle.disk_model.specs.Event.{Event, Tell, record_of}
use Rattle.disk_model.specs.declared.names.FileName.TheVariants.{Space}
use Rattle.disk_model.specs.declared.names.Mark.{Mark}
use Rattle.disk_model.specs.declared.names.Mark.TheVariants.{Acked, Minimum}
use Rattle.places.specs.Places.{shown}
use Rattle.page_places.specs.Texts.{held}
use Rattle.page_places.proofs.LogSteps.{tell_event}
use Rattle.ring_log.specs.Ring.{RingState, RingReady}
use Rattle.store_image.specs.LifeStages.{InSession}
use Rattle.store_image.specs.Places.{with_mark}
use Rattle.store_image.specs.Recovers.{Theory}
use Rattle.store_image.specs.Session.{Session, IsLogOfSession, now}
use Rattle.store_image.specs.SessionPhases.{Ready}
use Rattle.store_image.specs.View.{Text, Holds}
use Rattle.store_image.proofs.LifeGroups.{moment_within}
use Rattle.store_image.proofs.LifeMoments.{moment_tells}
use Rattle.store_image.proofs.SessionCalls.{ready_acked_all, ready_minimum}
use Rattle.store_image.proofs.SessionPuts.{ready_keeps}
use Rattle.store_files.specs.Pages.{has_page, floor_of, is_ciphered}
use Rattle.crash_image.specs.Writes.{written_items}
use Rattle.session_image.specs.Kept.{SessionStore, session_theory, session_form, session_places, SessionReady, SessionRecordReady}
use Rattle.session_image.proofs.MomentSteps.{moment_at, ring_told, told_ready}
use Rattle.session_image.proofs.Told.{files_told}

module _ (store : SessionStore) where
  abbrev T : Theory
  T = session_theory store

  module _ (w : Session T) (r : RingState) (es : List Event) (ready : SessionReady store w r es) where
    told_by : (mark : Mark) → Ready T w (with_mark mark (session_places store w es)) → SessionReady store w r (Tell mark ∷ es)
    told_by mark told =
        let ring : RingReady store.header.blocks (session_form store) r (Tell mark ∷ es) = ring_told store r mark es ready.ring in
        let now_ready : Ready T w (session_places store w (Tell mark ∷ es)) = told_ready store w mark es told in
        record {
          moment = moment_at store w r es (Tell mark ∷ es) ready.moment ring.ringed (files_told mark es store ready.moment.files) (ready_keeps T w (session_places store w (Tell mark ∷ es)) now_ready);
          ring = ring;
          ready = now_ready;
          double = ready.double;
          spaces = ready.spaces;
          from = ready.from;
          newest = ready.newest;
          written = ready.written;
          firsts = ready.firsts;
        }

    -- Once all blocks are synced, all entries are told as acknowledged.
    pub session_acks : w.settled ≡ w.next → SessionReady store w r (Tell (Acked (length w.journal)) ∷ es)
    session_acks all = told_by (Acked (length w.journal)) (ready_acked_all T w (session_places store w es) ready.ready all)

    -- And a version as a space's least one: it isn't above the floor, and no home from page 1 on has an older one.
    pub session_reports : (space version : ℕ) → w.settled ≡ w.next → version ≤ floor_of (now T w space 0) → is_ciphered (now T w space 0) ≡ true
        → ((p : ℕ) (t : Text) → has_page store.header.spaces space p ≡ true → p ≢ 0 → held p (shown (Space space) 16384 p es) ≡ Holds t → version ≤ t.version)
        → SessionReady store w r (Tell (Minimum space version) ∷ es)
    session_reports space version all under ciphered homes = told_by (Minimum space version) (ready_minimum T w (session_places store w es) ready.ready space version all under ciphered homes)

  -- A mark writes nothing.
  pub record_tells : (w : Session T) (es : List Event) (mark : Mark) → SessionRecordReady store w es → SessionRecordReady store w (Tell mark ∷ es)
  record_tells w es mark m =
      moment_within T store.header.blocks (InSession w) (written_items (record_of es)) (session_places store w (Tell mark ∷ es)) (with_mark mark (session_places store w es)) (tell_event (IsLogOfSession T w) mark es)
      (moment_tells T store.header.blocks (written_items (record_of es)) (session_places store w es) (InSession w) m mark)

-- The log is written out, and the journal is told as acknowledged: what holds at each moment, and then.
use Rattle.std.proofs.Common.{◌≡◌, ℕ, zero, suc, ◌+◌, ◌<◌, ◌≤◌, List, [], ◌∷◌, ◌++◌, length, Some, refl, sym, ap, subst, ◌∙◌, arith}
use Rattle.crash_image.specs.LogForm.{log_places}
use Rattle.disk_model.specs.Does.{Since}
use Rattle.disk_model.specs.Event.{Event, Sync, Tell}
use Rattle.disk_model.specs.Past.{Past, IsWrite, Throughout}
use Rattle.disk_model.specs.declared.names.FileName.TheVariants.{Log}
use Rattle.disk_model.specs.declared.names.Mark.TheVariants.{Acked}
use Rattle.disk_model.proofs.Layers.{since_same}
use Rattle.disk_model.proofs.Moments.{begins, throughout_grows}
use Rattle.places.specs.Batches.{IsNext}
use Rattle.places.specs.Places.{HasPlaces}
use Rattle.places.specs.Writes.{IsPart, writes_of}
use Rattle.redo_log.specs.Blocks.{Keys}
use Rattle.redo_log.specs.Events.{BlocksSettled, BlocksWriting, IsBlockEvent, block_batch, out_events}
use Rattle.redo_log.specs.Log.{IsOpen, pending_count, written_out}
use Rattle.redo_log.specs.State.{LogState}
use Rattle.redo_log.proofs.BlockSteps.{block_next, ready_none, to_ready, to_ringed}
use Rattle.redo_log.proofs.FitSteps.{cleared_fits}
use Rattle.redo_text.specs.declared.change.Change.{Change}
use Rattle.ring_log.specs.Batches.{more, settle}
use Rattle.ring_log.specs.Ring.{Form, RingReady, RingState, Ringed}
use Rattle.session_core.specs.Session.{Running}
use Rattle.session_image.specs.Kept.{SessionReady, SessionRecordReady, SessionStore, session_form, session_theory}
use Rattle.session_image.proofs.LogWrites.{record_writing, record_written, session_writing, session_written}
use Rattle.session_image.proofs.Tells.{record_tells, session_acks}
use Rattle.store_image.specs.Session.{Session}
use Rattle.store_image.specs.View.{Logged, block_bytes}
use Rattle.engine_core.specs.Journal.{journal_of, numbered_from}
use Rattle.engine_core.specs.Kept.{IsReadySession}
use Rattle.engine_core.proofs.Journals.{length-numbered}
use Rattle.engine_core.proofs.Ready.{IsMoment, moment_of}
use Rattle.engine_core.proofs.Stretches.{at_told, part_each, settled_at, since_settled, whole_each}

module _ {D : Type 0} (store : SessionStore) (kept : Type 0) (r : Running D) where
  -- the session with no block pending
  abbrev pub out : Running D
  out = record r { log = written_out r.log }

  module _ (s : List Event) (is : IsReadySession store kept r s) (open_log : IsOpen r.log) (blocks : r.log.blocks ≡ store.header.blocks) where
    abbrev keys : Keys
    keys = record { header = store.header; ring = store.book }

    abbrev F : Form (List Change)
    F = session_form store

    abbrev k : ℕ
    k = pending_count r.log

    ring_here : RingReady r.log.blocks F is.ring s
    ring_here = subst (λ (n : ℕ). RingReady n F is.ring s) (sym blocks) is.ready.ring

    places : HasPlaces Log (log_places r.log.blocks) s
    places = ring_here.ringed.places

    out_moment : (m : List Event) → Since (IsBlockEvent r.log) s m → BlocksWriting r.log s m → IsMoment store kept r m
    out_moment m since writing =
        let ringed : Ringed store.header.blocks F (more is.ring k) m = subst (λ (n : ℕ). Ringed n F (more is.ring k) m) blocks (to_ringed r.log keys is.ring open_log is.fits s m ring_here writing) in
        record {
          session = is.session;
          ring = more is.ring k;
          moment = session_writing store is.session is.ring s m r.log is.ready is.fits is.next since ringed;
          journal = is.journal;
          next = is.next;
          written = is.session.next;
          recorded = λ has. record_writing store is.session is.ring s m r.log is.ready is.fits is.next since (is.recorded has) open_log;
        }

    out_by : (m : List Event) → Since (IsBlockEvent r.log) s m → RingReady r.log.blocks F (settle is.ring k) m → IsReadySession store kept out m
    out_by m since ring = record {
      header = is.header;
      of_book = is.of_book;
      named = is.named;
      session = record is.session { settled = is.session.next; written = is.session.next };
      ring = settle is.ring k;
      ready = session_written store is.session is.ring s m r.log is.ready is.fits is.next since (subst (λ (n : ℕ). RingReady n F (settle is.ring k) m) blocks ring);
      fits = cleared_fits r.log open_log is.ring is.fits;
      start = is.start;
      journal = is.journal;
      next = is.next;
      dirty = is.dirty;
      whole = is.whole;
      holds = is.holds;
      heads = is.heads;
      salts = is.salts;
      recorded = λ has. record_written store is.session is.ring s m r.log is.ready is.fits is.next since (is.recorded has) open_log;
    }

    next_fits : (j : ℕ) → j < k → IsNext (log_places r.log.blocks) (block_batch r.log) j
    next_fits j lt = block_next r.log j lt open_log

    -- the moments of a write out that came to no end
    pub out_part : (new : Past) → IsPart Log block_bytes (block_batch r.log) k (Some s) new → Throughout (IsMoment store kept r) (Some s) new
    out_part new part = part_each Log (log_places r.log.blocks) (block_batch r.log) k next_fits s places (IsMoment store kept r) out_moment new part

    abbrev IsSettledPast : List Event → Type 0
    IsSettledPast m = IsReadySession store kept out m × Throughout (IsMoment store kept r) (Some s) (Some m)

    synced : IsSettledPast (Sync Log ∷ (writes_of Log block_bytes (block_batch r.log) k ++ s))
    synced =
        let m = Sync Log ∷ (writes_of Log block_bytes (block_batch r.log) k ++ s) in (
          out_by m (since_settled Log (log_places r.log.blocks) (block_batch r.log) k next_fits s places) (to_ready r.log keys is.ring open_log is.fits s m ring_here (settled_at Log (log_places r.log.blocks) (block_batch r.log) k next_fits s places)),
          whole_each Log (log_places r.log.blocks) (block_batch r.log) k next_fits s places (IsMoment store kept r) out_moment,
        )

    out_all : (n : ℕ) → k ≡ n → IsSettledPast (out_events n r.log ++ s)
    out_all zero none = (
      out_by s (since_same (IsBlockEvent r.log) s) (ready_none r.log keys is.ring open_log is.fits none s ring_here),
      begins (IsMoment store kept r) (Some s) (at_told s (moment_of store kept r s is)),
    )
    out_all (suc n) some = subst (λ (i : ℕ). IsSettledPast (Sync Log ∷ (writes_of Log block_bytes (block_batch r.log) i ++ s))) some synced

    -- and of one that was answered Ok, with what is known then
    pub out_whole : IsSettledPast (out_events k r.log ++ s)
    out_whole = out_all k refl

  -- The mark that all entries are acknowledged, where no block is pending.
  pub acks : (s : List Event) → IsReadySession store kept r s → pending_count r.log ≡ 0 → IsReadySession store kept r (Tell (Acked (length r.journal)) ∷ s)
  acks s is none =
      let settled : is.session.settled ≡ is.session.next =
      let same = is.ready.moment.settled in
      let all = is.ready.ring.all in
      let written = is.fits.written in
      let next = is.next in
      omega (arith, same, all, written, next, none) in
      let count : length is.session.journal ≡ length r.journal = ap (λ (l : List (Logged (List Change))). length l) is.journal ∙ length-numbered r.begins r.journal in
      record {
        header = is.header;
        of_book = is.of_book;
        named = is.named;
        session = is.session;
        ring = is.ring;
        ready = subst (λ (n : ℕ). SessionReady store is.session is.ring (Tell (Acked n) ∷ s)) count (session_acks store is.session is.ring s is.ready settled);
        fits = is.fits;
        start = is.start;
        journal = is.journal;
        next = is.next;
        dirty = is.dirty;
        whole = is.whole;
        holds = is.holds;
        heads = is.heads;
        salts = is.salts;
        recorded = λ has. record_tells store is.session s (Acked (length r.journal)) (is.recorded has);
      }

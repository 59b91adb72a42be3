-- What a moment of a session is known by, and what its images then stand for.
use Rattle.std.proofs.Common.{◌≡◌, ℕ, List, subst, ◌∙◌}
use Rattle.counted_disk.specs.declared.counted.Counted.{Counted}
use Rattle.crash_image.proofs.LuckyCrashes.{lucky_crash}
use Rattle.disk_model.specs.Event.{Event}
use Rattle.redo_text.specs.declared.change.Change.{Change}
use Rattle.ring_log.specs.Ring.{RingState}
use Rattle.session_core.specs.Session.{Running}
use Rattle.session_image.specs.Kept.{SessionStore, AllImagesStand, SessionMoment, SessionRecord, page_count, session_theory}
use Rattle.session_image.proofs.Images.{session_once, session_settled, session_stands}
use Rattle.session_image.proofs.MomentSteps.{record_moment}
use Rattle.store_image.specs.Session.{Session}
use Rattle.store_image.specs.View.{Logged}
use Rattle.engine_core.specs.Journal.{journal_of}
use Rattle.engine_core.specs.Kept.{AreCrashesLucky, IsReadySession, KeepsRecord}

module _ {D : Type 0} (store : SessionStore) (kept : Type 0) (r : Running D) where
  -- a moment inside a call: some session and ring with this journal tell of its places
  pub record IsMoment (m : List Event) : Type 0 where
    pub session : Session (session_theory store)
    pub ring : RingState
    pub moment : SessionMoment store session ring m
    pub journal : session.journal ≡ journal_of r
    pub next : session.next ≡ r.log.next
    pub written : ℕ
    pub recorded : kept → SessionRecord store (record session { written = written }) m

  pub stands_at : (m : List Event) → IsMoment m → AllImagesStand store (journal_of r) r.log.next m
  stands_at m at =
      subst (λ (n : ℕ). AllImagesStand store (journal_of r) n m) at.next
      (subst (λ (l : List (Logged (List Change))). AllImagesStand store l at.session.next m) at.journal (session_stands store at.session at.ring m at.moment))

  pub crashes_at : (m : List Event) → IsMoment m → AreCrashesLucky m
  crashes_at m at choices =
      let files = at.moment.files in
      lucky_crash store.header.blocks (page_count store.header.spaces) choices m at.moment.ringed.places.whole files.double.whole files.whole

  pub record_at : kept → (m : List Event) → IsMoment m → KeepsRecord store m
  record_at is m at = record {
    once = session_once store (record at.session { written = at.written }) m (at.recorded is);
    settled = session_settled store at.session at.ring m at.moment at.written (at.recorded is);
  }

  -- the moment between two calls is one
  pub moment_of : (m : List Event) → IsReadySession store kept r m → IsMoment m
  moment_of m is = record {
    session = is.session;
    ring = is.ring;
    moment = is.ready.moment;
    journal = is.journal;
    next = is.next;
    written = is.session.written;
    recorded = λ k. record_moment store is.session m (is.recorded k);
  }

-- also of a session with the same journal
pub moment_as : {D : Type 0} (store : SessionStore) (kept : Type 0) (q r : Running D) → journal_of q ≡ journal_of r → q.log.next ≡ r.log.next → (m : List Event) → IsMoment store kept q m → IsMoment store kept r m
moment_as store kept q r journal next m at = record {
  session = at.session;
  ring = at.ring;
  moment = at.moment;
  journal = at.journal ∙ journal;
  next = at.next ∙ next;
  written = at.written;
  recorded = at.recorded;
}

-- What is known of the disk between two calls hangs on the spaces, the ring of keys, the journal, the log and the pool alone.
pub ready_with : {D : Type 0} (store : SessionStore) (kept : Type 0) (r : Running D) (es : List Event) (disk : Counted D) (active age acked batch : ℕ) → IsReadySession store kept r es
    → IsReadySession store kept (record r { disk = disk; active = active; age = age; acked = acked; batch = batch }) es
ready_with store kept r es disk active age acked batch x = record {
  header = x.header;
  of_book = x.of_book;
  named = x.named;
  session = x.session;
  ring = x.ring;
  ready = x.ready;
  fits = x.fits;
  start = x.start;
  journal = x.journal;
  next = x.next;
  dirty = x.dirty;
  whole = x.whole;
  holds = x.holds;
  heads = x.heads;
  salts = x.salts;
  recorded = x.recorded;
}

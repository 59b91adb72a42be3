-- What events on some files leave of a session's moment: the other files, the ring, and the record of writes.
use Rattle.std.proofs.Common.{◌≡◌, ℕ, ◌≤◌, Bool, true, false, true≢false, nat_le, ◌&&◌, if◌then◌else◌, List, [], ◌∷◌, ◌++◌, Option, Some, None, refl, sym, ap, subst, ◌∙◌}
use Rattle.disk_model.specs.Event.{Event, Open, Make, Write, Sync, Tell, same_file, record_of}
use Rattle.disk_model.specs.Does.{AllAre, Since, IsOn}
use Rattle.disk_model.specs.declared.names.FileName.{FileName}
use Rattle.disk_model.specs.declared.names.FileName.TheVariants.{Log, Double, Space}
use Rattle.disk_model.specs.declared.names.Mark.{Mark}
use Rattle.disk_model.proofs.Layers.{since_each}
use Rattle.places.specs.Beside.{LeavesFile}
use Rattle.places.specs.Batches.{IsFileSettled}
use Rattle.places.proofs.LeftAlone.{leaves_file, may_left_alone, shown_left_alone, whole_left_alone, places_left_alone}
use Rattle.places.proofs.Steps.{may_some}
use Rattle.places.specs.Places.{May}
use Rattle.page_places.specs.Texts.{slots, pages}
use Rattle.page_places.proofs.LogSteps.{log_events, tell_event}
use Rattle.redo_text.specs.declared.change.Change.{Change}
use Rattle.redo_text.specs.Reading.{number_of, block_version}
use Rattle.ring_log.specs.Ring.{Form, RingState, IsSynced, Ringed, RingReady}
use Rattle.store_image.specs.Checkpoint.{side_of}
use Rattle.store_image.specs.LifeStages.{InSession}
use Rattle.store_image.specs.Places.{with_mark}
use Rattle.store_image.specs.Record.{Item, RingBlock, IsAmongTexts}
use Rattle.store_image.specs.Recovers.{Theory}
use Rattle.store_image.specs.Session.{Session, IsLogOfSession, KeepsSession}
use Rattle.store_image.specs.SessionPhases.{Ready}
use Rattle.store_image.specs.View.{Text}
use Rattle.store_image.proofs.LifeMoments.{moment_fails}
use Rattle.store_image.proofs.SessionWithin.{ready_within}
use Rattle.store_files.specs.RingBlock.{is_ring_block}
use Rattle.store_files.proofs.CheckpointBounds.{from_bounds}
use Rattle.crash_image.specs.Writes.{written_item, written_items}
use Rattle.session_image.specs.Kept.{SessionStore, SessionFiles, SessionMoment, SessionRecord, SessionRecordReady, session_theory, session_form, session_places, page_count}
use Rattle.session_image.proofs.Told.{places_told}

-- ---- files that are left alone

-- nothing is pending in a file that is left alone
pub settled_left : (f : FileName) (n : ℕ) (a b : List Event) → Since (LeavesFile f) a b → IsFileSettled f n a → IsFileSettled f n b
settled_left f n a b since settled i x may = settled i x (may_left_alone f n i a b x since may) ∙ ap (λ (bytes : List ℕ). Some bytes) (sym (shown_left_alone f n i a b since))

-- events on the log leave each other file alone
pub beside_log : (f : FileName) → same_file f Log ≡ false → {a b : List Event} → Since (IsOn Log) a b → Since (LeavesFile f) a b
beside_log f apart since = since_each (leaves_file Log f apart) since

-- ---- the record over events on the log

-- no text is written
log_texts : (g : FileName) → same_file g Log ≡ true → (at : ℕ) (bytes : List ℕ) (items : List Item) (s p : ℕ) (t : Text) → IsAmongTexts (written_item g at bytes ++ items) s p t → IsAmongTexts items s p t
log_texts Log is at bytes items s p t among = by (nat_le 12288 at && is_ring_block (number_of bytes) bytes) among
  where
    by : (b : Bool) → IsAmongTexts ((if b then RingBlock (number_of bytes) (block_version bytes) bytes ∷ [] else []) ++ items) s p t → IsAmongTexts items s p t
    by true among = among
    by false among = among
log_texts Double is at bytes items s p t among = absurd (true≢false (sym is))
log_texts (Space z) is at bytes items s p t among = absurd (true≢false (sym is))

log_keeps : (g : FileName) → same_file g Log ≡ true → (at : ℕ) (bytes : List ℕ) (items : List Item) (s p : ℕ) (t : Text) → IsAmongTexts items s p t → IsAmongTexts (written_item g at bytes ++ items) s p t
log_keeps Log is at bytes items s p t among = by (nat_le 12288 at && is_ring_block (number_of bytes) bytes)
  where
    by : (b : Bool) → IsAmongTexts ((if b then RingBlock (number_of bytes) (block_version bytes) bytes ∷ [] else []) ++ items) s p t
    by true = among
    by false = among
log_keeps Double is at bytes items s p t among = absurd (true≢false (sym is))
log_keeps (Space z) is at bytes items s p t among = absurd (true≢false (sym is))

abbrev IsTextWritten : List Event → ℕ → ℕ → Text → Type 0
IsTextWritten es s p t = IsAmongTexts (written_items (record_of es)) s p t

texts_all : (news es : List Event) → AllAre (IsOn Log) news → (s p : ℕ) (t : Text) → IsTextWritten (news ++ es) s p t → IsTextWritten es s p t
texts_all [] es all s p t among = among
texts_all (Open files ms ws ∷ news) es all s p t among = absurd all.0
texts_all (Make f n ∷ news) es all s p t among = absurd all.0
texts_all (Tell m ∷ news) es all s p t among = absurd all.0
texts_all (Sync f ∷ news) es all s p t among = texts_all news es all.1 s p t among
texts_all (Write f at bytes shows ∷ news) es all s p t among = texts_all news es all.1 s p t (log_texts f all.0 at bytes (written_items (record_of (news ++ es))) s p t among)

keeps_all : (news es : List Event) → AllAre (IsOn Log) news → (s p : ℕ) (t : Text) → IsTextWritten es s p t → IsTextWritten (news ++ es) s p t
keeps_all [] es all s p t among = among
keeps_all (Open files ms ws ∷ news) es all s p t among = absurd all.0
keeps_all (Make f n ∷ news) es all s p t among = absurd all.0
keeps_all (Tell m ∷ news) es all s p t among = absurd all.0
keeps_all (Sync f ∷ news) es all s p t among = keeps_all news es all.1 s p t among
keeps_all (Write f at bytes shows ∷ news) es all s p t among = log_keeps f all.0 at bytes (written_items (record_of (news ++ es))) s p t (keeps_all news es all.1 s p t among)

-- over events on the log the texts that were written are the same
pub texts_before : (a b : List Event) → Since (IsOn Log) a b → (s p : ℕ) (t : Text) → IsTextWritten b s p t → IsTextWritten a s p t
texts_before a b since s p t among = texts_all since.news a since.all s p t (subst (λ (es : List Event). IsTextWritten es s p t) since.is among)

pub texts_since : (a b : List Event) → Since (IsOn Log) a b → (s p : ℕ) (t : Text) → IsTextWritten a s p t → IsTextWritten b s p t
texts_since a b since s p t among = subst (λ (es : List Event). IsTextWritten es s p t) (sym since.is) (keeps_all since.news a since.all s p t among)

module _ (store : SessionStore) where
  abbrev T : Theory
  T = session_theory store

  abbrev N : ℕ
  N = store.header.blocks

  abbrev F : Form (List Change)
  F = session_form store

  -- ---- files and places

  pub files_left : (a b : List Event) → Since (LeavesFile Double) a b → ((s : ℕ) → Since (LeavesFile (Space s)) a b) → SessionFiles store a → SessionFiles store b
  files_left a b double spaces files = record {
    double = places_left_alone Double slots a b double files.double;
    spaces = λ s there. places_left_alone (Space s) (pages (page_count store.header.spaces s)) a b (spaces s) (files.spaces s there);
    whole = λ s. whole_left_alone (Space s) (pages (page_count store.header.spaces s)) a b (spaces s) (files.whole s);
    placed = λ s p there bytes may. files.placed s p there bytes (may_left_alone (Space s) 16384 p a b (Some bytes) (spaces s) may);
  }

  module _ (w : Session T) (a b : List Event) (since : Since (IsOn Log) a b) where
    pub log_files : SessionFiles store a → SessionFiles store b
    log_files files = files_left a b (beside_log Double refl since) (λ s. beside_log (Space s) refl since) files

    pub log_ready : Ready T w (session_places store w a) → Ready T w (session_places store w b)
    log_ready ready = ready_within T w (session_places store w a) (session_places store w b) (log_events (IsLogOfSession T w) (IsLogOfSession T w) a b since) ready

  pub told_ready : (w : Session T) (mark : Mark) (es : List Event) → Ready T w (with_mark mark (session_places store w es)) → Ready T w (session_places store w (Tell mark ∷ es))
  told_ready w mark es ready = ready_within T w (with_mark mark (session_places store w es)) (session_places store w (Tell mark ∷ es)) (tell_event (IsLogOfSession T w) mark es) ready

  -- ---- the ring

  pub ring_told : (r : RingState) (mark : Mark) (es : List Event) → RingReady N F r es → RingReady N F r (Tell mark ∷ es)
  ring_told r mark es ready = record {
    ringed = record { places = places_told mark es Log _ ready.ringed.places; at = ready.ringed.at };
    settled = ready.settled;
    all = ready.all;
    none = ready.none;
  }

  -- a run begins with block 2 or a later one
  pub ring_low : (r : RingState) (es : List Event) → Ringed N F r es → 2 ≤ r.from
  ring_low r es ringed = by (may_some Log 4096 (side_of r.sequence) es)
    where
      here : (x : Option (List ℕ)) → IsSynced N F r x → 2 ≤ r.from
      here None synced = absurd synced
      here (Some bytes) synced = (from_bounds (side_of r.sequence) bytes (record { sequence = r.sequence; from = r.from }) synced).0

      by : (x : Option (List ℕ)) × May Log 4096 (side_of r.sequence) es x → 2 ≤ r.from
      by (x, may) = here x (ringed.at.check x may)

  -- ---- moments

  -- the same session and ring at another moment
  pub moment_at : (w : Session T) (r : RingState) (a b : List Event) → SessionMoment store w r a → Ringed N F r b → SessionFiles store b → KeepsSession T w (session_places store w b) → SessionMoment store w r b
  moment_at w r a b moment ringed files keeps = record {
    base = moment.base;
    keys = moment.keys;
    have = moment.have;
    header = moment.header;
    ringed = ringed;
    journal = moment.journal;
    settled = moment.settled;
    known = moment.known;
    newer = moment.newer;
    versions = moment.versions;
    of_store = moment.of_store;
    files = files;
    keeps = keeps;
  }

  -- what the record has between two calls, it has at each moment
  pub record_moment : (w : Session T) (es : List Event) → SessionRecordReady store w es → SessionRecord store w es
  record_moment w es m = moment_fails T N (written_items (record_of es)) (session_places store w es) (InSession w) m

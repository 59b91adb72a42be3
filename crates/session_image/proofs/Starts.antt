-- A session begins over a disk at rest: what holds then, also behind the mark of the start, and of the record.
use Rattle.std.proofs.Common.{◌≡◌, ℕ, ◌+◌, ◌%◌, ◌<◌, ◌≤◌, ⊎_elim, Bool, true, List, [], ◌∷◌, Some, refl, sym, ap, subst, ◌∙◌, arith}
use Rattle.std.specs.Prelude.{Contains}
use Rattle.std.proofs.lemmas.Bool.{cases_lt}
use Rattle.std.proofs.lemmas.Option.{none-some}
use Rattle.disk_model.specs.Event.{Event, Tell, reads, is_there, marks, record_of}
use Rattle.disk_model.specs.Image.{Image, IsImage}
use Rattle.disk_model.specs.Marks.{acked}
use Rattle.disk_model.specs.declared.names.FileName.{FileName}
use Rattle.disk_model.specs.declared.names.FileName.TheVariants.{Log, Double, Space}
use Rattle.disk_model.specs.declared.names.Mark.{Mark}
use Rattle.disk_model.specs.declared.names.Mark.TheVariants.{Started}
use Rattle.key_ring.specs.Ring.{RingEntry}
use Rattle.places.specs.Batches.{IsFileSettled}
use Rattle.page_places.specs.Texts.{page_bytes, slot_size, slots, pages}
use Rattle.crash_image.specs.LogForm.{log_places}
use Rattle.crash_image.proofs.LivesOverBytes.{none_pending_places, none_pending_whole}
use Rattle.places.specs.Places.{place, shown}
use Rattle.page_places.specs.Views.{view, IsReadAs}
use Rattle.page_places.proofs.Stages.{read_within}
use Rattle.redo_text.specs.declared.change.Change.{Change}
use Rattle.ring_log.specs.Blocks.{place_in_ring}
use Rattle.ring_log.specs.Ring.{Form, RingReady, HasNoBlockFrom}
use Rattle.ring_log.proofs.Numbers.{two_sides}
use Rattle.ring_log.proofs.Rests.{ready_start as ring_begins}
use Rattle.store_image.specs.Checkpoint.{HeldCheckpoint, side_of}
use Rattle.store_image.specs.Journal.{IsJournal}
use Rattle.store_image.specs.LifeStages.{AtRest, InSession}
use Rattle.store_image.specs.Places.{LogView, ArePlacesWithin, places_of}
use Rattle.store_image.specs.Record.{Item, ItemsOnce, ItemsSettled}
use Rattle.store_image.specs.RecordKept.{IsLifeMoment}
use Rattle.store_image.specs.Recovers.{Theory, ViewRecovers, HasKeys}
use Rattle.store_image.specs.Session.{Session, IsLogOfSession, fresh}
use Rattle.store_image.specs.SessionPhases.{Ready}
use Rattle.store_image.specs.StoreAtRest.{IsStill, IsRest}
use Rattle.store_image.specs.View.{block_bytes, Text, Logged, View, IsLive}
use Rattle.store_image.proofs.LifeMoments.{moment_starts}
use Rattle.store_image.proofs.RecordCalls.{rest_of}
use Rattle.store_image.proofs.SessionPuts.{ready_keeps}
use Rattle.store_image.proofs.SessionStarts.{ready_start as places_begin}
use Rattle.store_files.specs.Header.{HeldHeader, header_in}
use Rattle.store_files.specs.Pages.{has_page, pages_of, salts_of, HaveSpaces}
use Rattle.store_files.specs.Run.{AreLogEntries, IsClear}
use Rattle.store_files.specs.Checkpoint.{checkpoint_in}
use Rattle.store_files.proofs.HeaderBounds.{header_blocks}
use Rattle.crash_image.specs.Recovers.{Recovers}
use Rattle.crash_image.specs.Rest.{read_image}
use Rattle.crash_image.specs.Stands.{Named, OfChosen, OfSlot, Rotated}
use Rattle.crash_image.specs.StoreTheory.{store_theory}
use Rattle.crash_image.specs.Writes.{Once, Settled, written_items}
use Rattle.crash_image.proofs.LogForms.{is_form}
use Rattle.session_image.specs.Kept.{SessionStore, page_count, named_keys, session_theory, session_form, session_places, SessionReady, SessionRecordReady, BeginsSession, BeginsRecord, begun, begun_ring}
use Rattle.session_image.proofs.KeyLaws.{named_key}
use Rattle.session_image.proofs.Told.{rotated_retold, image_recovers, named_back, rest_told, places_told, files_told}

module _ (store : SessionStore) where
  abbrev T : Theory
  T = session_theory store

  abbrev N : ℕ
  N = store.header.blocks

  abbrev F : Form (List Change)
  F = session_form store

  abbrev keys : ℕ → ℕ → Bool
  keys = named_keys store.header.spaces store.named

  module _ (ring : List RingEntry) (active next sequence : ℕ) (es : List Event) (b : BeginsSession store ring active next sequence es) where
    abbrev q : Recovers (read_image es) store.book store.base b.rests.last
    q = b.rests.recovers

    abbrev v : View (List Change)
    v = view q.log (read_image es)

    abbrev file : List ℕ
    file = reads Log es

    -- ---- nothing is pending

    log_settled : IsFileSettled Log block_bytes es
    log_settled = none_pending_places es b.rests.settled Log (log_places N) b.log

    double_settled : IsFileSettled Double slot_size es
    double_settled = none_pending_places es b.rests.settled Double slots b.files.double

    spaces_settled : (s : ℕ) → IsFileSettled (Space s) page_bytes es
    spaces_settled s = none_pending_whole es b.rests.settled (Space s) (pages (page_count store.header.spaces s)) (omega arith) (b.files.whole s)

    -- ---- the log

    end_is : q.log.end ≡ next
    end_is = sym q.is_last ∙ b.rests.is_next

    begins_at_end : q.log.from ≡ q.log.end
    begins_at_end = subst (λ (run : List (Logged (List Change))). AreLogEntries q.header store.book file q.log.from run q.log.end) b.rests.empty q.by.reading.run.entries

    is_header : header_in (place 4096 0 file) ≡ Some store.header
    is_header = q.is_header ∙ ap (λ (h : HeldHeader). Some h) b.header_is

    some : 0 < N
    some = let bounds = (header_blocks (place 4096 0 file) store.header is_header).0 in omega (arith, bounds)

    check : checkpoint_in (side_of sequence) (place 4096 (side_of sequence) file) ≡ Some (record { sequence = sequence; from = next })
    check =
        subst (λ (n : ℕ). checkpoint_in (side_of sequence) (place 4096 (side_of sequence) file) ≡ Some (record { sequence = sequence; from = n })) (begins_at_end ∙ end_is)
        (subst (λ (n : ℕ). checkpoint_in (side_of n) (place 4096 (side_of n) file) ≡ Some (record { sequence = n; from = q.log.from })) b.newest q.by.reading.run.run.newest.is)

    older : (c : HeldCheckpoint) → checkpoint_in (side_of (sequence + 1)) (place 4096 (side_of (sequence + 1)) file) ≡ Some c → c.sequence < sequence
    older c is =
        let newest = b.newest in
        let le = q.by.reading.run.run.newest.newest (side_of (sequence + 1)) c is in
        let side : side_of (sequence + 1) ≡ side_of c.sequence = (is_form store.header store.book).check_side (side_of (sequence + 1)) (place 4096 (side_of (sequence + 1)) file) c is in
        ⊎_elim (λ (lt : c.sequence < sequence). lt)
        (λ (ge : sequence ≤ c.sequence).
        let same : c.sequence ≡ sequence = omega (arith, le, ge, newest) in
        absurd (two_sides sequence (ap side_of (sym same) ∙ sym side)))
        (cases_lt c.sequence sequence)

    -- no place reads as a ring block of the next number or a later one
    pub clear : IsClear N file next
    clear = subst (λ (h : HeldHeader). IsClear h.blocks file next) b.header_is b.rests.clear

    none_from : (n : ℕ) → next ≤ n → n < next + N → HasNoBlockFrom N F n (shown Log 4096 (place_in_ring N n) es)
    none_from n low high m le is = let pos = some in clear (n % N) m (omega (arith, pos)) (omega (arith, low, le)) is

    ring_ready : RingReady N F (begun_ring store next sequence es) es
    ring_ready = ring_begins N F (place 4096 0 file) sequence next (λ n. []) es some b.log log_settled refl check older none_from

    -- ---- the places

    abbrev w : Session T
    w = fresh T (pages_of store.base) q.log.end keys

    says : (l : LogView (List Change)) → IsLogOfSession T w l → (l.from ≡ q.log.end) × (l.end ≡ q.log.end) × (l.run ≡ [])
    says l is =
        let whole : l.from ≡ l.end = subst (λ (run : List (Logged (List Change))). IsJournal l.from run l.end) is.run is.whole in
        let low = is.settles in
        let high = is.within in
        (omega (arith, whole, low, high), omega (arith, low, high), is.run)

    read_as : IsReadAs (IsLogOfSession T w) v es
    read_as = record {
      home = λ z p. refl;
      slot = λ i. refl;
      told = refl;
      spaces = spaces_settled;
      double = double_settled;
      log = λ l is. let (from, end, run) = says l is in λ i. record { from = (from ∙ sym begins_at_end) i; end = end i; run = (run ∙ sym b.rests.empty) i };
    }

    within : ArePlacesWithin (session_places store w es) (places_of v)
    within = read_within (IsLogOfSession T w) v es read_as

    still : IsStill T (session_places store w es) v
    still = record {
      homes = λ s p h there may. within.may_home s p h may ∙ sym (within.home s p);
      slots = λ i h lt may. within.may_slot i h may ∙ sym (within.slot i);
      home = λ s p there. within.home s p;
      slot = λ i lt. within.slot i;
      log = says;
    }

    rest : IsRest T v (pages_of store.base)
    rest = record {
      recovers = subst (λ (h : HeldHeader). ViewRecovers (store_theory h store.book (salts_of store.base)) v (pages_of store.base)) b.header_is q.by.pages;
      rotated = subst (λ (h : HeldHeader). Rotated (read_image es) store.book h q.log store.base) b.header_is b.rotated;
      run = b.rests.empty;
      none_live = subst (λ (h : HeldHeader). (s p i : ℕ) (t : Text) → has_page h.spaces s p ≡ true → IsLive v s p i t → ⊥) b.header_is b.rests.none_live;
    }

    keyed : (id version : ℕ) → Named (read_image es) store.header q.log active id version → Contains store.named (id, version)
    keyed = subst (λ (h : HeldHeader). (id version : ℕ) → Named (read_image es) h q.log active id version → Contains store.named (id, version)) b.header_is b.keyed

    has_keys : HasKeys T keys v
    has_keys = record {
      homes = λ s p t there chosen. named_key store.header.spaces store.named s t.version (λ other. keyed _ _ (OfChosen s p t there chosen other refl refl));
      slots = λ s p i t there live. named_key store.header.spaces store.named s t.version (λ other. keyed _ _ (OfSlot s p i t there live other refl refl));
    }

    ready : acked (marks es) ≡ 0 → Ready T (begun store next) (session_places store (begun store next) es)
    ready none = subst (λ (n : ℕ). Ready T (begun store n) (session_places store (begun store n) es)) end_is
        (places_begin T (session_places store w es) v (pages_of store.base) still rest (λ s. refl) none keys has_keys)

    -- What holds as a session begins, where no entry was acknowledged since the last start.
    pub session_starts : acked (marks es) ≡ 0 → SessionReady store (begun store next) (begun_ring store next sequence es) es
    session_starts none = record {
      moment = record {
        base = refl;
        keys = refl;
        have = subst (λ (h : HeldHeader). HaveSpaces h.spaces store.base) b.header_is q.by.reading.spaces;
        header = is_header;
        ringed = ring_ready.ringed;
        journal = record {
          entries = refl;
          written = omega arith;
          from = record { before = []; behind = []; parts = refl; left = refl };
          newer = λ f is. absurd (none-some f is);
          settled = record { before = []; behind = []; parts = refl; left = refl };
        };
        settled = refl;
        known = omega arith;
        newer = λ f is. absurd (none-some f is);
        versions = λ n low high. absurd (omega (arith, low, high));
        of_store = tt;
        files = b.files;
        keeps = ready_keeps T (begun store next) (session_places store (begun store next) es) (ready none);
      };
      ring = ring_ready;
      ready = ready none;
      double = double_settled;
      spaces = spaces_settled;
      from = refl;
      newest = refl;
      written = refl;
      firsts = λ s p d there is. absurd (none-some d is);
    }

    -- ---- the record

    module _ (m : BeginsRecord store next es b.rests) where
      abbrev items : List Item
      items = written_items (record_of es)

      settled : ItemsSettled T N items v (pages_of store.base)
      settled = subst (λ (h : HeldHeader). Settled (record_of es) (read_image es) h store.book q.log store.base) b.header_is m.settled

      once : ItemsOnce T items
      once = subst (λ (h : HeldHeader). Once h store.book (salts_of store.base) (record_of es)) b.header_is m.once

      at_rest : IsLifeMoment T N (AtRest q.log.end (pages_of store.base)) items (session_places store w es)
      at_rest = record {
        there = m.there;
        kept = rest_of T N items v (pages_of store.base) once settled (λ n version bytes among. let lt = m.unused n version bytes among in let end = end_is in omega (arith, lt, end));
        may = record {
          homes = λ s p t there may. settled.held.homes s p t there (sym (within.may_home s p _ may));
          slots = λ i x lt may. settled.held.slots i x lt (sym (within.may_slot i (Some x) may));
        };
        reads = λ up. record {
          homes = λ s p t there is. settled.held.homes s p t there (sym (within.home s p) ∙ is);
          slots = λ i x lt is. settled.held.slots i x lt (sym (within.slot i) ∙ is);
        };
      }

      pub record_starts : SessionRecordReady store (begun store next) es
      record_starts = subst (λ (n : ℕ). IsLifeMoment T N (InSession (begun store n)) items (session_places store (begun store n) es)) end_is
          (moment_starts T N items (session_places store w es) q.log.end (pages_of store.base) at_rest keys)

    -- ---- behind the mark of the start

    abbrev pub begins_told : BeginsSession store ring active next sequence (Tell Started ∷ es)
    begins_told = record {
      rests = rest_told Started es store.book store.base next b.rests;
      header_is = b.header_is;
      rotated = rotated_retold (store_theory b.rests.recovers.header store.book (salts_of store.base)) (view b.rests.recovers.log (read_image es)) (Started ∷ marks es) (pages_of store.base) (λ s. refl) b.rotated;
      keyed = λ id version named. b.keyed id version (named_back (read_image es) (λ f. is_there f es) (Started ∷ marks es) (λ f. []) b.rests.recovers.header b.rests.recovers.log active id version named);
      of_book = b.of_book;
      ring_named = b.ring_named;
      newest = b.newest;
      log = places_told Started es Log _ b.log;
      files = files_told Started es store b.files;
    }

    pub record_begins_told : BeginsRecord store next es b.rests → BeginsRecord store next (Tell Started ∷ es) (rest_told Started es store.book store.base next b.rests)
    record_begins_told m = record {
      once = m.once;
      settled = record { log = m.settled.log; held = record { homes = m.settled.held.homes; slots = m.settled.held.slots } };
      unused = m.unused;
      there = m.there;
    }

    -- ---- the images of the first moment

    abbrev Rests : Image → Type 0
    Rests image = (r : Recovers image store.book store.base b.rests.last) × Rotated image store.book r.header r.log store.base

    -- Each image of it recovers the base contents.
    pub entry_recovers : (image : Image) → IsImage es image → Rests image
    entry_recovers image is =
        let here : Rests (record image { bytes = λ f. reads f es; told = marks es }) = (
          image_recovers (read_image es) image.is_made (marks es) image.torn store.book store.base b.rests.last q,
          rotated_retold (store_theory q.header store.book (salts_of store.base)) v (marks es) (pages_of store.base) (λ s. refl) b.rotated,
        ) in
        let files : (λ (f : FileName). reads f es) ≡ image.bytes = λ i f. sym (b.rests.settled image is f) i in
        subst (λ (bytes : FileName → List ℕ). Rests (record image { bytes = bytes })) files
        (subst (λ (told : List Mark). Rests (record image { bytes = λ f. reads f es; told = told })) (sym is.told) here)

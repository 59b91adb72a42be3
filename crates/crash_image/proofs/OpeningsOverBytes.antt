-- The theorems of an opening over bytes: at each of its moments each lucky image recovers to the contents that it began with, and at its end the store is at rest with them.
use Rattle.std.proofs.Common.{◌≡◌, ◌⊎◌, inl, inr, ℕ, ◌+◌, ◌*◌, ◌≤◌, Bool, true, false, List, [], ◌∷◌, length, Some, refl, sym, ap, subst, ◌∙◌, arith}
use Rattle.std.specs.Prelude.{MatchBool}
use Rattle.disk_model.specs.Event.{Event, Open, Make, Write, Sync, Tell, same_file, reads}
use Rattle.disk_model.specs.Image.{Image, IsImage}
use Rattle.disk_model.specs.declared.names.FileName.{FileName}
use Rattle.disk_model.specs.declared.names.FileName.TheVariants.{Log, Double, Space}
use Rattle.key_ring.specs.Ring.{RingEntry}
use Rattle.places.specs.Places.{place, shown, IsPlace, AreWhole, IsUnwritten, Whole}
use Rattle.places.specs.Batches.{IsFileSettled}
use Rattle.places.proofs.Left.{left_size}
use Rattle.places.proofs.LeftAlone.{may_left_alone, reads_left_alone, shown_left_alone, whole_left_alone}
use Rattle.places.proofs.NonePending.{image_as_read, unwritten_whole, unwritten_settled}
use Rattle.places.proofs.Steps.{settled_honest}
use Rattle.page_places.specs.Texts.{page_bytes, slots, pages}
use Rattle.page_places.specs.Views.{view, places_by}
use Rattle.page_places.proofs.Placed.{placed_image}
use Rattle.page_places.proofs.Stages.{opening_image}
use Rattle.ring_log.specs.Opening.{log_behind}
use Rattle.ring_log.specs.Ring.{IsRingLog, IsRingClear}
use Rattle.store_image.specs.Journal.{IsJournal}
use Rattle.store_image.specs.Opening.{OpeningStage, IsVersionAllowed, OpeningEnded}
use Rattle.store_image.specs.Places.{LogView, IsViewOf, log_of}
use Rattle.store_image.specs.Recovers.{Theory, ViewRecovers, ViewRotated}
use Rattle.store_image.specs.View.{Logged, View}
use Rattle.store_image.proofs.OpeningMoments.{StageHas}
use Rattle.store_image.proofs.OpeningToSession.{opened_rest}
use Rattle.redo_text.specs.declared.change.Change.{Change}
use Rattle.store_model.specs.declared.contents.SpaceContents.{SpaceContents}
use Rattle.store_files.specs.Header.{HeldHeader, HeldSpace, header_in}
use Rattle.store_files.specs.Pages.{pages_of}
use Rattle.store_files.specs.Run.{AreLogEntries, IsLogOf, IsClear}
use Rattle.crash_image.specs.LogForm.{log_form, log_places}
use Rattle.crash_image.specs.Opened.{StoreOpened, opened_theory, log_after, IsOpenedAt, FilesStand, FilesOpened, LogEnded}
use Rattle.crash_image.specs.Recovers.{HasHeader, Reading, Recovers, RunIsOfStore, SpacesLong}
use Rattle.crash_image.specs.Rest.{read_image, IsAtRest}
use Rattle.crash_image.specs.Stands.{Lucky, RecoversRotated, Rotated, place_test}
use Rattle.crash_image.proofs.LivesOverBytes.{none_pending, rests_by}
use Rattle.crash_image.proofs.LogForms.{log_is}

-- a run of whole mini-transactions is a journal
journal_of : (header : HeldHeader) (keys : List RingEntry) (file : List ℕ) (n : ℕ) (es : List (Logged (List Change))) (end : ℕ) → AreLogEntries header keys file n es end → IsJournal n es end
journal_of header keys file n [] end is = is
journal_of header keys file n (e ∷ es) end (k, text, w, texts, reads, first, lsn, rest) = (k, w.some, w.few, first, lsn, journal_of header keys file (n + k) es end rest)

-- how many places a file has is no matter to its writes
pub any_count : (f : FileName) (a b : ℕ) (es : List Event) → AreWhole f (pages a) es → AreWhole f (pages b) es
any_count f a b [] whole = tt
any_count f a b (Open files ms ws ∷ es) whole = tt
any_count f a b (Tell m ∷ es) whole = any_count f a b es whole
any_count f a b (Write g at bytes shows ∷ es) whole = (λ is. place_of (whole.0 is), any_count f a b es whole.1)
  where
    place_of : IsPlace (pages a) at bytes shows (reads f es) → IsPlace (pages b) at bytes shows (reads f es)
    place_of p = record { place = p.place; at_is = p.at_is; long = p.long; shown = p.shown; within = p.within; refused = p.refused }
any_count f a b (Make g m ∷ es) whole = by (any_count f a b es) (same_file f g) whole
  where
    by : (AreWhole f (pages a) es → AreWhole f (pages b) es) → (c : Bool) → MatchBool c (Unit {0}) (AreWhole f (pages a) es) → MatchBool c (Unit {0}) (AreWhole f (pages b) es)
    by earlier true whole = tt
    by earlier false whole = earlier whole
any_count f a b (Sync g ∷ es) whole = by (any_count f a b es) (same_file f g) whole
  where
    by : (AreWhole f (pages a) es → AreWhole f (pages b) es) → (c : Bool) → MatchBool c (Unit {0}) (AreWhole f (pages a) es) → MatchBool c (Unit {0}) (AreWhole f (pages b) es)
    by earlier true whole = tt
    by earlier false whole = earlier whole

-- ---- where an opening begins

-- A disk with nothing pending that recovers as it reads is one that an opening begins with.
module _ (es : List Event) (keys : List RingEntry) (c : List SpaceContents) (last active : ℕ) (r : Recovers (read_image es) keys c last) where
  abbrev pub store_opened : StoreOpened
  store_opened = record { header = r.header; keys = keys; view = view r.log (read_image es); contents = c; active = active }

  pub opened_by : ((f : FileName) → IsUnwritten f es) → Rotated (read_image es) keys r.header r.log c → IsVersionAllowed (opened_theory store_opened) active (pages_of c) → IsOpenedAt store_opened last es
  opened_by none rotated allowed = record {
    is_last = r.is_last;
    reads_as = record {
      home = λ z p. refl;
      slot = λ i. refl;
      told = refl;
      spaces = λ z. unwritten_settled (Space z) page_bytes es (none (Space z));
      double = unwritten_settled Double 16896 es (none Double);
      log = λ l is. is;
    };
    log_settled = unwritten_settled Log 4096 es (none Log);
    log_whole = unwritten_whole Log (log_places r.header.blocks) es (none Log);
    double_whole = unwritten_whole Double slots es (none Double);
    spaces_whole = λ z count. unwritten_whole (Space z) (pages count) es (none (Space z));
    is_header = r.is_header;
    reading = r.by.reading;
    recovers = r.by.pages;
    rotated = rotated;
    allowed = allowed;
  }

-- ---- each moment

module _ (o : StoreOpened) (last : ℕ) (s : List Event) (opened : IsOpenedAt o last s) where
  abbrev T : Theory
  T = opened_theory o

  abbrev v : View (List Change)
  v = o.view

  abbrev N : ℕ
  N = o.header.blocks

  pub opened_journal : IsJournal v.from v.run v.end
  opened_journal = journal_of o.header o.keys (reads Log s) v.from v.run v.end opened.reading.run.entries

  -- A lucky image of a moment at which a stage of the opening holds.
  module _ (m : List Event) (files : FilesStand o s m) (image : Image) (is : IsImage m image) (lucky : Lucky image) where
    double_size : length (image.bytes Double) ≡ 64 * 16896
    double_size = left_size Double slots m (omega arith) files.double_whole (image.bytes Double) (image.torn Double) (is.left Double) ∙ files.double_long ∙ opened.reading.long.double

    spaces_size : (hs : List HeldSpace) → SpacesLong (read_image s) hs → SpacesLong image hs
    spaces_size [] long = tt
    spaces_size (h ∷ hs) long = (
      left_size (Space h.space) (pages 0) m (omega arith) (files.spaces_whole h.space 0) (image.bytes (Space h.space)) (image.torn (Space h.space)) (is.left (Space h.space)) ∙ files.spaces_long h.space ∙ long.0,
      spaces_size hs long.1,
    )

    -- what its log says
    module _ (log : LogView (List Change)) (header : HasHeader image o.header) (long : length (image.bytes Log) ≡ (3 + N) * 4096) (run : IsLogOf o.header o.keys (image.bytes Log) log)
        (of_store : RunIsOfStore o.header.spaces log.run) (clear : IsClear N (image.bytes Log) (log.end + N))
        (may_log : LogView (List Change) → Type 0) (may : may_log log) (stage : OpeningStage) (has : StageHas T v (pages_of o.contents) o.active N stage (places_by may_log m)) where
      kept : ViewRecovers T (view log image) (pages_of o.contents) × ViewRotated T (view log image) (pages_of o.contents) × IsJournal log.from log.run log.end
      kept = opening_image T may_log log (λ z. 0) m files.double_whole (λ z. files.spaces_whole z 0) place_test (λ bytes. refl) (λ z bytes. refl) image is lucky may v (pages_of o.contents) o.active N
          opened.recovers opened.rotated opened_journal opened.allowed stage has

      image_recovers : (end : ℕ) → end + 1 ≡ log.end → RecoversRotated image o.keys o.contents end
      image_recovers end ends = record {
        recovers = record {
          header = o.header;
          is_header = header;
          log = log;
          is_last = ends;
          by = record {
            reading = record {
              long = record { log = long; double = double_size; spaces = spaces_size o.header.spaces opened.reading.long.spaces };
              run = run;
              of_store = of_store;
              placed = λ z p here. placed_image z p 0 m (files.spaces_whole z 0) place_test (λ bytes. refl) image is lucky (files.placed z p here);
              spaces = opened.reading.spaces;
              clear = clear;
            };
            pages = kept.0;
          };
        };
        rotated = kept.1;
      }

  -- ---- as long as the log is as it was

  module _ (m : List Event) (files : FilesOpened o s m) where
    log_settled : IsFileSettled Log 4096 m
    log_settled i x may = opened.log_settled i x (may_left_alone Log 4096 i s m x files.log may) ∙ ap (λ (l : List ℕ). Some l) (sym (shown_left_alone Log 4096 i s m files.log))

    log_file : (image : Image) → IsImage m image → image.bytes Log ≡ reads Log s
    log_file image is =
        image_as_read Log (log_places N) m (omega arith) (whole_left_alone Log (log_places N) s m files.log opened.log_whole) log_settled (image.bytes Log) (image.torn Log) (is.left Log)
        ∙ reads_left_alone Log s m files.log

    -- Each lucky image recovers to what was opened, with the run that was found.
    pub opening_recovers : (stage : OpeningStage) → StageHas T v (pages_of o.contents) o.active N stage (places_by (λ l. l ≡ log_of v) m) → (image : Image) → IsImage m image → Lucky image
        → RecoversRotated image o.keys o.contents last
    opening_recovers stage has image is lucky =
        let same : reads Log s ≡ image.bytes Log = sym (log_file image is) in
        image_recovers m files.files image is lucky (log_of v)
        (subst (λ (file : List ℕ). header_in (place 4096 0 file) ≡ Some o.header) same opened.is_header)
        (subst (λ (file : List ℕ). length file ≡ (3 + N) * 4096) same opened.reading.long.log)
        (subst (λ (file : List ℕ). IsLogOf o.header o.keys file (log_of v)) same opened.reading.run) opened.reading.of_store
        (subst (λ (file : List ℕ). IsClear N file (v.end + N)) same opened.reading.clear)
        (λ l. l ≡ log_of v) refl stage has last opened.is_last

  -- ---- once the checkpoint behind the run is being written

  -- What is asked of an image's log is what `write_opening_checkpoint` says of it.
  module _ (m : List Event) (files : FilesStand o s m) (big : 16 ≤ N) (stage : OpeningStage)
      (has : StageHas T v (pages_of o.contents) o.active N stage (places_by (λ l. (l ≡ log_of v) ⊎ (l ≡ log_after o)) m)) (image : Image) (is : IsImage m image) (lucky : Lucky image)
      (long : length (image.bytes Log) ≡ (3 + N) * 4096) (header_same : place 4096 0 (image.bytes Log) ≡ place 4096 0 (reads Log s)) (clear : IsRingClear N (log_form o.header o.keys) (image.bytes Log) v.end) where
    header_still : HasHeader image o.header
    header_still = ap header_in header_same ∙ opened.is_header

    -- Each lucky image recovers to what was opened, with the run that was found or with the empty one behind it.
    pub opening_recovers_behind : IsRingLog N (log_form o.header o.keys) (image.bytes Log) (log_of v) ⊎ IsRingLog N (log_form o.header o.keys) (image.bytes Log) (log_behind N (log_form o.header o.keys) (log_of v))
        → RecoversRotated image o.keys o.contents last ⊎ RecoversRotated image o.keys o.contents (last + N)
    opening_recovers_behind (inl old) =
        inl (image_recovers m files image is lucky (log_of v) header_still long (log_is o.header o.keys (image.bytes Log) big (log_of v) old) opened.reading.of_store clear (λ l. (l ≡ log_of v) ⊎ (l ≡ log_after o)) (inl refl) stage has last opened.is_last)
    opening_recovers_behind (inr new) =
        inr (image_recovers m files image is lucky (log_after o) header_still long (log_is o.header o.keys (image.bytes Log) big (log_after o) new) tt (λ i k lt le valid. clear i k lt (omega (arith, le)) valid)
        (λ l. (l ≡ log_of v) ⊎ (l ≡ log_after o)) (inr refl) stage has (last + N) (omega (arith, opened.is_last)))

  -- ---- at its end

  module _ (m : List Event) (files : FilesStand o s m) (log : LogEnded o m) (double : IsFileSettled Double 16896 m) (spaces : (z : ℕ) → IsFileSettled (Space z) page_bytes m)
      (ended : OpeningEnded T v (pages_of o.contents) o.active N (places_by (λ l. l ≡ log_after o) m)) where
    abbrev image : Image
    image = read_image m

    read_view : IsViewOf (places_by (λ l. l ≡ log_after o) m) (view (log_after o) image)
    read_view = record {
      home = λ z p. Whole (shown (Space z) page_bytes p m) (settled_honest (Space z) page_bytes p m (spaces z p)) refl;
      slot = λ i. Whole (shown Double 16896 i m) (settled_honest Double 16896 i m (double i)) refl;
      log = refl;
      told = refl;
    }

    read_spaces : (hs : List HeldSpace) → SpacesLong (read_image s) hs → SpacesLong image hs
    read_spaces [] long = tt
    read_spaces (h ∷ hs) long = (files.spaces_long h.space ∙ long.0, read_spaces hs long.1)

    read_reading : Reading image o.keys o.header (log_after o) o.contents
    read_reading = record {
      long = record { log = log.long; double = files.double_long ∙ opened.reading.long.double; spaces = read_spaces o.header.spaces opened.reading.long.spaces };
      run = log.run;
      of_store = tt;
      placed = λ z p here. files.placed z p here (shown (Space z) page_bytes p m) (settled_honest (Space z) page_bytes p m (spaces z p));
      spaces = opened.reading.spaces;
      clear = λ i k lt le valid. log.clear i k lt (omega (arith, le)) valid;
    }

    -- The store is at rest with what was opened, and its next block is a ring's length behind the run.
    pub opening_rests : IsAtRest m o.keys o.contents (last + 1 + N)
    opening_rests =
        let next : v.end + N ≡ last + 1 + N = ap (λ (n : ℕ). n + N) (sym opened.is_last) in
        subst (IsAtRest m o.keys o.contents) next
        (rests_by m o.keys o.header (log_after o) o.contents (last + N) (omega (arith, opened.is_last))
        (none_pending N (λ z. 0) m log.whole files.double_whole (λ z. files.spaces_whole z 0) log.settled double spaces) log.is_header read_reading
        (opened_rest T v (pages_of o.contents) o.active N opened.recovers opened.rotated opened_journal opened.allowed (places_by (λ l. l ≡ log_after o) m) ended (view (log_after o) image) read_view)
        log.clear)

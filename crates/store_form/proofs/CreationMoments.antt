-- What each image of each moment of a creation is, and what it writes.
use Rattle.std.proofs.Common.{◌≡◌, ℕ, ◌+◌, ◌*◌, ◌/◌, ◌<◌, ◌≤◌, ◌&&◌, Bool, true, false, nat_le, if◌then◌else◌, List, [], ◌∷◌, ◌++◌, length, None, lit<, ◌⊎◌, refl, sym, ap, ◌∙◌, subst, inl, inr, arith}
use Rattle.std.proofs.lemmas.Bool.{cond-true, cond-false}
use Rattle.std.proofs.lemmas.Bool.Decides.{nat_tests}
use Rattle.byte_list.specs.Bytes.{put, range, zeros}
use Rattle.byte_list.proofs.PutLaws.{range-put_before}
use Rattle.byte_list.proofs.RangeLaws.{length-zeros, range-zeros}
use Rattle.disk_model.specs.Does.{AllAre}
use Rattle.disk_model.specs.Event.{Event, Open, Make, Write, Sync, Tell, is_there, record_of}
use Rattle.disk_model.specs.Image.{Image, IsImage, IsListed, Leaves, Outcome, Lost, Kept, Torn}
use Rattle.disk_model.specs.declared.names.FileName.{FileName}
use Rattle.disk_model.specs.declared.names.FileName.TheVariants.{Log, Double, Space}
use Rattle.key_ring.specs.Ring.{RingEntry}
use Rattle.page_places.specs.Texts.{ends_in_sum, is_page_text, text_in}
use Rattle.places.specs.Places.{place}
use Rattle.redo_log.specs.Check.{check_bytes}
use Rattle.redo_log.specs.Events.{check_event}
use Rattle.redo_log.proofs.CheckLaws.{length-check}
use Rattle.space_head.specs.declared.space.SpaceInfo.{SpaceInfo}
use Rattle.store_files.specs.Header.{HeldHeader, IsWritableHeader, header_bytes, header_in}
use Rattle.store_files.specs.RingBlock.{is_ring_block}
use Rattle.store_files.proofs.HeadersWritten.{no_header}
use Rattle.store_files.proofs.TextsHeld.{text_at}
use Rattle.redo_text.specs.Reading.{number_of, block_version}
use Rattle.store_image.specs.Record.{Item, PageText, RingBlock}
use Rattle.store_image.specs.View.{Text}
use Rattle.store_model.specs.Fold.{empty}
use Rattle.crash_image.specs.Recovers.{Recovers}
use Rattle.crash_image.specs.Stands.{Lucky, place_test}
use Rattle.crash_image.specs.Writes.{written_item, written_items}
use Rattle.store_form.specs.Created.{HasNoFile, IsFirstTextOf, IsNotFormatted, LeaveNoneOrEmpty, WritesFirstPages}
use Rattle.store_form.specs.Creation.{check_written, creation, events_after, files_begun, first_pages_written, first_text, header_written, spaces_begun}
use Rattle.store_form.proofs.CreatedFiles.{begun_first, length-header, log_begun, log_made, space_made}
use Rattle.store_form.proofs.CreationFiles.{AreSettled, double_at_check, double_at_header, image_spaces, log_at_check, log_at_header, log_at_pages, log_files, log_first, log_in_files, log_in_pages, log_zeros, m_check, m_files, m_header, m_pages, spaces_at_check, spaces_at_header}
use Rattle.store_form.proofs.CreationSteps.{AtAttempt, AtEach, each_append}
use Rattle.store_form.proofs.EmptyStore.{AreSpaceFiles, empty_recovers}
use Rattle.store_form.specs.Made.{AreMadeInfos, AreMadeSpaces, DifferInId, IsMadeInfo}
use Rattle.store_form.proofs.FirstTexts.{first_in, first_is}
use Rattle.store_form.proofs.SettledFiles.{IsSettledAs, each_beside}
use Rattle.store_form.proofs.ZeroPlaces.{zero_header}

-- ---- images

module _ (header : HeldHeader) (spaces : List SpaceInfo) (es : List Event) (w : IsWritableHeader header) (are : AreMadeSpaces header.spaces spaces) (differ : DifferInId spaces) (absent : is_there Log es ≡ false) where
  abbrev P : List Event → Type 0
  P = LeaveNoneOrEmpty spaces

  -- a log whose first block is no header
  unformatted : (file : List ℕ) → header_in (range 0 4096 file) ≡ None → (m : List Event) → IsSettledAs Log file m → P m
  unfolding place
  unformatted file none m was = λ image is lucky keys. inl (inr (ap (λ (x : List ℕ). header_in (range 0 4096 x)) (was.leaves (image.bytes Log) (image.torn Log) (is.left Log)).0 ∙ none))

  at_first : P es
  at_first = λ image is lucky keys. inl (inl (is.made Log ∙ absent))

  zeros_first : range 0 4096 (log_zeros header spaces es) ≡ zeros 4096
  zeros_first = range-zeros 0 4096 ((3 + header.blocks) * 4096) (omega arith)

  none_in_zeros : header_in (range 0 4096 (log_zeros header spaces es)) ≡ None
  none_in_zeros = ap header_in zeros_first ∙ zero_header 4096 (omega arith)

  none_in_begun : header_in (range 0 4096 (log_begun header.blocks)) ≡ None
  none_in_begun = ap header_in (begun_first header.blocks) ∙ zero_header 4096 (omega arith)

  -- what a write behind it leaves of the first block
  first_left : (bytes file : List ℕ) → file ≡ log_zeros header spaces es → length bytes ≡ 4096 → header_in (range 0 4096 (put 8192 bytes file)) ≡ None
  first_left bytes file is long =
      let size : length file ≡ (3 + header.blocks) * 4096 = ap length is ∙ length-zeros ((3 + header.blocks) * 4096) in
      ap header_in (range-put_before 8192 bytes file (omega (arith, size, long)) 0 4096 (omega arith)) ∙ ap (λ (x : List ℕ). header_in (range 0 4096 x)) is ∙ none_in_zeros

  check_long : length (check_bytes 1 2) ≡ 4096
  check_long = length-check 1 2 (omega arith) (omega arith) (omega arith)

  check_outcome : (m : List Event) (x : List ℕ) (torn : List (ℕ × ℕ)) → IsSettledAs Log (log_zeros header spaces es) m → Outcome 8192 (check_bytes 1 2) (Leaves Log m) x torn → header_in (range 0 4096 x) ≡ None
  check_outcome m x torn was (Lost before) = ap (λ (y : List ℕ). header_in (range 0 4096 y)) (was.leaves x torn before).0 ∙ none_in_zeros
  check_outcome m x torn was (Kept old rest before is t) = ap (λ (y : List ℕ). header_in (range 0 4096 y)) is ∙ first_left (check_bytes 1 2) old (was.leaves old rest before).0 check_long
  check_outcome m x torn was (Torn any old rest size before is t) = ap (λ (y : List ℕ). header_in (range 0 4096 y)) is ∙ first_left any old (was.leaves old rest before).0 (size ∙ check_long)

  check_attempt : (m : List Event) (other : List ℕ) → IsSettledAs Log (log_zeros header spaces es) m → P (Write Log 8192 (check_bytes 1 2) other ∷ m)
  unfolding place
  check_attempt m other was = λ image is lucky keys. inl (inr (check_outcome m (image.bytes Log) (image.torn Log) was (is.left Log)))

  -- the header: it isn't there, or it is, or it is torn and fails its checksum
  module _ (m : List Event) (log : IsSettledAs Log (log_begun header.blocks) m) (double : IsSettledAs Double (zeros (64 * 16896)) m) (files : AreSettled space_made spaces m) (other : List ℕ) where
    abbrev now : List Event
    now = Write Log 0 (header_bytes header) other ∷ m

    whole : (image : Image) → IsImage now image → image.bytes Log ≡ log_made header → (keys : List RingEntry) → Recovers image keys (empty spaces) 1
    whole image is log_is keys =
        empty_recovers header spaces w are image log_is (double.leaves (image.bytes Double) (image.torn Double) (is.left Double)).0 (image_spaces spaces m image (λ id. is.left (Space id)) files) keys

    kept_log : (x old : List ℕ) → x ≡ put 0 (header_bytes header) old → old ≡ log_begun header.blocks → x ≡ log_made header
    unfolding log_made
    kept_log x old is was = is ∙ ap (λ (y : List ℕ). put 0 (header_bytes header) y) was

    torn_first : (image : Image) (rest : List (ℕ × ℕ)) → Lucky image → image.torn Log ≡ (0, length (header_bytes header)) ∷ rest → header_in (range 0 4096 (image.bytes Log)) ≡ None
    torn_first image rest lucky t =
        let listed : IsListed (image.torn Log) 0 (length (header_bytes header)) = subst (λ (l : List (ℕ × ℕ)). IsListed l 0 (length (header_bytes header))) (sym t) (inl (refl, refl)) in
        no_header (range 0 4096 (image.bytes Log)) (ap (λ (n : ℕ). ends_in_sum (range 0 n (image.bytes Log))) (sym (length-header header w)) ∙ lucky Log 0 (length (header_bytes header)) listed)

    header_outcome : (image : Image) → IsImage now image → Lucky image → (keys : List RingEntry) → Outcome 0 (header_bytes header) (Leaves Log m) (image.bytes Log) (image.torn Log) → IsNotFormatted image ⊎ Recovers image keys (empty spaces) 1
    unfolding place
    header_outcome image is lucky keys (Lost before) = inl (inr (ap (λ (x : List ℕ). header_in (range 0 4096 x)) (log.leaves (image.bytes Log) (image.torn Log) before).0 ∙ none_in_begun))
    header_outcome image is lucky keys (Kept old rest before same t) = inr (whole image is (kept_log (image.bytes Log) old same (log.leaves old rest before).0) keys)
    header_outcome image is lucky keys (Torn any old rest size before same t) = inl (inr (torn_first image rest lucky t))

    header_attempt : P now
    header_attempt = λ image is lucky keys. header_outcome image is lucky keys (is.left Log)

  header_synced : P (m_header header spaces es)
  header_synced = λ image is lucky keys.
      let log = log_at_header header spaces es in
      let double = double_at_header header spaces es in
      inr (empty_recovers header spaces w are image (log.leaves (image.bytes Log) (image.torn Log) (is.left Log)).0 (double.leaves (image.bytes Double) (image.torn Double) (is.left Double)).0
      (image_spaces spaces (m_header header spaces es) image (λ id. is.left (Space id)) (spaces_at_header header spaces es differ)) keys)

  -- each part
  in_files : AtEach P (files_begun header spaces) es
  in_files = (at_first, tt, each_beside Log (log_zeros header spaces es) P (unformatted (log_zeros header spaces es) none_in_zeros) (Make Double (64 * 16896) ∷ spaces_begun spaces) (Make Log ((3 + header.blocks) * 4096) ∷ es) (log_in_files header spaces es) (log_first header spaces es))

  in_pages : AtEach P (first_pages_written spaces) (m_files header spaces es)
  in_pages = each_beside Log (log_zeros header spaces es) P (unformatted (log_zeros header spaces es) none_in_zeros) (first_pages_written spaces) (m_files header spaces es) (log_in_pages header spaces es) (log_files header spaces es)

  in_check : AtEach P check_written (m_pages header spaces es)
  in_check =
      let was = log_at_pages header spaces es in (
        unformatted (log_zeros header spaces es) none_in_zeros (m_pages header spaces es) was,
        (λ other long. check_attempt (m_pages header spaces es) other was),
        (check_attempt (m_pages header spaces es) (check_bytes 1 2) was, tt, unformatted (log_begun header.blocks) none_in_begun (m_check header spaces es) (log_at_check header spaces es)),
      )

  in_header : AtEach P (header_written header) (m_check header spaces es)
  in_header =
      let log = log_at_check header spaces es in
      let attempt = header_attempt (m_check header spaces es) log (double_at_check header spaces es) (spaces_at_check header spaces es differ) in
      (unformatted (log_begun header.blocks) none_in_begun (m_check header spaces es) log, (λ other long. attempt other), (attempt (header_bytes header), tt, header_synced))

  -- At each moment an image has no header, or it recovers the empty store.
  pub images_of_creation : AtEach (LeaveNoneOrEmpty spaces) (creation header spaces) es
  images_of_creation =
      each_append P (files_begun header spaces) (first_pages_written spaces ++ (check_written ++ header_written header)) es in_files
      (each_append P (first_pages_written spaces) (check_written ++ header_written header) (m_files header spaces es) in_pages
      (each_append P check_written (header_written header) (m_pages header spaces es) in_check in_header))

-- ---- the record of writes

-- what a creation asks of a disk: files, texts of pages 0, and blocks of the log before its ring
abbrev pub IsCreating : List SpaceInfo → Event → Type 0
IsCreating spaces (Open files ms ws) = ⊥
IsCreating spaces (Make f n) = Unit {0}
IsCreating spaces (Write Log at bytes shows) = at < 12288
IsCreating spaces (Write Double at bytes shows) = ⊥
IsCreating spaces (Write (Space s) at bytes shows) = (at ≡ 0) × (is_page_text 0 bytes ≡ true) × ((text_in bytes).lsn ≡ 8192) × IsFirstTextOf spaces s (text_in bytes)
IsCreating spaces (Sync f) = Unit {0}
IsCreating spaces (Tell m) = ⊥

-- and of one space more
creating_more : (x : SpaceInfo) (xs : List SpaceInfo) (e : Event) → IsCreating xs e → IsCreating (x ∷ xs) e
creating_more x xs (Open files ms ws) is = absurd is
creating_more x xs (Make f n) is = tt
creating_more x xs (Write Log at bytes shows) is = is
creating_more x xs (Write Double at bytes shows) is = absurd is
creating_more x xs (Write (Space s) at bytes shows) (here, is, lsn, first) = (here, is, lsn, inr first)
creating_more x xs (Sync f) is = tt
creating_more x xs (Tell m) is = absurd is

all_more : (x : SpaceInfo) (xs : List SpaceInfo) (es : List Event) → AllAre (IsCreating xs) es → AllAre (IsCreating (x ∷ xs)) es
all_more x xs [] all = tt
all_more x xs (e ∷ es) all = (creating_more x xs e all.0, all_more x xs es all.1)

first_item : (s at : ℕ) (bytes : List ℕ) → at ≡ 0 → is_page_text 0 bytes ≡ true → written_item (Space s) at bytes ≡ PageText s 0 (text_in bytes) ∷ []
first_item s at bytes here is =
    ap (λ (n : ℕ). written_item (Space s) n bytes) here ∙ cond-true (is_page_text 0 bytes) (PageText s 0 (text_in bytes) ∷ []) [] is

no_item : (at : ℕ) (bytes : List ℕ) → at < 12288 → written_item Log at bytes ≡ []
no_item at bytes below =
    let low : nat_le 12288 at ≡ false = grind (arith, nat_tests) in
    ap (λ (b : Bool). if b && is_ring_block (number_of bytes) bytes then RingBlock (number_of bytes) (block_version bytes) bytes ∷ [] else []) low

module _ (spaces : List SpaceInfo) (s : List Event) where
  one_written : (e : Event) (m : List Event) → IsCreating spaces e → WritesFirstPages spaces s m → WritesFirstPages spaces s (e ∷ m)
  one_written (Open files ms ws) m none was = absurd none
  one_written (Make f n) m is was = record { told = was.told; items = was.items; is = was.is; first = was.first }
  one_written (Sync f) m is was = record { told = was.told; items = was.items; is = was.is; first = was.first }
  one_written (Tell mark) m none was = absurd none
  one_written (Write Double at bytes shows) m none was = absurd none
  one_written (Write Log at bytes shows) m below was = record {
    told = was.told;
    items = was.items;
    is = ap (λ (l : List Item). l ++ written_items (record_of m)) (no_item at bytes below) ∙ was.is;
    first = was.first;
  }
  one_written (Write (Space z) at bytes shows) m (here, is, lsn, of) was = record {
    told = was.told;
    items = PageText z 0 (text_in bytes) ∷ was.items;
    is = ap (λ (l : List Item). l ++ written_items (record_of m)) (first_item z at bytes here is) ∙ ap (λ (l : List Item). PageText z 0 (text_in bytes) ∷ l) was.is;
    first = ((refl, lsn, of), was.first);
  }

  attempt_written : (e : Event) (m : List Event) → IsCreating spaces e → WritesFirstPages spaces s m → AtAttempt (WritesFirstPages spaces s) e m
  attempt_written (Open files ms ws) m is was = tt
  attempt_written (Make f n) m is was = tt
  attempt_written (Sync f) m is was = tt
  attempt_written (Tell mark) m is was = tt
  attempt_written (Write Double at bytes shows) m none was = absurd none
  attempt_written (Write Log at bytes shows) m is was = λ other long. one_written (Write Log at bytes other) m is was
  attempt_written (Write (Space z) at bytes shows) m is was = λ other long. one_written (Write (Space z) at bytes other) m is was

  each_written : (steps m : List Event) → AllAre (IsCreating spaces) steps → WritesFirstPages spaces s m → AtEach (WritesFirstPages spaces s) steps m
  each_written [] m all was = was
  each_written (e ∷ steps) m all was = (was, attempt_written e m all.0 was, each_written steps (e ∷ m) all.1 (one_written e m all.0 was))

spaces_creating : (zs ss : List SpaceInfo) (rest : List Event) → AllAre (IsCreating zs) rest → AllAre (IsCreating zs) (spaces_begun ss ++ rest)
spaces_creating zs [] rest all = all
spaces_creating zs (s ∷ ss) rest all = (tt, spaces_creating zs ss rest all)

pages_creating : (ss : List SpaceInfo) (rest : List Event) → AreMadeInfos ss → ((zs : List SpaceInfo) → AllAre (IsCreating zs) rest) → AllAre (IsCreating ss) (first_pages_written ss ++ rest)
pages_creating [] rest made all = all []
pages_creating (s ∷ ss) rest made all =
    ((refl, first_is s made.0, ap (λ (t : Text). t.lsn) (first_in s made.0), inl (refl, refl)), (tt, all_more s ss (first_pages_written ss ++ rest) (pages_creating ss rest made.1 all)))

pub record_of_creation : (header : HeldHeader) (spaces : List SpaceInfo) (es : List Event) → AreMadeInfos spaces → AtEach (WritesFirstPages spaces es) (creation header spaces) es
record_of_creation header spaces es made =
    each_written spaces es (creation header spaces) es (
      tt,
      (
        tt,
        spaces_creating spaces spaces (first_pages_written spaces ++ (check_written ++ header_written header))
            (pages_creating spaces (check_written ++ header_written header) made (λ zs. (lit< tt, (tt, (lit< tt, (tt, tt)))))),
      ),
    )
    (record { told = refl; items = []; is = refl; first = tt })

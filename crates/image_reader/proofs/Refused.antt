-- A refusal names a condition that fails: files that recover to contents are never refused.
use Rattle.std.proofs.Common.{◌≡◌, ◌≢◌, inl, inr, ℕ, zero, suc, ◌+◌, ◌*◌, ◌<◌, ◌≤◌, true, List, [], length, take, Option, refl, sym, ap, subst, ◌∙◌, arith}
use Rattle.std.proofs.lemmas.Option.{same_Some}
use Rattle.disk_model.specs.Image.{Image}
use Rattle.disk_model.specs.declared.names.FileName.TheVariants.{Log, Double, Space}
use Rattle.key_ring.specs.Ring.{RingEntry}
use Rattle.places.specs.Places.{place}
use Rattle.page_places.specs.Views.{view}
use Rattle.space_head.specs.declared.space.SpaceInfo.{SpaceInfo}
use Rattle.store_image.specs.Places.{LogView}
use Rattle.store_image.specs.View.{Text, IsChosen, block_bytes}
use Rattle.redo_text.specs.declared.change.Change.{Change}
use Rattle.store_model.specs.declared.contents.SpaceContents.{SpaceContents}
use Rattle.store_files.specs.Header.{HeldHeader, HeldSpace, are_in_order}
use Rattle.store_files.specs.Pages.{has_page}
use Rattle.store_files.proofs.ContentsOnce.{header_order}
use Rattle.store_files.proofs.RunsOnce.{log_one}
use Rattle.crash_image.specs.Recovers.{HasHeader, RecoversBy, Recovers}
use Rattle.image_log.specs.Logs.{IsLogTextFault}
use Rattle.image_log.specs.declared.fault.LogTextFault.{LogTextFault}
use Rattle.image_log.specs.declared.fault.LogTextFault.TheVariants as log
use Rattle.image_log.proofs.Entries.{fault_refuses}
use Rattle.image_pages.specs.Choosing.{page_view}
use Rattle.image_pages.proofs.Views.{chosen_over}
use Rattle.image_reader.specs.Files.{ImageFiles, image_of, space_bytes}
use Rattle.image_reader.specs.HeaderSpaces.{IsSpaceAt}
use Rattle.image_reader.specs.Homes.{AreHomesRight, HasHomeFault}
use Rattle.image_reader.specs.Lengths.{IsLengthFault}
use Rattle.image_reader.specs.PageRefusals.{IsPageRefusal, IsSpaceRefusal, IsSpacesRefusal, AtHead, AtInfo, AtPage, NoMemory}
use Rattle.image_reader.specs.Refusals.{Precedes, HasFiles, HasLog, HasStoreRun, HasHomes, HasContents, IsFirstMixedHome, HasNoContents, IsReadUnder, IsPageRight, IsHeadRight, AreRightBefore, IsHeaderFault, IsRefusalOf, log_refusal}
use Rattle.image_reader.specs.Spaces.{AllGive}
use Rattle.image_reader.specs.declared.refusal.Refusal.{Refusal}
use Rattle.image_reader.specs.declared.refusal.Refusal.TheVariants.{NoHeader, Length, NoCheckpoint, NoKey, NoChanges, OtherPages, Mixed, NotChosen, NoText, Head, Slot, LateBlock, OutOfMemory}
use Rattle.image_reader.proofs.Firsts.{long_named, run_at}
use Rattle.image_reader.proofs.HeaderSpaces.{before_in, has_named, some_named, homes_all}
use Rattle.image_reader.proofs.PageAnswers.{refused_space}
use Rattle.image_reader.proofs.RightBefore.{page_at, head_to, under_head, head_right, head_is, page_right, right_before}
use Rattle.image_reader.proofs.Recovery.{none_recovers, page_whole, slot_whole, slot_one_view, fault_whole, live_whole, live_one}
use Rattle.page_places.specs.Placed.{IsPlaced}
use Rattle.page_places.specs.Texts.{page_bytes}
use Rattle.store_image.specs.Checkpoint.{front_blocks}

module _ (image : Image) (keys : List RingEntry) (c : List SpaceContents) (last : ℕ) (r : Recovers image keys c last) where
  by_header : (header : HeldHeader) → HasHeader image header → RecoversBy image keys header r.log c
  by_header header is = subst (λ (h : HeldHeader). RecoversBy image keys h r.log c) (same_Some r.header header (sym r.is_header ∙ is)) r.by

  by_text : (header : HeldHeader) (text : LogView (List Change)) → HasLog image keys header text → RecoversBy image keys header text c
  by_text header text is =
      let by = by_header header is.files.is_header in
      subst (λ (l : LogView (List Change)). RecoversBy image keys header l c) (log_one header keys (image.bytes Log) r.log text by.reading.run is.is) by

  by_log : (header : HeldHeader) (fault : LogTextFault) → HasFiles image keys header → IsLogTextFault header keys (image.bytes Log) fault → fault ≢ log.OutOfMemory → ⊥
  by_log header fault files is some = fault_refuses header keys (image.bytes Log) fault is some r.log (by_header header files.is_header).reading.run

  by_contents : (header : HeldHeader) (text : LogView (List Change)) → HasHomes image keys header text → HasContents image keys header text c
  by_contents header text homes = let by = by_text header text homes.run.log in record { homes = homes; spaces = by.reading.spaces; pages = by.pages }

  pub never_refused : (refusal : Refusal) → IsRefusalOf image keys refusal → refusal ≢ OutOfMemory → ⊥
  never_refused NoHeader none some = let long = r.by.reading.long.log in none (omega (arith, long)) r.header r.is_header
  never_refused (Length Log) (header, is, long, lacks) some = lacks (by_header header is).reading.long.log
  never_refused (Length Double) (header, is, long, lacks) some = lacks.1 (by_header header is).reading.long.double
  never_refused (Length (Space s)) (header, is, long, lacks) some =
      let first = lacks.2 in
      first.other (ap (λ (n : ℕ). length (image.bytes (Space n))) first.id ∙ long_named image header.spaces first.named.index first.space _ (by_header header is).reading.long.spaces first.named.is)
  never_refused NoCheckpoint (header, files, fault) some = by_log header log.NoCheckpoint files fault (λ e. cc)
  never_refused (NoKey number version) (header, files, fault) some = by_log header (log.NoKey number version) files fault (λ e. cc)
  never_refused (NoChanges first at) (header, files, fault) some = by_log header (log.NoChanges first at) files fault (λ e. cc)
  never_refused (OtherPages first) (header, text, is, f) some = f.other (run_at header.spaces text.run f.index f.entry _ (by_text header text is).reading.of_store f.is)
  never_refused (Mixed s p) (header, text, is, f) some = f.other ((by_text header text is.log).reading.placed s p f.has)
  never_refused (NotChosen s p) (header, text, f) some = f.none.none c (by_contents header text f.none.homes)
  never_refused (NoText s p fault) (header, text, f) some = f.none.none c (by_contents header text f.none.homes)
  never_refused (Head s) (header, text, f) some = f.none.none c (by_contents header text f.none.homes)
  never_refused (Slot s p i) (header, text, f) some = f.none.none c (by_contents header text f.none.homes)
  never_refused (LateBlock i number) (header, text, found, has, late) some = (by_text header text has.homes.run.log).reading.clear i number late.within late.least late.is
  never_refused OutOfMemory u some = some refl

-- ---- the refusal of each step

module _ (image : Image) (keys : List RingEntry) where
  pub header_refused : (refusal : Refusal) → IsHeaderFault image refusal → IsRefusalOf image keys refusal
  header_refused NoHeader none = none
  header_refused (Length f) is = absurd is
  header_refused NoCheckpoint is = absurd is
  header_refused (NoKey number version) is = absurd is
  header_refused (NoChanges first at) is = absurd is
  header_refused (OtherPages first) is = absurd is
  header_refused (Mixed s p) is = absurd is
  header_refused (NotChosen s p) is = absurd is
  header_refused (NoText s p fault) is = absurd is
  header_refused (Head s) is = absurd is
  header_refused (Slot s p i) is = absurd is
  header_refused (LateBlock i number) is = absurd is
  header_refused OutOfMemory is = tt

  pub length_refused : (header : HeldHeader) → HasHeader image header → front_blocks * block_bytes ≤ length (image.bytes Log) → (refusal : Refusal) → IsLengthFault image header refusal → IsRefusalOf image keys refusal
  length_refused header is long (Length f) lacks = (header, is, long, lacks)
  length_refused header is long NoHeader lacks = absurd lacks
  length_refused header is long NoCheckpoint lacks = absurd lacks
  length_refused header is long (NoKey number version) lacks = absurd lacks
  length_refused header is long (NoChanges first at) lacks = absurd lacks
  length_refused header is long (OtherPages first) lacks = absurd lacks
  length_refused header is long (Mixed s p) lacks = absurd lacks
  length_refused header is long (NotChosen s p) lacks = absurd lacks
  length_refused header is long (NoText s p fault) lacks = absurd lacks
  length_refused header is long (Head s) lacks = absurd lacks
  length_refused header is long (Slot s p i) lacks = absurd lacks
  length_refused header is long (LateBlock i number) lacks = absurd lacks
  length_refused header is long OutOfMemory lacks = absurd lacks

  pub log_refused : (header : HeldHeader) → HasFiles image keys header → (fault : LogTextFault) → IsLogTextFault header keys (image.bytes Log) fault → IsRefusalOf image keys (log_refusal fault)
  log_refused header is log.NoCheckpoint fault = (header, is, fault)
  log_refused header is (log.NoKey number version) fault = (header, is, fault)
  log_refused header is (log.NoChanges first at) fault = (header, is, fault)
  log_refused header is log.OutOfMemory fault = tt

module _ (files : ImageFiles) (keys : List RingEntry) (header : HeldHeader) (text : LogView (List Change)) (run : HasStoreRun (image_of files) keys header text) where
  order : are_in_order 0 header.spaces ≡ true
  order = header_order (place block_bytes 0 files.log) header run.log.files.is_header

  -- a fact of a page is one of the page that a refusal names
  moved : (P : ℕ → ℕ → Type 0) (s p z q : ℕ) → z ≡ s → q ≡ p → P s p → P z q
  moved P s p z q zs qp fact = subst (λ (n : ℕ). P n q) (sym zs) (subst (λ (n : ℕ). P s n) (sym qp) fact)

  pub home_refused : (refusal : Refusal) → HasHomeFault files header.spaces refusal → IsRefusalOf (image_of files) keys refusal
  home_refused refusal f = subst (λ (r : Refusal). IsRefusalOf (image_of files) keys r) (sym f.fault.is) (header, text, run, first)
    where
      before : (z q : ℕ) → has_page header.spaces z q ≡ true → Precedes z q f.space.space f.fault.page → IsPlaced q (place page_bytes q (space_bytes files.spaces z))
      before z q has (inl lt) = homes_all files (take f.named.index header.spaces) f.before z q (before_in 0 header.spaces f.named.index f.space _ z q order f.named.is lt has)
      before z q has (inr (same, lt)) = subst (λ (s : ℕ). IsPlaced q (place page_bytes q (space_bytes files.spaces s))) (sym same) (f.fault.before q lt)

      first : IsFirstMixedHome (image_of files) keys header f.space.space f.fault.page
      first = record { has = has_named header.spaces f.space f.fault.page order f.named f.fault.within; before = before; other = f.fault.other }

  pub homes_of : AreHomesRight files header.spaces → HasHomes (image_of files) keys header text
  homes_of are = record { run = run; placed = λ s p has. homes_all files header.spaces are s p has }

module _ (files : ImageFiles) (keys : List RingEntry) (header : HeldHeader) (text : LogView (List Change)) (homes : HasHomes (image_of files) keys header text) where
  head_memory : (s : ℕ) → Head s ≡ OutOfMemory → ⊥
  head_memory s e = cc

  abbrev image : Image
  image = image_of files

  ordered : are_in_order 0 header.spaces ≡ true
  ordered = order files keys header text homes.run

  module _ (h : HeldSpace) (named : IsSpaceAt header.spaces h) where
    abbrev bytes : List ℕ
    bytes = space_bytes files.spaces h.space

    page_refused : (p : ℕ) (salt : List ℕ) → IsReadUnder image keys header text h.space p salt → AreRightBefore image keys header text h.space p → (r : Refusal) → (r ≢ OutOfMemory → HasNoContents image keys header text) → IsPageRefusal header keys text (place page_bytes p bytes) files.double salt h.space p r → IsRefusalOf image keys r
    page_refused p salt under before (NotChosen z q) none (zs, qp, is) =
        moved files keys header text homes.run (λ s p. IsRefusalOf image keys (NotChosen s p)) h.space p z q zs qp (
          header,
          text,
          record {
            none = none (λ e. cc);
            before = before;
            page = under.page;
            nothing = λ o chosen. is (λ _. salt) refl o (chosen_over (view text image) (page_view text (place page_bytes p bytes) files.double) h.space p refl (λ i. refl) o chosen);
          },
        )
    page_refused p salt under before (NoText z q fault) none (zs, qp, is) =
        moved files keys header text homes.run (λ s p. IsRefusalOf image keys (NoText s p fault)) h.space p z q zs qp
        (header, text, record { none = none (λ e. cc); before = before; salt = salt; under = under; is = λ salts same. fault_whole header keys text files salts h.space p fault (is salts same) })
    page_refused p salt under before (Slot z q i) none (zs, qp, x, is, agree, other) =
        moved files keys header text homes.run (λ s p. IsRefusalOf image keys (Slot s p i)) h.space p z q zs qp (
          header,
          text,
          record {
            none = none (λ e. cc);
            before = before;
            salt = salt;
            under = under;
            holds = x;
            to = record {
              is = λ salts same. page_whole header keys text files salts h.space p (λ z q. x) x refl (is salts same);
              slots = λ j u lt at salts same. slot_whole header keys text files salts h.space p (λ z q. x) x refl u (agree j lt salts same u (live_one header keys text files salts h.space p j u at));
            };
            other = other.0;
            live = live_whole header keys text files (λ _. salt) h.space p i other.0 other.1;
            differs = λ salts same r. other.2 salts same (λ z q. x) refl (slot_one_view header keys text files salts h.space p (λ z q. x) x refl other.0 r);
          },
        )
    page_refused p salt under before OutOfMemory none is = tt
    page_refused p salt under before NoHeader none is = absurd is
    page_refused p salt under before (Length f) none is = absurd is
    page_refused p salt under before NoCheckpoint none is = absurd is
    page_refused p salt under before (NoKey n v) none is = absurd is
    page_refused p salt under before (NoChanges first at) none is = absurd is
    page_refused p salt under before (OtherPages first) none is = absurd is
    page_refused p salt under before (Mixed z q) none is = absurd is
    page_refused p salt under before (Head z) none is = absurd is
    page_refused p salt under before (LateBlock i n) none is = absurd is

    module _ (held : List SpaceContents) (all : AllGive header keys text files (take named.index header.spaces) held) where
      before : (p : ℕ) → ((q : ℕ) → q < p → IsPageRight image keys header text h.space q) → (0 < p → IsHeadRight image keys header text h.space) → AreRightBefore image keys header text h.space p
      before p pages head = right_before files keys header text ordered h named held all p pages head

      -- no page comes before page 0 in its space
      before_head : AreRightBefore image keys header text h.space 0
      before_head = before 0 (λ q lt. absurd (omega (arith, lt))) (λ lt. absurd (omega (arith, lt)))

      pub space_refused : (r : Refusal) → 0 < h.pages → (r ≢ OutOfMemory → HasNoContents image keys header text) → IsSpaceRefusal header keys text bytes files.double h r → IsRefusalOf image keys r
      space_refused r some none (AtHead is) = page_refused 0 [] (record { page = page_at files keys header text h named 0 some; salted = λ other. absurd (other refl) }) before_head r none (is header keys [])
      space_refused r some none (AtInfo info holds other is) =
          subst (λ (x : Refusal). IsRefusalOf image keys x) (sym is)
          (header, text, record { none = none (λ e. head_memory h.space (sym is ∙ e)); before = before_head; space = h; named = named; id = refl; info = info; head = head_to files keys header text h named info some holds; other = other })
      space_refused r some none (AtPage info holds is refused) =
          page_refused refused.page info.salt (under_head files keys header text h named info some holds refused.page refused.within)
          (before refused.page own (λ lt. head_is files keys header text h named info some holds is)) r none refused.is
        where
          own : (q : ℕ) → q < refused.page → IsPageRight image keys header text h.space q
          own zero lt = head_right files keys header text h named info some holds
          own (suc i) lt = let long = refused.long in let within = refused.within in page_right files keys header text h named info some holds i refused.held (omega (arith, lt, long)) (omega (arith, lt, within)) refused.before
      space_refused r some none (NoMemory is) = subst (λ (x : Refusal). IsRefusalOf image keys x) (sym is) tt

  pub contents_refused : (r : Refusal) → IsSpacesRefusal header keys text files header.spaces r → IsRefusalOf image keys r
  contents_refused r refused =
      let h = refused.space in
      let some = some_named 0 header.spaces refused.named.index h _ ordered refused.named.is in
      let bytes = space_bytes files.spaces h.space in
      let none : r ≢ OutOfMemory → HasNoContents image keys header text = λ mem. record {
        homes = homes;
        none = λ c by. none_recovers header keys text files c by.pages ordered by.spaces h refused.named (refused_space header keys text bytes files.double h r mem some refused.is);
      } in
      space_refused h refused.named refused.held refused.before r some none refused.is

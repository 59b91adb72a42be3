-- Each lucky image of a moment of a session stands for a beginning of the journal, and agrees with what was written.
use Rattle.std.proofs.Common.{◌≡◌, ℕ, ◌+◌, ◌-◌, ◌*◌, ◌<◌, ◌≤◌, Bool, true, false, nat_le, if◌then◌else◌, List, [], ◌∷◌, ◌++◌, take, length, Some, refl, sym, ap, subst, ◌∙◌, arith, inl, inr, ◌⊎◌, ⊎_elim}
use Rattle.std.specs.Prelude.{Contains}
use Rattle.std.proofs.lemmas.List.{take-append-le}
use Rattle.std.proofs.lemmas.Bool.{cases_lt, cond-false}
use Rattle.std.proofs.lemmas.Bool.Decides.{nat_tests}
use Rattle.std.proofs.lemmas.Option.{same_Some}
use Rattle.disk_model.specs.Event.{Event, record_of}
use Rattle.disk_model.specs.Image.{Image, IsImage}
use Rattle.disk_model.specs.Marks.{acked}
use Rattle.disk_model.specs.declared.names.FileName.TheVariants.{Log, Double, Space}
use Rattle.places.specs.Places.{place, May}
use Rattle.places.proofs.Left.{image_size}
use Rattle.page_places.specs.Texts.{slots, pages}
use Rattle.page_places.specs.Views.{view}
use Rattle.page_places.proofs.Placed.{placed_image}
use Rattle.page_places.proofs.Stages.{session_image}
use Rattle.page_places.proofs.Views.{is_view}
use Rattle.ring_log.specs.Ring.{Form, IsForm, RingState, RingAt, RingStands, HasNoBlockFrom}
use Rattle.ring_log.proofs.Entries.{number_up}
use Rattle.ring_log.proofs.Images.{lucky_ring}
use Rattle.ring_log.proofs.SessionLog.{session_log}
use Rattle.ring_log.proofs.Standing.{place_or_torn, stands}
use Rattle.redo_text.specs.declared.change.Change.{Change}
use Rattle.redo_text.specs.Reading.{block_version}
use Rattle.store_image.specs.Checkpoint.{side_of}
use Rattle.store_image.specs.LifeStages.{Failed, InSession, IsImageOf}
use Rattle.store_image.specs.Places.{LogView, IsViewOf}
use Rattle.store_image.specs.Record.{Item, ItemsSettled}
use Rattle.store_image.specs.Recovers.{Theory, PageContents, ViewRecovers, ViewStands, HasKeys, count_to, fold_pages}
use Rattle.store_image.specs.Session.{Session, IsLogOfSession, journal_to}
use Rattle.store_image.specs.View.{Logged, View}
use Rattle.store_image.proofs.LifeMoments.{moment_settled}
use Rattle.store_image.proofs.RecoversOnce.{settled_one}
use Rattle.store_image.proofs.SessionToRecord.{image_of_session}
use Rattle.store_model.specs.Fold.{fold}
use Rattle.store_model.specs.declared.contents.SpaceContents.{SpaceContents}
use Rattle.store_files.specs.Header.{HeldHeader, header_in}
use Rattle.store_files.specs.Pages.{pages_of, salts_of}
use Rattle.store_files.specs.RingBlock.{is_ring_block}
use Rattle.store_files.specs.Run.{block_at}
use Rattle.store_files.proofs.CheckpointBounds.{from_bounds}
use Rattle.store_files.proofs.ContentsOnce.{header_order}
use Rattle.store_files.proofs.Folds.{spaces_folded, salts_folded}
use Rattle.store_files.proofs.HeaderBounds.{header_blocks}
use Rattle.store_files.proofs.RunsOnce.{log_one}
use Rattle.crash_image.specs.Recovers.{HasHeader, Reading, RunIsOfStore, RecoversBy, Recovers}
use Rattle.crash_image.specs.Stands.{Lucky, Named, OfChosen, OfSlot, OfBlock, OfLog, OfSpace, Rotated, Stands, place_test, mtrs_of}
use Rattle.crash_image.specs.StoreTheory.{store_theory}
use Rattle.crash_image.specs.Writes.{Once, Settled, written_items}
use Rattle.crash_image.proofs.LivesOverBytes.{written_once}
use Rattle.crash_image.proofs.LogForms.{is_form, log_is, clear_is, valid_in}
use Rattle.crash_image.proofs.RecoversOnce.{recovers_one}
use Rattle.crash_image.proofs.StandsBy.{stands_by, recovers_same, folded}
use Rattle.session_image.specs.Kept.{SessionStore, page_count, named_keys, IsActiveNamed, session_theory, session_form, session_places, SessionMoment, SessionRecord, AllImagesStand, AllImagesSettled}
use Rattle.session_image.proofs.KeyLaws.{key_named}
use Rattle.session_image.proofs.StoreRuns.{run_front, run_behind, spaces_long}

module _ (store : SessionStore) where
  abbrev T : Theory
  T = session_theory store

  abbrev N : ℕ
  N = store.header.blocks

  abbrev F : Form (List Change)
  F = session_form store

  laws : IsForm F
  laws = is_form store.header store.book

  module _ (w : Session T) (r : RingState) (es : List Event) (moment : SessionMoment store w r es) (image : Image) (is : IsImage es image) (lucky : Lucky image) where
    abbrev file : List ℕ
    file = image.bytes Log

    ring : RingStands N F r w.start w.journal w.next file
    ring = stands N F laws r w.start w.next w.journal es moment.ringed moment.journal place_test (λ bytes passes. passes) image is lucky

    abbrev log : LogView (List Change)
    log = ring.log

    abbrev v : View (List Change)
    v = view log image

    known : IsLogOfSession T w log
    known = session_log T N F r w log moment.keeps.ground.journal moment.settled moment.known moment.newer ring.run

    both : ViewStands T w.base w.journal v × HasKeys T w.keys v
    both = session_image T (IsLogOfSession T w) log (page_count store.header.spaces) es moment.files.double.whole moment.files.whole place_test (λ bytes. refl) (λ s bytes. refl) image is lucky known w moment.keeps

    view_stands : ViewStands T (pages_of store.base) w.journal v
    view_stands = subst (λ (c : PageContents T). ViewStands T c w.journal v) moment.base both.0

    view_keys : HasKeys T (named_keys store.header.spaces store.named) v
    view_keys = subst (λ (k : ℕ → ℕ → Bool). HasKeys T k v) moment.keys both.1

    -- ---- what the files say

    is_header : HasHeader image store.header
    is_header = ap header_in ring.header ∙ moment.header

    low : 2 ≤ log.end
    low =
        let from = (from_bounds (side_of ring.is.sequence) (place 4096 (side_of ring.is.sequence) file) (record { sequence = ring.is.sequence; from = log.from }) ring.is.check).0 in
        let up = number_up N F (block_at N file) log.from log.end log.run ring.is.run in
        omega (arith, from, up)

    high : log.end ≤ w.next
    high = let within = ring.run.within in let written = moment.journal.written in omega arith

    reading : Reading image store.book store.header log store.base
    reading = record {
      long = record {
        log = ring.size;
        double = image_size Double slots es moment.files.double (image.bytes Double) (image.torn Double) (is.left Double);
        spaces = spaces_long image 0 store.header.spaces (header_order (place 4096 0 file) store.header is_header)
            (λ s there. image_size (Space s) (pages (page_count store.header.spaces s)) es (moment.files.spaces s there) (image.bytes (Space s)) (image.torn (Space s)) (is.left (Space s)));
      };
      run = let bounds = (header_blocks (place 4096 0 file) store.header is_header).0 in log_is store.header store.book file (omega (arith, bounds)) log ring.is;
      of_store = run_front store.header.spaces log.run ring.run.behind
          (run_behind store.header.spaces ring.run.before (log.run ++ ring.run.behind) (subst (RunIsOfStore store.header.spaces) ring.run.parts moment.of_store));
      placed = λ s p there. placed_image s p (page_count store.header.spaces s) es (moment.files.whole s) place_test (λ bytes. refl) image is lucky (moment.files.placed s p there);
      spaces = moment.have;
      clear = clear_is store.header store.book file log.end ring.clear;
    }

    -- ---- the keys of the run

    at : RingAt N F r (λ i x. x ≡ Some (place 4096 i file))
    at = lucky_ring N F laws r (λ i x. May Log 4096 i es x) (λ i. place 4096 i file) moment.ringed.at (place_or_torn N F laws es moment.ringed.places place_test (λ bytes passes. passes) image is lucky)

    from_up : r.from ≤ log.from
    from_up = by ring.run.known
      where
        by : (log.from ≡ r.from) ⊎ (r.newer ≡ Some log.from) → r.from ≤ log.from
        by (inl same) = omega (arith, same)
        by (inr newer) = (at.is.later log.from newer).0

    -- each block of the run is that of the ring
    in_ring : (n : ℕ) → r.from ≤ n → n < log.end → is_ring_block n (block_at N file n) ≡ true → block_at N file n ≡ r.block n
    in_ring n from below valid = ⊎_elim
        (λ (front : n < r.settled). same_Some _ _ (at.front n (Some (block_at N file n)) from front refl))
        (λ (behind : r.settled ≤ n). by (at.rest n (Some (block_at N file n)) behind (let within = ring.run.within in let room = at.is.room in omega (arith, below, within, room)) refl))
        (cases_lt n r.settled)
      where
        by : ((n < r.written) × (block_at N file n ≡ r.block n)) ⊎ HasNoBlockFrom N F n (block_at N file n) → block_at N file n ≡ r.block n
        by (inl block) = block.1
        by (inr none) = absurd (none n (omega arith) valid)

    -- ---- what it recovers to

    abbrev front : List (Logged (List Change))
    front = take (count_to (log.end * 4096) w.journal) w.journal

    abbrev contents : List SpaceContents
    contents = fold (mtrs_of front) store.base

    salts : salts_of store.base ≡ salts_of contents
    salts = λ i s. sym (salts_folded (mtrs_of front) store.base s) i

    recovers : Recovers image store.book contents (log.end - 1)
    recovers = record {
      header = store.header;
      is_header = is_header;
      log = log;
      is_last = let two = low in omega (arith, two);
      by = record {
        reading = record {
          long = reading.long;
          run = reading.run;
          of_store = reading.of_store;
          placed = reading.placed;
          spaces = spaces_folded (mtrs_of front) store.header.spaces store.base moment.have;
          clear = reading.clear;
        };
        pages = subst (λ (f : ℕ → List ℕ). ViewRecovers (store_theory store.header store.book f) v (pages_of contents)) salts
            (recovers_same T v (fold_pages T front (pages_of store.base)) (pages_of contents) (λ s p there. folded store.header store.book (salts_of store.base) front store.base moment.have (pages_of store.base) (λ t q has. refl) s p there) view_stands.recovers);
      };
    }

    -- whatever it is known to recover to, under this header and with this log
    module _ (c : List SpaceContents) (last : ℕ) (q : Recovers image store.book c last) where
      header_one : q.header ≡ store.header
      header_one = same_Some _ _ (sym q.is_header ∙ is_header)

      by_header : RecoversBy image store.book store.header q.log c
      by_header = subst (λ (h : HeldHeader). RecoversBy image store.book h q.log c) header_one q.by

      log_is_one : q.log ≡ log
      log_is_one = log_one store.header store.book file q.log log by_header.reading.run reading.run

      by_log : RecoversBy image store.book store.header log c
      by_log = subst (λ (l : LogView (List Change)). RecoversBy image store.book store.header l c) log_is_one by_header

      last_one : last + 1 ≡ log.end
      last_one = q.is_last ∙ ap (λ (l : LogView (List Change)). l.end) log_is_one

      salts_one : salts_of store.base ≡ salts_of c
      salts_one = salts ∙ ap salts_of (sym (recovers_one image store.book c contents last (log.end - 1) q recovers).0)

      pages_one : ViewRecovers T v (pages_of c)
      pages_one = subst (λ (f : ℕ → List ℕ). ViewRecovers (store_theory store.header store.book f) v (pages_of c)) (sym salts_one) by_log.pages

      -- the record agrees with it
      agrees : (n : ℕ) → SessionRecord store (record w { written = n }) es → Settled (record_of es) image q.header store.book q.log c
      agrees n m =
          let now : Session T = record w { written = n } in
          let items : List Item = written_items (record_of es) in
          let told : IsLogOfSession T now log = record { known = known.known; settles = known.settles; within = known.within; whole = known.whole; run = known.run } in
          let here : IsViewOf (session_places store now es) v = is_view (IsLogOfSession T now) log (page_count store.header.spaces) es moment.files.double.whole moment.files.whole place_test (λ bytes. refl) (λ s bytes. refl) image is lucky told in
          let old : IsViewOf (session_places store w es) v = record { home = here.home; slot = here.slot; log = known; told = here.told } in
          let of : IsImageOf T w v (fold_pages T (journal_to T v.end w) w.base) = image_of_session T N w (session_places store w es) moment.keeps v old in
          let image_now : IsImageOf T now v (fold_pages T (journal_to T v.end w) w.base) = record { settles = of.settles; before = of.before; run_is = of.run_is; contents = of.contents } in
          let settled : ItemsSettled T N items v (fold_pages T (journal_to T v.end w) w.base) = moment_settled T N items (session_places store now es) (Failed (InSession now)) m v (fold_pages T (journal_to T v.end w) w.base) here image_now in
          let one : ItemsSettled T N items v (pages_of c) = settled_one T N items v (fold_pages T (journal_to T v.end w) w.base) (pages_of c) m.there both.0.recovers pages_one settled in
          let salted : Settled (record_of es) image store.header store.book log c = subst (λ (f : ℕ → List ℕ). ItemsSettled (store_theory store.header store.book f) N items v (pages_of c)) salts_one one in
          subst (λ (h : HeldHeader). Settled (record_of es) image h store.book q.log c) (sym header_one) (subst (λ (l : LogView (List Change)). Settled (record_of es) image store.header store.book l c) (sym log_is_one) salted)

    -- ---- the keys that it needs

    keyed : (active : ℕ) → IsActiveNamed store.header store.named active → (id version : ℕ) → Named image store.header log active id version → Contains store.named (id, version)
    keyed active named id version (OfChosen s p t there chosen some same_id same) = subst (Contains store.named) (λ i. (sym same_id i, sym same i)) (key_named store.header.spaces store.named s t.version some (view_keys.homes s p t there chosen))
    keyed active named id version (OfSlot s p i t there live some same_id same) = subst (Contains store.named) (λ j. (sym same_id j, sym same j)) (key_named store.header.spaces store.named s t.version some (view_keys.slots s p i t there live))
    keyed active named id version (OfBlock n from below same_id same) =
        let up = from_up in
        let low_enough : r.from ≤ n = omega (arith, from, up) in
        let within = high in
        let block : block_at N file n ≡ r.block n = in_ring n low_enough below (valid_in store.header store.book file log.from log.run log.end reading.run.entries n from below) in
        subst (Contains store.named) (λ i. (sym same_id i, (ap block_version (sym block) ∙ sym same) i)) (moment.versions n low_enough (omega (arith, below, within)))
    keyed active named id version (OfLog same_id same) = subst (Contains store.named) (λ i. (sym same_id i, sym same i)) named.log
    keyed active named id version (OfSpace s there same_id same) = subst (Contains store.named) (λ i. (sym same_id i, sym same i)) (named.spaces s there)

  -- Each lucky image of a moment stands for a beginning of the journal.
  pub session_stands : (w : Session T) (r : RingState) (es : List Event) → SessionMoment store w r es → AllImagesStand store w.journal w.next es
  session_stands w r es moment image is lucky active named =
      let two = low w r es moment image is lucky in
      let within = high w r es moment image is lucky in
      let s : Stands store.base w.journal image store.book store.named active = stands_by image store.book store.header (log w r es moment image is lucky) store.base w.journal store.named active ((log w r es moment image is lucky).end - 1) (omega (arith, two))
      (is_header w r es moment image is lucky) (reading w r es moment image is lucky) (view_stands w r es moment image is lucky) (keyed w r es moment image is lucky active named) in
      (s, let last = last_one w r es moment image is lucky _ s.last s.recovers in omega (arith, last, within))

  -- And whatever it recovers to, it agrees with what was written.
  pub session_settled : (w : Session T) (r : RingState) (es : List Event) → SessionMoment store w r es → (n : ℕ) → SessionRecord store (record w { written = n }) es → AllImagesSettled store es
  session_settled w r es moment n m image is lucky c last q = agrees w r es moment image is lucky c last q n m

  -- No number served two texts.
  pub session_once : (w : Session T) (es : List Event) → SessionRecord store w es → Once store.header store.book (salts_of store.base) (record_of es)
  session_once w es m = written_once store.header store.book (salts_of store.base) (IsLogOfSession T w) es (Failed (InSession w)) m

  -- ---- a journal that grows

  count_less : (lsn : ℕ) (journal : List (Logged (List Change))) (e : Logged (List Change)) → lsn < e.lsn → count_to lsn (journal ++ e ∷ []) ≡ count_to lsn journal
  count_less lsn [] e below = let above : nat_le e.lsn lsn ≡ false = grind (arith, nat_tests, below) in cond-false (nat_le e.lsn lsn) (1 + 0) 0 above
  count_less lsn (d ∷ journal) e below = ap (λ (n : ℕ). if nat_le d.lsn lsn then 1 + n else 0) (count_less lsn journal e below)

  count_within : (lsn : ℕ) (journal : List (Logged (List Change))) → count_to lsn journal ≤ length journal
  count_within lsn [] = omega arith
  count_within lsn (d ∷ journal) = by (nat_le d.lsn lsn) (count_within lsn journal)
    where
      by : (b : Bool) → count_to lsn journal ≤ length journal → (if b then 1 + count_to lsn journal else 0) ≤ length (d ∷ journal)
      by true le = omega (arith, le)
      by false le = omega arith

  abbrev Standing : (base : List SpaceContents) → Image → ℕ → ℕ → List (Logged (List Change)) → Type 0
  Standing base image active last l =
      (q : Recovers image store.book (fold (mtrs_of l) base) last) × Rotated image store.book q.header q.log (fold (mtrs_of l) base)
      × ((id version : ℕ) → Named image q.header q.log active id version → Contains store.named (id, version))

  -- An image that stands for a beginning of the journal stands for one of the journal with an entry more, which comes behind its run.
  pub stands_more : (journal : List (Logged (List Change))) (next : ℕ) (es : List Event) → AllImagesStand store journal next es → (e : Logged (List Change)) → next * 4096 < e.lsn → (n : ℕ) → next ≤ n → AllImagesStand store (journal ++ e ∷ []) n es
  stands_more journal next es all e behind n up image is lucky active named =
      let (s, within) = all image is lucky active named in
      let lsn : ℕ = (s.last + 1) * 4096 in
      let count : count_to lsn (journal ++ e ∷ []) ≡ count_to lsn journal = count_less lsn journal e (omega (arith, within, behind)) in
      let le = count_within lsn journal in
      let same : take (count_to lsn journal) journal ≡ take (count_to lsn (journal ++ e ∷ [])) (journal ++ e ∷ []) =
      sym (take-append-le (count_to lsn journal) journal (e ∷ []) le) ∙ ap (λ (k : ℕ). take k (journal ++ e ∷ [])) (sym count) in
      let t : Standing store.base image active s.last (take (count_to lsn (journal ++ e ∷ [])) (journal ++ e ∷ [])) = subst (Standing store.base image active s.last) same (s.recovers, s.rotated, s.keyed) in
      (record { last = s.last; recovers = t.0; acknowledged = subst (λ (k : ℕ). acked image.told ≤ k) (sym count) s.acknowledged; rotated = t.1; keyed = t.2 }, omega (arith, within, up))

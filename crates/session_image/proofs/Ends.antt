-- After the last call of a session, with all blocks synced and the checkpoint behind them, the store is at rest with the contents after the journal: a next session can begin.
use Rattle.std.proofs.Common.{◌≡◌, ℕ, ◌+◌, ◌-◌, ◌≤◌, ⊎_elim, inl, inr, Bool, true, List, [], Some, refl, sym, ap, subst, ◌∙◌, arith}
use Rattle.std.specs.Prelude.{Contains}
use Rattle.std.proofs.lemmas.Option.{none-some, same_Some}
use Rattle.disk_model.specs.Event.{Event, reads, record_of}
use Rattle.disk_model.specs.declared.names.FileName.TheVariants.{Log, Double, Space}
use Rattle.key_ring.specs.Ring.{RingEntry}
use Rattle.places.specs.Places.{place, shown, May, Whole}
use Rattle.places.proofs.Steps.{settled_honest}
use Rattle.page_places.specs.Texts.{page_bytes, slot_size}
use Rattle.page_places.specs.Views.{view}
use Rattle.redo_text.specs.declared.change.Change.{Change}
use Rattle.ring_log.specs.Ring.{Form, IsForm, RingState, RingAt, IsOther}
use Rattle.ring_log.proofs.Images.{Found, found, lucky_ring, clear as clear_behind}
use Rattle.ring_log.proofs.Numbers.{either_side}
use Rattle.ring_log.proofs.Rests.{rest_run}
use Rattle.ring_log.proofs.SessionLog.{session_log}
use Rattle.store_image.specs.Checkpoint.{HeldCheckpoint, side_of}
use Rattle.store_image.specs.LifeStages.{InSession}
use Rattle.store_image.specs.Places.{LogView, Places, IsViewOf, log_may}
use Rattle.store_image.specs.Record.{Item, ItemsOnce, ItemsSettled}
use Rattle.store_image.specs.Recovers.{Theory, PageContents, ViewRecovers, ViewRotated, HasKeys, fold_pages}
use Rattle.store_image.specs.Session.{Session, IsLogOfSession, journal_to, now}
use Rattle.store_image.specs.SessionPhases.{Ready}
use Rattle.store_image.specs.StoreAtRest.{IsRest}
use Rattle.store_image.specs.View.{Text, View, IsLive, block_bytes}
use Rattle.store_image.proofs.LifeMoments.{moment_settled}
use Rattle.store_image.proofs.RecoversOnce.{settled_one}
use Rattle.store_image.proofs.SessionCalls.{ready_log}
use Rattle.store_image.proofs.SessionEnds.{rests_at_end}
use Rattle.store_image.proofs.SessionPuts.{ready_keeps}
use Rattle.store_image.proofs.SessionStands.{has_keys, stands}
use Rattle.store_image.proofs.SessionToRecord.{image_of_session}
use Rattle.store_model.specs.Fold.{fold}
use Rattle.store_model.specs.declared.contents.SpaceContents.{SpaceContents}
use Rattle.store_files.specs.Checkpoint.{IsNewestCheckpoint, checkpoint_in}
use Rattle.store_files.specs.Header.{header_in}
use Rattle.store_files.specs.Pages.{has_page, pages_of, salts_of}
use Rattle.store_files.specs.Run.{IsClear, IsLogOf}
use Rattle.store_files.proofs.ContentsOnce.{header_order}
use Rattle.store_files.proofs.Folds.{salts_folded, spaces_folded}
use Rattle.store_files.proofs.HeaderBounds.{header_blocks}
use Rattle.crash_image.specs.Recovers.{Reading, RunIsOfStore}
use Rattle.crash_image.specs.Rest.{read_image, IsAtRest}
use Rattle.crash_image.specs.Stands.{Named, OfChosen, OfSlot, OfBlock, OfLog, OfSpace, Rotated, mtrs_of}
use Rattle.crash_image.specs.StoreTheory.{store_theory}
use Rattle.crash_image.specs.Writes.{written_items}
use Rattle.crash_image.proofs.LivesOverBytes.{none_pending}
use Rattle.crash_image.proofs.LogForms.{is_form, log_is, clear_is}
use Rattle.crash_image.proofs.StandsBy.{recovers_same, rotated_same, folded}
use Rattle.session_image.specs.Kept.{SessionStore, SessionFiles, page_count, named_keys, IsActiveNamed, IsOfBook, IsRingNamed, session_theory, session_form, session_places, SessionReady, SessionRecordReady, BeginsSession, BeginsRecord}
use Rattle.session_image.proofs.KeyLaws.{key_named}
use Rattle.session_image.proofs.MomentSteps.{ring_low}
use Rattle.session_image.proofs.StoreRuns.{spaces_long}

module _ (store : SessionStore) where
  abbrev pub T : Theory
  T = session_theory store

  abbrev pub N : ℕ
  N = store.header.blocks

  abbrev pub F : Form (List Change)
  F = session_form store

  pub laws : IsForm F
  laws = is_form store.header store.book

  module _ (w : Session T) (r : RingState) (es : List Event) (ready : SessionReady store w r es) (settles : w.settled ≡ w.next) (moved : w.from ≡ w.next) where
    abbrev pub file : List ℕ
    file = reads Log es

    -- ---- the log as it reads

    pub at : RingAt N F r (λ i x. x ≡ Some (place block_bytes i file))
    at = lucky_ring N F laws r (λ i x. May Log block_bytes i es x) (λ i. place block_bytes i file) ready.moment.ringed.at (λ i. inl (settled_honest Log block_bytes i es (ready.ring.settled i)))

    pub here : Found N F laws r file at w.start w.next w.journal ready.moment.journal
    here = found N F laws r file at w.start w.next w.journal ready.moment.journal

    abbrev pub log : LogView (List Change)
    log = here.log

    abbrev pub v : View (List Change)
    v = view log (read_image es)

    at_next : r.written ≡ w.next
    at_next = let settled = ready.moment.settled in let all = ready.ring.all in omega (arith, settles, settled, all)

    rest_is : (log.from ≡ w.next) × (log.run ≡ [])
    rest_is = rest_run N F r w.start w.next w.journal log (sym ready.from ∙ moved) at_next ready.ring.none here.run

    pub end_is : log.end ≡ w.next
    end_is = let low = here.run.settles in let high = here.run.within in let settled = ready.moment.settled in let next = at_next in omega (arith, low, high, settled, settles, next)

    pub empty : log.run ≡ []
    empty = rest_is.1

    pub is_header : header_in (place block_bytes 0 file) ≡ Some store.header
    is_header = ap header_in (same_Some _ _ (at.header (Some (place block_bytes 0 file)) refl)) ∙ ready.moment.header

    pub run_is : IsLogOf store.header store.book file log
    run_is = let bounds = (header_blocks (place block_bytes 0 file) store.header is_header).0 in log_is store.header store.book file (omega (arith, bounds)) log here.is

    pub above : 2 ≤ w.next
    above = let low = ring_low store r es ready.moment.ringed in let from = ready.from in omega (arith, low, from, moved)

    -- its newest checkpoint is the last one that was synced
    pub sequence_is : run_is.run.sequence ≡ r.sequence
    sequence_is =
        let q : IsNewestCheckpoint file (record { sequence = run_is.run.sequence; from = log.from }) = run_is.run.newest in
        let synced : checkpoint_in (side_of r.sequence) (place block_bytes (side_of r.sequence) file) ≡ Some (record { sequence = r.sequence; from = r.from }) = at.check (Some (place block_bytes (side_of r.sequence) file)) refl in
        let low = q.newest (side_of r.sequence) (record { sequence = r.sequence; from = r.from }) synced in
        ⊎_elim
        (λ (same : side_of run_is.run.sequence ≡ side_of r.sequence).
        let there = subst (λ (i : ℕ). checkpoint_in i (place block_bytes i file) ≡ Some (record { sequence = run_is.run.sequence; from = log.from })) same q.is in
        ap (λ (c : HeldCheckpoint). c.sequence) (same_Some _ _ (sym there ∙ synced)))
        (λ (other : side_of run_is.run.sequence ≡ side_of (r.sequence + 1)).
        let there = subst (λ (i : ℕ). checkpoint_in i (place block_bytes i file) ≡ Some (record { sequence = run_is.run.sequence; from = log.from })) other q.is in
        by low there (at.other (Some (place block_bytes (side_of (r.sequence + 1)) file)) refl))
        (either_side run_is.run.sequence r.sequence)
      where
        by : r.sequence ≤ run_is.run.sequence → checkpoint_in (side_of (r.sequence + 1)) (place block_bytes (side_of (r.sequence + 1)) file) ≡ Some (record { sequence = run_is.run.sequence; from = log.from })
            → IsOther N F r (Some (place block_bytes (side_of (r.sequence + 1)) file)) → run_is.run.sequence ≡ r.sequence
        by low there (inl older) = let lt = older (record { sequence = run_is.run.sequence; from = log.from }) there in absurd (omega (arith, lt, low))
        by low there (inr (f, newer, is)) = absurd (none-some f (sym ready.ring.none ∙ newer))

    -- ---- the view of the disk as it reads

    known : IsLogOfSession T w log
    known = session_log T N F r w log ready.ready.ground.journal ready.moment.settled ready.moment.known ready.moment.newer here.run

    abbrev only : Places (List Change)
    only = log_may (λ l. l ≡ log) (session_places store w es)

    only_ready : Ready T w only
    only_ready = ready_log T w (session_places store w es) ready.ready (λ l. l ≡ log) (λ l is. subst (IsLogOfSession T w) (sym is) known)

    in_view : IsViewOf only v
    in_view = record {
      home = λ s p. Whole (shown (Space s) page_bytes p es) (settled_honest (Space s) page_bytes p es (ready.spaces s p)) refl;
      slot = λ i. Whole (shown Double slot_size i es) (settled_honest Double slot_size i es (ready.double i)) refl;
      log = refl;
      told = refl;
    }

    rests : IsRest T v (now T w)
    rests = rests_at_end T w only only_ready settles (λ l is. ap (λ (x : LogView (List Change)). x.from) is ∙ rest_is.0) v in_view

    keys : HasKeys T (named_keys store.header.spaces store.named) v
    keys = subst (λ (k : ℕ → ℕ → Bool). HasKeys T k v) ready.moment.keys (has_keys T w only (ready_keeps T w only only_ready) v in_view)

    -- ---- the contents after the journal

    abbrev pub contents : List SpaceContents
    contents = fold (mtrs_of w.journal) store.base

    abbrev pub closed : SessionStore
    closed = record store { base = contents }

    same : (s p : ℕ) → has_page store.header.spaces s p ≡ true → now T w s p ≡ pages_of contents s p
    same s p there = ap (λ (c : PageContents T). fold_pages T w.journal c s p) ready.moment.base ∙ folded store.header store.book (salts_of store.base) w.journal store.base ready.moment.have (pages_of store.base) (λ t q has. refl) s p there

    salts : salts_of store.base ≡ salts_of contents
    salts = λ i s. sym (salts_folded (mtrs_of w.journal) store.base s) i

    plain_recovers : ViewRecovers T v (pages_of contents)
    plain_recovers = recovers_same T v (now T w) (pages_of contents) same rests.recovers

    pub view_recovers : ViewRecovers (store_theory store.header store.book (salts_of contents)) v (pages_of contents)
    view_recovers = subst (λ (f : ℕ → List ℕ). ViewRecovers (store_theory store.header store.book f) v (pages_of contents)) salts plain_recovers

    pub view_rotated : Rotated (read_image es) store.book store.header log contents
    view_rotated = subst (λ (f : ℕ → List ℕ). ViewRotated (store_theory store.header store.book f) v (pages_of contents)) salts (rotated_same T v (now T w) (pages_of contents) same rests.rotated)

    pub reading : Reading (read_image es) store.book store.header log contents
    reading = record {
      long = record {
        log = ready.moment.ringed.places.size;
        double = ready.moment.files.double.size;
        spaces = spaces_long (read_image es) 0 store.header.spaces (header_order (place block_bytes 0 file) store.header is_header) (λ s there. (ready.moment.files.spaces s there).size);
      };
      run = run_is;
      of_store = subst (RunIsOfStore store.header.spaces) (sym empty) tt;
      placed = λ s p there. ready.moment.files.placed s p there (shown (Space s) page_bytes p es) (settled_honest (Space s) page_bytes p es (ready.spaces s p));
      spaces = spaces_folded (mtrs_of w.journal) store.header.spaces store.base ready.moment.have;
      clear = clear_is store.header store.book file log.end (clear_behind N F laws r file at log.end here.run.settles);
    }

    pub none_left : (s p i : ℕ) (t : Text) → has_page store.header.spaces s p ≡ true → IsLive v s p i t → ⊥
    none_left s p i t there live = rests.none_live s p i t there live

    -- ---- the store at rest

    module _ (clear : IsClear N file w.next) where
      abbrev pub ended_rests : IsAtRest es store.book contents w.next
      ended_rests = record {
        settled = none_pending N (page_count store.header.spaces) es ready.moment.ringed.places.whole ready.moment.files.double.whole ready.moment.files.whole ready.ring.settled ready.double ready.spaces;
        last = w.next - 1;
        is_next = omega (arith, above);
        recovers = record {
          header = store.header;
          is_header = is_header;
          log = log;
          is_last = omega (arith, above, end_is);
          by = record {
            reading = record {
              long = reading.long;
              run = run_is;
              of_store = reading.of_store;
              placed = reading.placed;
              spaces = reading.spaces;
              clear = reading.clear;
            };
            pages = view_recovers;
          };
        };
        empty = empty;
        none_live = none_left;
        clear = clear;
      }

      pub closed_files : SessionFiles closed es
      closed_files = record { double = ready.moment.files.double; spaces = ready.moment.files.spaces; whole = ready.moment.files.whole; placed = ready.moment.files.placed }

      pub keyed : (active : ℕ) → IsActiveNamed store.header store.named active → (id version : ℕ) → Named (read_image es) store.header log active id version → Contains store.named (id, version)
      keyed active named id version (OfChosen s p t there chosen some same_id same_version) = subst (Contains store.named) (λ i. (sym same_id i, sym same_version i)) (key_named store.header.spaces store.named s t.version some (keys.homes s p t there chosen))
      keyed active named id version (OfSlot s p j t there live some same_id same_version) = subst (Contains store.named) (λ i. (sym same_id i, sym same_version i)) (key_named store.header.spaces store.named s t.version some (keys.slots s p j t there live))
      keyed active named id version (OfBlock n from below same_id same_version) = let start = rest_is.0 in let end = end_is in absurd (omega (arith, from, below, start, end))
      keyed active named id version (OfLog same_id same_version) = subst (Contains store.named) (λ i. (sym same_id i, sym same_version i)) named.log
      keyed active named id version (OfSpace s there same_id same_version) = subst (Contains store.named) (λ i. (sym same_id i, sym same_version i)) (named.spaces s there)

      -- A next session can begin, over the contents after the journal.
      abbrev pub session_ends : (ring : List RingEntry) (active : ℕ) → IsActiveNamed store.header store.named active → IsOfBook ring store.book → IsRingNamed ring store.named → BeginsSession closed ring active w.next r.sequence es
      session_ends ring active named of_book ring_named = record {
        rests = ended_rests;
        header_is = refl;
        rotated = view_rotated;
        keyed = keyed active named;
        of_book = of_book;
        ring_named = ring_named;
        newest = sequence_is;
        log = ready.moment.ringed.places;
        files = closed_files;
      }

      -- ---- the record

      module _ (kept : SessionRecordReady store w es) where
        abbrev items : List Item
        items = written_items (record_of es)

        whole_view : IsViewOf (session_places store w es) v
        whole_view = record { home = in_view.home; slot = in_view.slot; log = known; told = refl }

        abbrev reached : PageContents T
        reached = fold_pages T (journal_to T log.end w) w.base

        settled : ItemsSettled T N items v reached
        settled =
            let keeps = ready_keeps T w (session_places store w es) ready.ready in
            moment_settled T N items (session_places store w es) (InSession w) kept v reached whole_view (image_of_session T N w (session_places store w es) keeps v whole_view)

        reached_recovers : ViewRecovers T v reached
        reached_recovers = (stands T w only (ready_keeps T w only only_ready) v in_view).recovers

        -- No number of the record meets those of the next session.
        pub record_ends : BeginsRecord closed w.next es ended_rests
        record_ends = record {
          once = subst (λ (f : ℕ → List ℕ). ItemsOnce (store_theory store.header store.book f) items) salts kept.kept.once;
          settled = subst (λ (f : ℕ → List ℕ). ItemsSettled (store_theory store.header store.book f) N items v (pages_of contents)) salts
              (settled_one T N items v reached (pages_of contents) kept.there reached_recovers plain_recovers settled);
          unused = λ n version bytes among. let lt = kept.kept.blocks n version bytes among in let written = ready.written in let next = at_next in omega (arith, lt, written, next);
          there = kept.there;
        }

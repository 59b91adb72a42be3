-- A checkpoint of the log: what holds at each moment, and then.
use Rattle.std.proofs.Common.{◌≡◌, ◌≢◌, ℕ, zero, suc, ◌+◌, ◌<◌, ◌≤◌, ⊎_elim, Bool, true, false, nat_eq, nat_lt, ◌&&◌, ◌||◌, if◌then◌else◌, List, [], ◌∷◌, length, slice_index_or, Option, Some, None, refl, sym, ap, subst, ◌∙◌, arith}
use Rattle.std.specs.List.{All, list_any}
use Rattle.std.proofs.lemmas.Bool.{cases_lt, cond-true}
use Rattle.std.proofs.lemmas.Bool.Decides.{nat_tests}
use Rattle.std.proofs.lemmas.List.{get_or_past}
use Rattle.std.proofs.lemmas.Option.{none-some, same_Some}
use Rattle.counted_disk.specs.declared.counted.Counted.{Counted}
use Rattle.crash_image.specs.LogForm.{log_places}
use Rattle.disk_model.specs.Does.{Adds, Since}
use Rattle.disk_model.specs.Event.{Event, Sync}
use Rattle.disk_model.specs.Past.{Later, Past, Throughout}
use Rattle.disk_model.specs.declared.names.FileName.TheVariants.{Log}
use Rattle.page_pool.specs.Pages.{DirtyList, is_dirty, is_named}
use Rattle.page_pool.specs.declared.names.DirtyPage.{DirtyPage}
use Rattle.places.specs.Batches.{IsNext}
use Rattle.places.specs.Places.{HasPlaces}
use Rattle.places.specs.Writes.{IsPart}
use Rattle.redo_log.specs.Blocks.{Keys}
use Rattle.redo_log.specs.Events.{CheckWriting, IsCheckEvent, check_event, side_batch}
use Rattle.redo_log.specs.Log.{FitsRing, IsOpen, checked, durable}
use Rattle.redo_log.specs.Recorded.{KeepsItems}
use Rattle.redo_log.specs.State.{LogState}
use Rattle.redo_log.proofs.CheckSteps.{check_next, to_checked, to_checking}
use Rattle.redo_log.proofs.FitSteps.{moved_fits, same_next, with_checkpoint_other}
use Rattle.redo_log.proofs.RecordSteps.{check_items}
use Rattle.redo_text.specs.declared.change.Change.{Change}
use Rattle.ring_log.specs.Batches.{checking}
use Rattle.ring_log.specs.Ring.{Form, IsBound, RingReady, RingState, Ringed}
use Rattle.ring_log.proofs.Journals.{bound_end}
use Rattle.session_core.specs.Checking.{first_block, kept_from, run_begin}
use Rattle.session_core.specs.Dirty.{AreMarked, name_of_page}
use Rattle.session_core.specs.Session.{Running}
use Rattle.session_core.specs.Spaces.{HaveLists, StoreSpaces, home_in}
use Rattle.session_image.specs.Kept.{SessionReady, SessionStore, session_form, session_theory}
use Rattle.session_image.proofs.Checks.{record_checked, record_checking, session_checked, session_checking}
use Rattle.space_head.specs.declared.space.Home.{Home}
use Rattle.space_head.specs.declared.space.Home.TheVariants.{Dirty as MarkedDirty, Unused}
use Rattle.space_head.specs.declared.space.SpaceInfo.{SpaceInfo}
use Rattle.store_files.specs.Header.{HeldHeader, HeldSpace}
use Rattle.store_files.specs.Pages.{has_page}
use Rattle.store_form.specs.Rest.{homes_of}
use Rattle.store_image.specs.Session.{Dirty, Session}
use Rattle.store_image.specs.View.{block_bytes}
use Rattle.engine_core.specs.Kept.{IsReadySession, dirt_among}
use Rattle.engine_core.proofs.Ready.{IsMoment}
use Rattle.engine_core.proofs.Stretches.{part_each, settled_at, since_settled, whole_each}

-- ---- the dirty pages

-- a bound of all first blocks is one of each
pub dirt_least : (f : ℕ) (ds : List DirtyPage) → All (λ d. f ≤ d.first) ds → (s p : ℕ) (d : Dirty) → dirt_among ds s p ≡ Some d → f ≤ d.first
dirt_least f [] least s p d is = absurd (none-some d is)
dirt_least f (x ∷ ds) least s p d is = by (is_named (name_of_page s p) x) is (dirt_least f ds (λ k e lt. least (suc k) e (omega (arith, lt))) s p d)
  where
    by : (b : Bool) → (if b then Some (record { first = x.first; lsn = x.lsn }) else dirt_among ds s p) ≡ Some d → (dirt_among ds s p ≡ Some d → f ≤ d.first) → f ≤ d.first
    by true is later = let low = least 0 x (omega arith) in let same = ap (λ (e : Dirty). e.first) (same_Some _ _ is) in omega (arith, low, same)
    by false is later = later is

own_name : (d : DirtyPage) → is_named (name_of_page d.space d.page) d ≡ true
own_name d = both (nat_eq d.space d.space) (nat_eq d.page d.page) one two
  where
    both : (a b : Bool) → a ≡ true → b ≡ true → (a && b) ≡ true
    both a b x y = ap (λ (c : Bool). c && b) x ∙ y

    one : nat_eq d.space d.space ≡ true
    one = grind (arith, nat_tests)

    two : nat_eq d.page d.page ≡ true
    two = grind (arith, nat_tests)

-- a page that is marked as dirty is one of the store
marked_there : (hs : List HeldSpace) (ss : List SpaceInfo) (os : List (List Home)) (s p : ℕ) → HaveLists hs ss os → slice_index_or (homes_of ss os s) p Unused ≡ MarkedDirty → has_page hs s p ≡ true
marked_there [] [] [] s p have is = absurd (cc)
marked_there [] [] (o ∷ os) s p have is = absurd have
marked_there [] (x ∷ ss) os s p have is = absurd have
marked_there (h ∷ hs) [] os s p have is = absurd have
marked_there (h ∷ hs) (x ∷ ss) [] s p have is = absurd have
marked_there (h ∷ hs) (x ∷ ss) (o ∷ os) s p (space, pages, key_id, long, rest) is = by (nat_eq x.space s) (ap (λ (n : ℕ). nat_eq n s) (sym space)) (marked_there hs ss os s p rest) is
  where
    inside : slice_index_or o p Unused ≡ MarkedDirty → nat_lt p h.pages ≡ true
    inside at = ⊎_elim (λ (lt : p < length o). let low : p < h.pages = omega (arith, lt, long) in grind (arith, nat_tests))
        (λ (ge : length o ≤ p). let none : Unused ≡ MarkedDirty = sym (get_or_past o p Unused ge) ∙ at in absurd (cc)) (cases_lt p (length o))

    by : (b : Bool) → nat_eq h.space s ≡ b → (slice_index_or (homes_of ss os s) p Unused ≡ MarkedDirty → has_page hs s p ≡ true) → slice_index_or (if b then o else homes_of ss os s) p Unused ≡ MarkedDirty → (if nat_eq h.space s then nat_lt p h.pages else has_page hs s p) ≡ true
    by true test behind at = ap (λ (b : Bool). if b then nat_lt p h.pages else has_page hs s p) test ∙ inside at
    by false test behind at = ap (λ (b : Bool). if b then nat_lt p h.pages else has_page hs s p) test ∙ behind at

first_there : (store : StoreSpaces) (pages : DirtyList) (d : DirtyPage) (ds : List DirtyPage) → pages.entries ≡ d ∷ ds → HaveLists store.header.spaces store.spaces store.homes → AreMarked store pages → has_page store.header.spaces d.space d.page ≡ true
first_there store pages d ds is have marks =
    let named : is_dirty (name_of_page d.space d.page) pages ≡ true =
    ap (λ (l : List DirtyPage). list_any (is_named (name_of_page d.space d.page)) l) is ∙ ap (λ (b : Bool). b || list_any (is_named (name_of_page d.space d.page)) ds) (own_name d) in
    marked_there store.header.spaces store.spaces store.homes d.space d.page have (marks.marked d.space d.page named)

-- ---- the checkpoint

module _ {D : Type 0} (store : SessionStore) (kept : Type 0) (r : Running D) where
  abbrev f : ℕ
  f = run_begin r

  module _ (s : List Event) (is : IsReadySession store kept r s) (have : HaveLists r.store.header.spaces r.store.spaces r.store.homes) (marks : AreMarked r.store r.pool.dirty) where
    abbrev N : ℕ
    N = store.header.blocks

    abbrev F : Form (List Change)
    F = session_form store

    abbrev IsBoundOf : ℕ → Type 0
    IsBoundOf n = IsBound N F is.ring.block is.session.start is.session.journal n

    -- the run may begin there
    bound : IsBoundOf f
    bound = by r.pool.dirty.entries refl
      where
        by : (ds : List DirtyPage) → r.pool.dirty.entries ≡ ds → IsBoundOf (first_block ds r.log.next)
        by [] none = subst IsBoundOf is.next (bound_end N F is.ring is.session.start is.session.next is.session.journal is.ready.moment.journal)
        by (d ∷ ds) some =
            let here : has_page r.store.header.spaces d.space d.page ≡ true = first_there r.store r.pool.dirty d ds some have marks in
            let there : has_page store.header.spaces d.space d.page ≡ true = subst (λ (h : HeldHeader). has_page h.spaces d.space d.page ≡ true) is.header here in
            let among : dirt_among (d ∷ ds) d.space d.page ≡ Some (record { first = d.first; lsn = d.lsn }) = cond-true (is_named (name_of_page d.space d.page) d) _ _ (own_name d) in
            is.ready.firsts d.space d.page _ there (is.dirty d.space d.page ∙ ap (λ (l : List DirtyPage). dirt_among l d.space d.page) some ∙ among)

    module _ (least : All (λ d. f ≤ d.first) r.pool.dirty.entries) (open_log : IsOpen r.log) (blocks : r.log.blocks ≡ N) (low : r.log.from < f) (high : f ≤ durable r.log) where
      abbrev keys : Keys
      keys = record { header = store.header; ring = store.book }

      abbrev sequence : ℕ
      sequence = r.log.sequence + 1

      oldest : (z p : ℕ) (d : Dirty) → has_page store.header.spaces z p ≡ true → is.session.dirty z p ≡ Some d → f ≤ d.first
      oldest z p d there at = dirt_least f r.pool.dirty.entries least z p d (sym (is.dirty z p) ∙ at)

      ring_here : RingReady r.log.blocks F is.ring s
      ring_here = subst (λ (n : ℕ). RingReady n F is.ring s) (sym blocks) is.ready.ring

      places : HasPlaces Log (log_places r.log.blocks) s
      places = ring_here.ringed.places

      low_ring : is.ring.from ≤ f
      low_ring = let from = is.fits.from in omega (arith, low, from)

      high_ring : f ≤ is.session.settled
      high_ring =
          let settled = is.ready.moment.settled in
          let all = is.ready.ring.all in
          let written = is.fits.written in
          omega (arith, high, settled, all, written)

      items : (m : List Event) → Since (IsCheckEvent sequence f) s m → KeepsItems s m
      items m since =
          let later : Later (Some s) (Some m) = (since.news, since.is) in
          ((check_items sequence f {old = Some s} {new = Some m} later adds).each m later ([], refl)).here s refl
        where
          adds : Adds (IsCheckEvent sequence f) (Some s) (Some m)
          adds = record { since = λ a b from to. subst (λ (x : List Event). Since (IsCheckEvent sequence f) x b) (same_Some s a from) (subst (λ (y : List Event). Since (IsCheckEvent sequence f) s y) (same_Some m b to) since) }

      check_moment : (m : List Event) → Since (IsCheckEvent sequence f) s m → CheckWriting r.log.blocks sequence f s m → IsMoment store kept r m
      check_moment m since writing =
          let ringed : Ringed N F (checking is.ring f) m = subst (λ (n : ℕ). Ringed n F (checking is.ring f) m) blocks (to_checking keys r.log is.ring open_log is.fits f low high s m ring_here writing) in
          record {
            session = record is.session { newest = f };
            ring = checking is.ring f;
            moment = session_checking store is.session is.ring s m sequence f is.ready low_ring high_ring bound oldest since ringed;
            journal = is.journal;
            next = is.next;
            written = is.session.written;
            recorded = λ has. record_checking store is.session s m sequence f (is.recorded has) since (items m since);
          }

      fits_next : (j : ℕ) → j < 1 → IsNext (log_places r.log.blocks) (side_batch sequence f) j
      fits_next zero lt = let some = open_log.some in let below = open_log.below in let next = open_log.high in let order = open_log.order in check_next r.log.blocks sequence f (omega (arith, some)) (omega (arith, below, low)) (omega (arith, high, next))
      fits_next (suc j) lt = absurd (omega (arith, lt))

      abbrev done : List Event
      done = Sync Log ∷ (check_event sequence f ∷ s)

      check_ready : (disk : Counted D) → IsReadySession store kept (kept_from r f disk) done
      check_ready disk =
          let b = side_batch sequence f in
          let since : Since (IsCheckEvent sequence f) s done = since_settled Log (log_places r.log.blocks) b 1 fits_next s places in
          let ring : RingReady r.log.blocks F (checked is.ring f) done = to_checked keys r.log is.ring open_log is.fits f low high s done ring_here (settled_at Log (log_places r.log.blocks) b 1 fits_next s places) in
          let from_ring = is.fits.from in
          record {
            header = is.header;
            of_book = is.of_book;
            named = is.named;
            session = record is.session { from = f; newest = f };
            ring = checked is.ring f;
            ready = session_checked store is.session is.ring s done sequence f is.ready low_ring high_ring bound oldest since (subst (λ (n : ℕ). RingReady n F (checked is.ring f) done) blocks ring);
            fits = subst (λ (log : LogState). FitsRing (checked is.ring f) log) (with_checkpoint_other r.log f (λ e. omega (arith, e, low))) (moved_fits r.log f low is.ring is.fits);
            start = is.start;
            journal = is.journal;
            next = is.next ∙ same_next r.log f;
            dirty = is.dirty;
            whole = is.whole;
            holds = is.holds;
            heads = is.heads;
            salts = is.salts;
            recorded = λ has. record_checked store is.session s done sequence f (is.recorded has) since (items done since) (let same = is.ready.from in omega (arith, low, from_ring, same)) high_ring;
          }

      -- at a refusal
      pub check_part : (new : Past) → IsPart Log block_bytes (side_batch sequence f) 1 (Some s) new → Throughout (IsMoment store kept r) (Some s) new
      check_part new part = part_each Log (log_places r.log.blocks) (side_batch sequence f) 1 fits_next s places (IsMoment store kept r) check_moment new part

      -- and at Ok
      pub check_whole : (disk : Counted D) → IsReadySession store kept (kept_from r f disk) done × Throughout (IsMoment store kept r) (Some s) (Some done)
      check_whole disk = (check_ready disk, whole_each Log (log_places r.log.blocks) (side_batch sequence f) 1 fits_next s places (IsMoment store kept r) check_moment)

-- How a read carries on what the type of an engine keeps, and what it gives of the contents.
use Rattle.std.proofs.Common.{◌≡◌, ◌≢◌, ℕ, ◌⊎◌, inl, inr, true, List, length, Some, None, Option, Result, Ok, Err, OnOk, refl, sym, ap, subst, ◌∙◌}
use Rattle.std.specs.Prelude.{IfErr, IfOk, option_map}
use Rattle.counted_disk.specs.Counting.{IsCounted, count_of}
use Rattle.counted_disk.specs.declared.counted.Counted.{Counted}
use Rattle.disk_model.specs.Event.{Event}
use Rattle.disk_model.specs.Past.{At, Past, Throughout}
use Rattle.disk_model.proofs.Moments.{at_each, begins}
use Rattle.page_pool.specs.Pages.{PoolState}
use Rattle.session_core.specs.Reading.{IsPageOf, IsPoolAfter, IsReadRefusal, Missing, OnlyReads, ReadsKind, ReadsPart, Stopped, Unfit, Unread}
use Rattle.session_core.specs.Session.{IsSession, Running}
use Rattle.session_core.specs.Spaces.{is_page}
use Rattle.session_core.specs.declared.fault.EngineFault.{EngineFault}
use Rattle.session_core.proofs.HeldPages.{dirty_behind}
use Rattle.session_image.specs.Kept.{SessionStore}
use Rattle.store_files.specs.Pages.{page_held}
use Rattle.engine_core.specs.Engine.{EngineState, IsEngine}
use Rattle.engine_core.specs.Journal.{journal_of}
use Rattle.engine_core.specs.Kept.{BeginsAt, IsReadySession, dirt_among}
use Rattle.engine_core.specs.Reading.{IsKindNow, IsPartNow, contents_now}
use Rattle.engine_core.proofs.Keeps.{Goes, call_keeps, unchanged}
use Rattle.engine_core.proofs.Pages.{contents_are, holds_behind, page_now}
use Rattle.engine_core.proofs.Ready.{IsMoment, moment_of, ready_with}

module _ {D : Type 0} (past : D → Past) (faults refusals : D → ℕ) (is_later : D → D → Type 0) (transitive : (a b c : D) → is_later a b → is_later b c → is_later a c) (first old new : Running D) where
  abbrev IsKept : Running D → Type 0
  IsKept r = IsEngine past faults refusals is_later (record { first = first; now = r })

  module _ (session : IsSession past old) (s p : ℕ) where
    -- what is known of the disk, with another pool
    pool_ready : (store : SessionStore) (kept : Type 0) (es : List Event) (pool : PoolState) → past old.disk.disk ≡ Some es → old.disk.stop ≡ None → is_page old.store.spaces s p ≡ true → IsPoolAfter old.ring old.store (Some es) s p old.pool pool → IsReadySession store kept old es
        → IsReadySession store kept (record old { pool = pool }) es
    pool_ready store kept es pool told up there after x = record {
      header = x.header;
      of_book = x.of_book;
      named = x.named;
      session = x.session;
      ring = x.ring;
      ready = x.ready;
      fits = x.fits;
      start = x.start;
      journal = x.journal;
      next = x.next;
      dirty = λ z q. x.dirty z q ∙ ap (λ d. dirt_among d z q) (sym (ap (λ d. d.entries) (dirty_behind old.ring old.store (Some es) s p old.pool pool after)));
      whole = let same = dirty_behind old.ring old.store (Some es) s p old.pool pool after in ap (λ d. length d.pages) same ∙ x.whole ∙ sym (ap (λ d. length d.entries) same);
      holds = holds_behind store kept old es x session.spaces.have ((session.reads up).here es told) s p there pool after;
      heads = x.heads;
      salts = x.salts;
      recorded = x.recorded;
    }

    read_goes : OnlyReads past s p old new → old.disk.stop ≡ None → is_page old.store.spaces s p ≡ true → (store : SessionStore) (kept : Type 0) → At (IsReadySession store kept old) (past old.disk.disk) → Goes past faults refusals is_later transitive first old new store kept
    read_goes reads up there store kept at = record {
      moments = subst (λ (h : Past). Throughout (IsMoment store kept old) (past old.disk.disk) h) (sym reads.past_is) (begins (IsMoment store kept old) (past old.disk.disk) (at_each (λ es x. moment_of store kept old es x) at));
      then = λ still. record {
        here = λ es told.
            let was : past old.disk.disk ≡ Some es = sym reads.past_is ∙ told in
            subst (λ (r : Running D). IsReadySession store kept r es) (sym reads.same) (with_pool es was reads.pool (at.here es was));
      };
    }
      where
        with_pool : (es : List Event) → past old.disk.disk ≡ Some es → (new.pool ≡ old.pool) ⊎ IsPoolAfter old.ring old.store (past old.disk.disk) s p old.pool new.pool → IsReadySession store kept old es → IsReadySession store kept (record old { disk = new.disk; pool = new.pool }) es
        with_pool es was (inl same) x =
            subst (λ (q : PoolState). IsReadySession store kept (record old { disk = new.disk; pool = q }) es) (sym same) (ready_with store kept old es new.disk old.active old.age old.acked old.batch x)
        with_pool es was (inr after) x =
            ready_with store kept (record old { pool = new.pool }) es new.disk old.active old.age old.acked old.batch
            (pool_ready store kept es new.pool was up there (subst (λ (h : Past). IsPoolAfter old.ring old.store h s p old.pool new.pool) was after) x)

    went : OnlyReads past s p old new → old.disk.stop ≡ None → is_page old.store.spaces s p ≡ true → IsKept old → is_later old.disk.disk new.disk.disk → IsCounted (count_of past faults refusals old.disk) (count_of past faults refusals new.disk) → IsKept new
    went reads up there kept later counts =
        call_keeps past faults refusals is_later transitive first old new kept up later counts (ap (λ (r : Running D). journal_of r) reads.same) (ap (λ (r : Running D). r.log.next) reads.same) (read_goes reads up there)

    -- what a read leaves of an engine
    pub read_keeps : {T : Type 0} (result : Result T EngineFault) (R : Type 0) (unfit : EngineFault) → IsKept old → is_later old.disk.disk new.disk.disk → IsCounted (count_of past faults refusals old.disk) (count_of past faults refusals new.disk)
        → OnOk result (old.disk.stop ≡ None) → OnOk result (is_page old.store.spaces s p ≡ true) → OnlyReads past s p old new → IfErr result (IsReadRefusal past R unfit old new s p) → IsKept new
    read_keeps (Ok v) R unfit kept later counts up there reads refused = went reads up there kept later counts
    read_keeps (Err e) R unfit kept later counts up there reads refused = by e refused
      where
        by : (e : EngineFault) → IsReadRefusal past R unfit old new s p e → IsKept new
        by _ (Stopped e why same) = unchanged past faults refusals is_later transitive first old new same kept
        by _ (Missing runs missing same) = unchanged past faults refusals is_later transitive first old new same kept
        by _ (Unfit runs page_is isnt same) = unchanged past faults refusals is_later transitive first old new same kept
        by _ (Unread e runs page_is fits fault) = went reads runs page_is kept later counts

    -- ---- the contents

    page_read : IsKept old → old.disk.stop ≡ None → is_page old.store.spaces s p ≡ true → (page : Option _) → IsPageOf old.ring old.store old.pool (past old.disk.disk) s p page
        → (store : SessionStore) → At (BeginsAt store first) (past first.disk.disk) → (es : List Event) → past old.disk.disk ≡ Some es → contents_now store old s p ≡ page_held page
    page_read kept up there page is store begun es told =
        let ready = (kept.ready up store begun).here es told in
        let reads = (session.reads up).here es told in
        contents_are store _ old es ready session.spaces.have reads s p there
        ∙ page_now store _ old es ready session.spaces.have reads s p there page (subst (λ (h : Past). IsPageOf old.ring old.store old.pool h s p page) told is)

    pub part_read : {T : Type 0} (result : Result T EngineFault) (at : ℕ) (bytes : List ℕ) → IsKept old → OnOk result (old.disk.stop ≡ None) → OnOk result (is_page old.store.spaces s p ≡ true) → OnOk result (ReadsPart past old s p at bytes)
        → OnOk result ((store : SessionStore) → At (BeginsAt store first) (past first.disk.disk) → At (λ es. IsPartNow store old s p at bytes) (past old.disk.disk))
    part_read (Err e) at bytes kept up there reads = tt
    part_read (Ok v) at bytes kept up there reads = λ store begun. record { here = λ es told. record { page = reads.page; is = page_read kept up there reads.page reads.is store begun es told; part = reads.part } }

    pub kind_read : (result : Result (Option ℕ) EngineFault) → IsKept old → OnOk result (old.disk.stop ≡ None) → OnOk result (is_page old.store.spaces s p ≡ true) → IfOk result (ReadsKind past old s p)
        → IfOk result (λ kind. (store : SessionStore) → At (BeginsAt store first) (past first.disk.disk) → At (λ es. IsKindNow store old s p kind) (past old.disk.disk))
    kind_read (Err e) kept up there reads = tt
    kind_read (Ok kind) kept up there reads = λ store begun. record { here = λ es told. record { page = reads.page; is = page_read kept up there reads.page reads.is store begun es told; kind_is = reads.kind_is } }

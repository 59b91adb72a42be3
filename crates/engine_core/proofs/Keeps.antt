-- How a call of a session carries on what the type of its engine keeps.
use Rattle.std.proofs.Common.{◌≡◌, ℕ, ◌+◌, ◌<◌, ◌≤◌, inl, inr, ⊎_elim, List, [], ◌∷◌, ◌++◌, length, Some, None, Result, Ok, Err, OnOk, OnErr, refl, sym, ap, subst, ◌∙◌, arith}
use Rattle.std.specs.List.{All}
use Rattle.std.specs.Prelude.{IfErr}
use Rattle.std.proofs.lemmas.Bool.{cases_eq, cases_lt}
use Rattle.std.proofs.lemmas.Option.{none-some, same_Some}
use Rattle.counted_disk.specs.Counting.{CountState, IsCounted, count_of, counts_then}
use Rattle.counted_disk.specs.declared.counted.Counted.{Counted}
use Rattle.counted_disk.specs.declared.counted.Stop.{Stop}
use Rattle.disk_model.specs.Event.{Event, Sync, Tell}
use Rattle.disk_model.specs.Past.{At, Is, MayGrow, Past, Throughout, grow}
use Rattle.disk_model.specs.declared.names.FileName.TheVariants.{Log}
use Rattle.disk_model.specs.declared.names.Mark.TheVariants.{Acked}
use Rattle.disk_model.proofs.Moments.{and_then, at_each, at_last, begins, throughout_grows, throughout_may_grow, weaker}
use Rattle.places.specs.Batches.{Batch}
use Rattle.places.specs.Writes.{Done, Failed, IsPart, grows}
use Rattle.redo_log.specs.Events.{block_batch, check_event, out_events, side_batch}
use Rattle.redo_log.specs.Log.{durable, pending_count}
use Rattle.redo_log.specs.State.{LogState}
use Rattle.redo_log.proofs.FitSteps.{same_next, with_checkpoint_same}
use Rattle.redo_text.specs.declared.change.Change.{Change}
use Rattle.session_core.specs.Checking.{kept_from, run_begin}
use Rattle.session_core.specs.Files.{IsDiskRefusal}
use Rattle.session_core.specs.Session.{IsSession, Running}
use Rattle.session_core.specs.Syncing.{IsStopBesideTurns, IsSyncRefusal, IsSyncedInPart, synced_past, synced_session, written_past}
use Rattle.session_core.specs.Syncing as syncing
use Rattle.session_core.proofs.CheckpointLaws.{block_high, block_low}
use Rattle.session_core.specs.declared.fault.EngineFault.{EngineFault}
use Rattle.session_image.specs.Kept.{AllImagesStand, SessionStore}
use Rattle.store_image.specs.View.{Logged, block_bytes}
use Rattle.engine_core.specs.Engine.{EngineState, IsEngine, IsStarted}
use Rattle.engine_core.specs.Journal.{journal_of}
use Rattle.engine_core.specs.Kept.{AreCrashesLucky, BeginsAt, BeginsRecordAt, IsReadySession, KeepsRecord}
use Rattle.engine_core.proofs.Moves.{check_part, check_whole}
use Rattle.engine_core.proofs.Outs.{acks, out, out_part, out_whole}
use Rattle.engine_core.proofs.Ready.{IsMoment, crashes_at, moment_as, moment_of, ready_with, record_at, stands_at}
use Rattle.engine_core.proofs.Stretches.{at_told, none_told}

-- a part of nothing that is told is nothing
part_untold : {n k : ℕ} {b : Batch} (new : Past) → IsPart Log n b k None new → new ≡ None
part_untold new (Done j le is) = is
part_untold new (Failed j e lt write is) = is

module _ {D : Type 0} (past : D → Past) (faults refusals : D → ℕ) (is_later : D → D → Type 0) (transitive : (a b c : D) → is_later a b → is_later b c → is_later a c) (first old new : Running D) where
  abbrev start : Past
  start = past first.disk.disk

  abbrev before : Past
  before = past old.disk.disk

  abbrev behind : Past
  behind = past new.disk.disk

  abbrev IsKept : Running D → Type 0
  IsKept r = IsEngine past faults refusals is_later (record { first = first; now = r })

  -- A call of a session that was up: what holds at each moment of it, and what is known of its disk where it is still up.
  pub record Goes (store : SessionStore) (kept : Type 0) : Type 0 where
    pub moments : Throughout (IsMoment store kept old) before behind
    pub then : new.disk.stop ≡ None → At (IsReadySession store kept new) behind

  pub unchanged : new ≡ old → IsKept old → IsKept new
  unchanged same kept = subst IsKept (sym same) kept

  -- a call that leaves the journal as it is
  pub call_keeps : IsKept old → old.disk.stop ≡ None → is_later old.disk.disk new.disk.disk → IsCounted (count_of past faults refusals old.disk) (count_of past faults refusals new.disk) → journal_of new ≡ journal_of old → new.log.next ≡ old.log.next
      → ((store : SessionStore) (kept : Type 0) → At (IsReadySession store kept old) before → Goes store kept) → IsKept new
  call_keeps kept up later counts journal next goes = record {
    started = kept.started;
    later = transitive _ _ _ kept.later later;
    counted = counts_then _ _ _ kept.counted counts;
    images = λ store begun. images store begun;
    crashes = λ store begun. and_then AreCrashesLucky start before behind (kept.crashes store begun) (weaker (crashes_at store (At (BeginsRecordAt store first) start) old) (goes store _ (kept.ready up store begun)).moments);
    recorded = λ store begun.
        let at = at_each (λ es b. b.begins) begun in
        and_then (KeepsRecord store) start before behind (kept.recorded store begun) (weaker (record_at store _ old begun) (goes store _ (kept.ready up store at)).moments);
    ready = λ still store begun. (goes store _ (kept.ready up store begun)).then still;
  }
    where
      Stand : SessionStore → List (Logged (List Change)) → ℕ → Type 0
      Stand store l n = Throughout (AllImagesStand store l n) start behind

      images : (store : SessionStore) → At (BeginsAt store first) start → Stand store (journal_of new) new.log.next
      images store begun =
          let since : Stand store (journal_of old) old.log.next =
          and_then (AllImagesStand store (journal_of old) old.log.next) start before behind (kept.images store begun)
          (weaker (stands_at store (At (BeginsRecordAt store first) start) old) (goes store _ (kept.ready up store begun)).moments) in
          subst (λ (n : ℕ). Stand store (journal_of new) n) (sym next) (subst (λ (l : List (Logged (List Change))). Stand store l old.log.next) (sym journal) since)

  -- ---- a sync

  module _ (session : IsSession past old) where
    blocks_same : (store : SessionStore) (kept : Type 0) (s : List Event) → IsReadySession store kept old s → old.log.blocks ≡ store.header.blocks
    blocks_same store kept s is = session.ring ∙ ap (λ h. h.blocks) is.header

    told_moment : (store : SessionStore) (kept : Type 0) (m : List Event) → IsReadySession store kept (out store kept old) m → IsMoment store kept old m
    told_moment store kept m is = moment_as store kept (out store kept old) old refl refl m (moment_of store kept (out store kept old) m is)

    pub synced_goes : new ≡ synced_session old new.disk → behind ≡ synced_past old.log (length old.journal) before → (store : SessionStore) (kept : Type 0) → At (IsReadySession store kept old) before → Goes store kept
    synced_goes is exact store kept at = by before refl at
      where
        mark : Event
        mark = Tell (Acked (length old.journal))

        by : (h : Past) → before ≡ h → At (IsReadySession store kept old) h → Goes store kept
        by None none known =
            let same : behind ≡ None = exact ∙ ap (synced_past old.log (length old.journal)) none in record {
              moments = subst (λ (a : Past). Throughout (IsMoment store kept old) a behind) (sym none) (subst (λ (b : Past). Throughout (IsMoment store kept old) None b) (sym same) none_told);
              then = λ up. record { here = λ es told. absurd (none-some es (sym same ∙ told)) };
            }
        by (Some s) some known =
            let ready = known.here s refl in
            let blocks = blocks_same store kept s ready in
            let both = out_whole store kept old s ready session.numbers blocks in
            let mid = out_events (pending_count old.log) old.log ++ s in
            let same : behind ≡ Some (mark ∷ mid) = exact ∙ ap (synced_past old.log (length old.journal)) some in
            let acked : IsReadySession store kept (out store kept old) (mark ∷ mid) = acks store kept (out store kept old) mid both.0 (omega arith) in
            let told : IsReadySession store kept new (mark ∷ mid) = subst (λ (r : Running D). IsReadySession store kept r (mark ∷ mid)) (sym is)
            (ready_with store kept (out store kept old) (mark ∷ mid) new.disk old.active old.age (length old.journal) old.batch acked) in
            let all : Throughout (IsMoment store kept old) (Some s) (Some (mark ∷ mid)) =
            throughout_grows (IsMoment store kept old) (Some s) (Some mid) mark both.1 (at_told (mark ∷ mid) (told_moment store kept (mark ∷ mid) acked)) in
            record {
              moments = subst (λ (a : Past). Throughout (IsMoment store kept old) a behind) (sym some) (subst (λ (b : Past). Throughout (IsMoment store kept old) (Some s) b) (sym same) all);
              then = λ up. subst (At (IsReadySession store kept new)) (sym same) (at_told (mark ∷ mid) told);
            }

    -- stopped among the writes
    unwritten_goes : (s : Stop) → new.disk.stop ≡ Some s → IsPart Log block_bytes (block_batch old.log) (pending_count old.log) before behind → (store : SessionStore) (kept : Type 0) → At (IsReadySession store kept old) before → Goes store kept
    unwritten_goes stop stopped part store kept at = record { moments = by before refl at; then = λ up. absurd (none-some stop (sym up ∙ stopped)) }
      where
        by : (h : Past) → before ≡ h → At (IsReadySession store kept old) h → Throughout (IsMoment store kept old) before behind
        by None none known =
            let same : behind ≡ None = part_untold behind (subst (λ (a : Past). IsPart Log block_bytes (block_batch old.log) (pending_count old.log) a behind) none part) in
            subst (λ (a : Past). Throughout (IsMoment store kept old) a behind) (sym none) (subst (λ (b : Past). Throughout (IsMoment store kept old) None b) (sym same) none_told)
        by (Some s) some known =
            let ready = known.here s refl in
            subst (λ (a : Past). Throughout (IsMoment store kept old) a behind) (sym some)
            (out_part store kept old s ready session.numbers (blocks_same store kept s ready) behind (subst (λ (a : Past). IsPart Log block_bytes (block_batch old.log) (pending_count old.log) a behind) some part))

    -- stopped as the mark was told
    untold_goes : (s : Stop) → new.disk.stop ≡ Some s → MayGrow (Is (Tell (Acked (length old.journal)))) (written_past old.log before) behind → (store : SessionStore) (kept : Type 0) → At (IsReadySession store kept old) before → Goes store kept
    untold_goes stop stopped may store kept at = record { moments = by before refl at; then = λ up. absurd (none-some stop (sym up ∙ stopped)) }
      where
        mark : Event
        mark = Tell (Acked (length old.journal))

        by : (h : Past) → before ≡ h → At (IsReadySession store kept old) h → Throughout (IsMoment store kept old) before behind
        by None none known =
            let here : MayGrow (Is mark) None behind = subst (λ (a : Past). MayGrow (Is mark) (written_past old.log a) behind) none may in
            subst (λ (a : Past). Throughout (IsMoment store kept old) a behind) (sym none) (throughout_may_grow (IsMoment store kept old) None None behind (Is mark) none_told (λ e kind. record { here = λ es told. absurd (none-some es told) }) here)
        by (Some s) some known =
            let ready = known.here s refl in
            let mid = out_events (pending_count old.log) old.log ++ s in
            let both = out_whole store kept old s ready session.numbers (blocks_same store kept s ready) in
            let acked : IsReadySession store kept (out store kept old) (mark ∷ mid) = acks store kept (out store kept old) mid both.0 (omega arith) in
            let here : MayGrow (Is mark) (Some mid) behind = subst (λ (a : Past). MayGrow (Is mark) (written_past old.log a) behind) some may in
            subst (λ (a : Past). Throughout (IsMoment store kept old) a behind) (sym some)
            (throughout_may_grow (IsMoment store kept old) (Some s) (Some mid) behind (Is mark) both.1
            (λ e kind. subst (λ (d : Event). At (IsMoment store kept old) (Some (d ∷ mid))) (sym kind) (at_told (mark ∷ mid) (told_moment store kept (mark ∷ mid) acked))) here)

  -- what a sync leaves of an engine
  pub sync_keeps : {X : Type 0} (result : Result X EngineFault) → IsSession past old → IsKept old → is_later old.disk.disk new.disk.disk → IsCounted (count_of past faults refusals old.disk) (count_of past faults refusals new.disk)
      → OnOk result (old.disk.stop ≡ None) → OnOk result (new ≡ synced_session old new.disk) → OnOk result (behind ≡ synced_past old.log (length old.journal) before) → IfErr result (IsSyncRefusal past old new) → IsKept new
  sync_keeps (Ok n) session kept later counts up is exact refused =
      call_keeps kept up later counts (ap (λ (r : Running D). journal_of r) is) (ap (λ (r : Running D). r.log.next) is) (synced_goes session is exact)
  sync_keeps (Err e) session kept later counts up is exact refused = by refused
    where
      within : old.disk.stop ≡ None → IsSyncedInPart past old new e → IsKept new
      within runs (syncing.Unwritten (s, stopped, fault) same part) =
          call_keeps kept runs later counts (ap (λ (r : Running D). journal_of r) same) (ap (λ (r : Running D). r.log.next) same) (unwritten_goes session s stopped part)
      within runs (syncing.Untold (s, stopped, beside, fault) same may) =
          call_keeps kept runs later counts (ap (λ (r : Running D). journal_of r) same) (ap (λ (r : Running D). r.log.next) same) (untold_goes session s stopped may)

      by : IsSyncRefusal past old new e → IsKept new
      by (syncing.Stopped why same) = unchanged same kept
      by (syncing.InPart runs part) = within runs part

  -- ---- a checkpoint

  abbrev f : ℕ
  f = run_begin old

  abbrev sequence : ℕ
  sequence = old.log.sequence + 1

  module _ (session : IsSession past old) (least : All (λ d. f ≤ d.first) old.pool.dirty.entries) where
    low : old.log.from ≤ f
    low = block_low old.log session.numbers old.pool.dirty.entries session.dirty.within

    high : f ≤ durable old.log
    high = block_high old.log session.numbers old.pool.dirty.entries session.dirty.within session.dirty.pending least

    module _ (above : old.log.from < f) where
      checked_goes : new ≡ kept_from old f new.disk → behind ≡ grow (Sync Log) (grow (check_event sequence f) before) → (store : SessionStore) (kept : Type 0) → At (IsReadySession store kept old) before → Goes store kept
      checked_goes is exact store kept at = by before refl at
        where
          by : (h : Past) → before ≡ h → At (IsReadySession store kept old) h → Goes store kept
          by None none known =
              let same : behind ≡ None = exact ∙ ap (λ (a : Past). grow (Sync Log) (grow (check_event sequence f) a)) none in record {
                moments = subst (λ (a : Past). Throughout (IsMoment store kept old) a behind) (sym none) (subst (λ (b : Past). Throughout (IsMoment store kept old) None b) (sym same) none_told);
                then = λ up. record { here = λ es told. absurd (none-some es (sym same ∙ told)) };
              }
          by (Some s) some known =
              let ready = known.here s refl in
              let both = check_whole store kept old s ready session.spaces.have session.dirty.marks least session.numbers (blocks_same session store kept s ready) above high new.disk in
              let done = Sync Log ∷ (check_event sequence f ∷ s) in
              let same : behind ≡ Some done = exact ∙ ap (λ (a : Past). grow (Sync Log) (grow (check_event sequence f) a)) some in
              record {
                moments = subst (λ (a : Past). Throughout (IsMoment store kept old) a behind) (sym some) (subst (λ (b : Past). Throughout (IsMoment store kept old) (Some s) b) (sym same) both.1);
                then = λ up. subst (At (IsReadySession store kept new)) (sym same) (at_told done (subst (λ (r : Running D). IsReadySession store kept r done) (sym is) both.0));
              }

      stopped_goes : (s : Stop) → new.disk.stop ≡ Some s → IsPart Log block_bytes (side_batch sequence f) 1 before behind → (store : SessionStore) (kept : Type 0) → At (IsReadySession store kept old) before → Goes store kept
      stopped_goes stop stopped part store kept at = record { moments = by before refl at; then = λ up. absurd (none-some stop (sym up ∙ stopped)) }
        where
          by : (h : Past) → before ≡ h → At (IsReadySession store kept old) h → Throughout (IsMoment store kept old) before behind
          by None none known =
              let same : behind ≡ None = part_untold behind (subst (λ (a : Past). IsPart Log block_bytes (side_batch sequence f) 1 a behind) none part) in
              subst (λ (a : Past). Throughout (IsMoment store kept old) a behind) (sym none) (subst (λ (b : Past). Throughout (IsMoment store kept old) None b) (sym same) none_told)
          by (Some s) some known =
              let ready = known.here s refl in
              subst (λ (a : Past). Throughout (IsMoment store kept old) a behind) (sym some)
              (check_part store kept old s ready session.spaces.have session.dirty.marks least session.numbers (blocks_same session store kept s ready) above high behind (subst (λ (a : Past). IsPart Log block_bytes (side_batch sequence f) 1 a behind) some part))

  -- what a checkpoint leaves of an engine
  pub checkpoint_keeps : {X : Type 0} (result : Result X EngineFault) → IsSession past old → IsKept old → is_later old.disk.disk new.disk.disk → IsCounted (count_of past faults refusals old.disk) (count_of past faults refusals new.disk)
      → (old.disk.stop ≡ None → All (λ d. f ≤ d.first) old.pool.dirty.entries) → OnOk result (old.disk.stop ≡ None) → OnOk result (new ≡ kept_from old f new.disk) → (f ≡ old.log.from → new.disk ≡ old.disk)
      → (old.log.from < f → OnOk result (behind ≡ grow (Sync Log) (grow (check_event sequence f) before))) → OnErr result (IsPart Log block_bytes (side_batch sequence f) 1 before behind)
      → OnErr result (new ≡ record old { disk = new.disk }) → IfErr result (IsDiskRefusal old.disk new.disk) → IsKept new
  checkpoint_keeps (Ok n) session kept later counts least up is still exact part same refused =
      ⊎_elim (λ (above : old.log.from < f). call_keeps kept up later counts (ap (λ (r : Running D). journal_of r) is) (ap (λ (r : Running D). r.log.next) is ∙ sym (same_next old.log f)) (checked_goes session (least up) above is (exact above)))
      (λ (below : f ≤ old.log.from).
      let from = low session (least up) in
      let equal : f ≡ old.log.from = omega (arith, below, from) in
      unchanged (is ∙ stays equal) kept)
      (cases_lt old.log.from f)
    where
      stays : f ≡ old.log.from → kept_from old f new.disk ≡ old
      stays equal =
          let disk = still equal in
          let log = with_checkpoint_same old.log f equal in
          λ i. record old { disk = disk i; log = sym log i }
  checkpoint_keeps (Err e) session kept later counts least up is still exact part same refused = by refused
    where
      by : IsDiskRefusal old.disk new.disk e → IsKept new
      by (inl (why, disk)) = unchanged (same ∙ (λ i. record old { disk = disk i })) kept
      by (inr (runs, (stop, stopped, fault))) =
          ⊎_elim (λ (above : old.log.from < f). call_keeps kept runs later counts (ap (λ (r : Running D). journal_of r) same) (ap (λ (r : Running D). r.log.next) same) (stopped_goes session (least runs) above stop stopped part))
          (λ (below : f ≤ old.log.from).
          let from = low session (least runs) in
          let equal : f ≡ old.log.from = omega (arith, below, from) in
          absurd (none-some stop (sym runs ∙ sym (ap (λ (c : Counted D). c.stop) (still equal)) ∙ stopped)))
          (cases_lt old.log.from f)

  -- ---- another active version

  pub activate_keeps : {T X : Type 0} (result : Result T X) (version : ℕ) → OnOk result (new ≡ record old { active = version }) → OnErr result (new ≡ old) → IsKept old → IsKept new
  activate_keeps (Err e) version is same kept = unchanged same kept
  activate_keeps (Ok v) version is same kept = subst IsKept (sym is) (record {
    started = kept.started;
    later = kept.later;
    counted = kept.counted;
    images = kept.images;
    crashes = kept.crashes;
    recorded = kept.recorded;
    ready = λ up store begun. at_each (λ es x. ready_with store _ old es old.disk version old.age old.acked old.batch x) (kept.ready up store begun);
  })

-- How a commit carries on what the type of an engine keeps.
use Rattle.std.proofs.Common.{◌≡◌, ℕ, ◌+◌, ◌*◌, ◌<◌, ◌≤◌, inl, inr, List, [], ◌∷◌, ◌++◌, length, Option, Some, None, Result, Ok, Err, OnOk, refl, sym, ap, subst, ◌∙◌, arith}
use Rattle.std.specs.Prelude.{IfErr}
use Rattle.crash_image.specs.Recovers.{AreOfStore}
use Rattle.counted_disk.specs.Counting.{IsCounted, count_of, counts_then}
use Rattle.disk_model.specs.Event.{Event}
use Rattle.disk_model.specs.Past.{At, Past, Throughout}
use Rattle.disk_model.proofs.Moments.{at_each, begins, weaker}
use Rattle.page_pool.specs.Pages.{PoolState}
use Rattle.redo_log.proofs.AppendSteps.{text_some}
use Rattle.redo_text.specs.Block.{block_count}
use Rattle.redo_text.specs.Text.{AreAllowed, text_of}
use Rattle.redo_text.specs.declared.change.Change.{Change}
use Rattle.session_core.specs.Committing.{AreOfPages, IsCommitRefusal, NotEntered, Stopped, Unfit, first_bad_range, first_missing_page}
use Rattle.session_core.specs.Entering.{IsEntered, IsNotEntered, NoRoom, NotHeld, OnlyLooksFor, Wants, entry_behind, lsn_behind, with_entry}
use Rattle.session_core.specs.Holding.{LooksForPages}
use Rattle.session_core.specs.Session.{AreEntries, IsSession, Running}
use Rattle.session_core.specs.declared.fault.EngineFault.{EngineFault}
use Rattle.session_core.specs.declared.journal.Author.{Author}
use Rattle.session_core.specs.declared.journal.Entry.{Entry}
use Rattle.session_image.specs.Kept.{AllImagesStand, SessionStore}
use Rattle.session_image.proofs.Images.{stands_more}
use Rattle.store_files.specs.Header.{HeldHeader, HeldSpace}
use Rattle.store_image.specs.View.{Logged, block_bytes}
use Rattle.engine_core.specs.Engine.{EngineState, IsEngine}
use Rattle.engine_core.specs.Journal.{journal_of, numbered_from}
use Rattle.engine_core.specs.Kept.{AreCrashesLucky, BeginsAt, BeginsRecordAt, IsReadySession, KeepsRecord}
use Rattle.engine_core.proofs.Commits.{commit_ready, header_same, looked_ready, numbered_push}
use Rattle.engine_core.proofs.Keeps.{Goes, call_keeps, unchanged}
use Rattle.engine_core.proofs.Ready.{IsMoment, moment_of, ready_with}

-- changes that a log takes, of a store
record IsEntryOf (spaces : List HeldSpace) (e : Entry) : Type 0 where
  allowed : AreAllowed e.mtr
  of_store : AreOfStore spaces e.mtr

-- the entry behind the others
last_entry : (spaces : List HeldSpace) (n : ℕ) (es : List Entry) (e : Entry) (next : ℕ) → AreEntries spaces n (es ++ e ∷ []) next → IsEntryOf spaces e
last_entry spaces n [] e next (is, rest) = record { allowed = is.allowed; of_store = is.of_store }
last_entry spaces n (d ∷ es) e next (is, rest) = last_entry spaces (n + block_count (text_of d.mtr)) es e next rest

module _ {D : Type 0} (past : D → Past) (faults refusals : D → ℕ) (is_later : D → D → Type 0) (transitive : (a b c : D) → is_later a b → is_later b c → is_later a c) (first old new : Running D) where
  abbrev start : Past
  start = past first.disk.disk

  abbrev IsKept : Running D → Type 0
  IsKept r = IsEngine past faults refusals is_later (record { first = first; now = r })

  module _ (session : IsSession past old) (runs : old.disk.stop ≡ None) (kept : IsKept old) (later : is_later old.disk.disk new.disk.disk) (counts : IsCounted (count_of past faults refusals old.disk) (count_of past faults refusals new.disk)) (mtr : List Change) where
    -- pages were only looked for
    looked_keeps : OnlyLooksFor past mtr old new → IsKept new
    looked_keeps only = call_keeps past faults refusals is_later transitive first old new kept runs later counts (ap (λ (r : Running D). journal_of r) only.same) (ap (λ (r : Running D). r.log.next) only.same) goes
      where
        goes : (store : SessionStore) (also : Type 0) → At (IsReadySession store also old) (past old.disk.disk) → Goes past faults refusals is_later transitive first old new store also
        goes store also at = record {
          moments = subst (λ (h : Past). Throughout (IsMoment store also old) (past old.disk.disk) h) (sym only.past_is) (begins (IsMoment store also old) (past old.disk.disk) (at_each (λ es x. moment_of store also old es x) at));
          then = λ still. record {
            here = λ es told.
                let was : past old.disk.disk ≡ Some es = sym only.past_is ∙ told in
                let looks : LooksForPages old.ring old.store (Some es) mtr old.pool new.pool = subst (λ (h : Past). LooksForPages old.ring old.store h mtr old.pool new.pool) was only.looks in
                let mid : IsReadySession store also (record old { pool = new.pool }) es = looked_ready store also past mtr old new.pool es (at.here es was) session ((session.reads runs).here es was) looks in
                subst (λ (r : Running D). IsReadySession store also r es) (sym only.same) (ready_with store also (record old { pool = new.pool }) es new.disk old.active old.age old.acked old.batch mid);
          };
        }

    -- the entry was made
    module _ (by : Option Author) (entered : IsEntered past by mtr old new) (some : 0 < length mtr) (forms : AreOfPages mtr) (allowed : AreAllowed mtr) (of_store : AreOfStore old.store.header.spaces mtr) where
      abbrev e : Logged (List Change)
      e = record { first = old.log.next; lsn = lsn_behind old.log mtr; mtr = mtr }

      journal_is : journal_of new ≡ journal_of old ++ e ∷ []
      journal_is = ap (λ (r : Running D). journal_of r) entered.is ∙ numbered_push old.store.header.spaces old.begins old.log.next old.journal (entry_behind old.log by mtr) session.entries

      next_is : new.log.next ≡ old.log.next + block_count (text_of mtr)
      next_is = ap (λ (r : Running D). r.log.next) entered.is

      behind_all : old.log.next * block_bytes < e.lsn
      behind_all = let long = text_some mtr some in omega (arith, long)

      stands : (store : SessionStore) → At (BeginsAt store first) start → Throughout (AllImagesStand store (journal_of new) new.log.next) start (past new.disk.disk)
      stands store begun =
          let next = next_is in
          let up : old.log.next ≤ new.log.next = omega (arith, next) in
          let more : Throughout (AllImagesStand store (journal_of old ++ e ∷ []) new.log.next) start (past old.disk.disk) =
          weaker (λ m all. stands_more store (journal_of old) old.log.next m all e behind_all new.log.next up) (kept.images store begun) in
          subst (λ (h : Past). Throughout (AllImagesStand store (journal_of new) new.log.next) start h) (sym entered.past_is)
          (subst (λ (l : List (Logged (List Change))). Throughout (AllImagesStand store l new.log.next) start (past old.disk.disk)) (sym journal_is) more)

      entered_keeps : IsKept new
      entered_keeps = record {
        started = kept.started;
        later = transitive _ _ _ kept.later later;
        counted = counts_then _ _ _ kept.counted counts;
        images = stands;
        crashes = λ store begun. subst (λ (h : Past). Throughout AreCrashesLucky start h) (sym entered.past_is) (kept.crashes store begun);
        recorded = λ store begun. subst (λ (h : Past). Throughout (KeepsRecord store) start h) (sym entered.past_is) (kept.recorded store begun);
        ready = λ up store begun. record {
          here = λ es told.
              let was : past old.disk.disk ≡ Some es = sym entered.past_is ∙ told in
              commit_ready store _ past by mtr old new es ((kept.ready runs store begun).here es was) session ((session.reads runs).here es was) entered was some forms allowed of_store;
        };
      }

  -- What a commit leaves of an engine.
  pub commit_keeps : {T : Type 0} (result : Result T EngineFault) (by : Option Author) (mtr : List Change) → IsSession past old → IsKept old → is_later old.disk.disk new.disk.disk → IsCounted (count_of past faults refusals old.disk) (count_of past faults refusals new.disk)
      → 0 < length mtr → AreOfPages mtr → IsSession past new → OnOk result (old.disk.stop ≡ None) → OnOk result (IsEntered past by mtr old new) → IfErr result (IsCommitRefusal past mtr old new) → IsKept new
  commit_keeps (Ok v) by mtr session kept later counts some forms behind runs entered refused =
      let last = last_entry new.store.header.spaces old.begins old.journal (entry_behind old.log by mtr) new.log.next entries in
      entered_keeps session runs kept later counts mtr by entered some forms last.allowed (subst (λ (h : HeldHeader). AreOfStore h.spaces mtr) (ap (λ (r : Running D). r.store.header) entered.is ∙ header_same mtr old.store) last.of_store)
    where
      entries : AreEntries new.store.header.spaces old.begins (old.journal ++ entry_behind old.log by mtr ∷ []) new.log.next
      entries =
          let journal = ap (λ (r : Running D). r.journal) entered.is in
          let begins = ap (λ (r : Running D). r.begins) entered.is in
          subst (λ (n : ℕ). AreEntries new.store.header.spaces n (old.journal ++ entry_behind old.log by mtr ∷ []) new.log.next) begins
          (subst (λ (l : List Entry). AreEntries new.store.header.spaces new.begins l new.log.next) journal behind.entries)
  commit_keeps (Err e) by mtr session kept later counts some forms behind runs entered refused = refusal e refused
    where
      same : new ≡ old → IsKept new
      same is = unchanged past faults refusals is_later transitive first old new is kept

      not_entered : old.disk.stop ≡ None → (e : EngineFault) → IsNotEntered past mtr old new e → IsKept new
      not_entered up _ (NoRoom why none is) = same is
      not_entered up _ (NotHeld why room fault only) = looked_keeps session up kept later counts mtr only
      not_entered up _ (Wants room still only) = looked_keeps session up kept later counts mtr only

      refusal : (e : EngineFault) → IsCommitRefusal past mtr old new e → IsKept new
      refusal _ (Stopped why down is) = same is
      refusal _ (Unfit why up unfit is) = same is
      refusal _ (NotEntered why up missing bad none) = not_entered up _ none

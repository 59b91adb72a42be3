-- What the writes of a log and its marks leave of a session.
use Rattle.std.proofs.Common.{◌≡◌, ℕ, suc, zero, ◌+◌, ◌*◌, ◌<◌, ◌≤◌, List, [], ◌∷◌, ◌++◌, length, take, slice_index_or, false, Option, Some, None, Result, Ok, Err, refl, sym, ap, ◌∙◌, subst, arith}
use Rattle.std.specs.List.{All}
use Rattle.std.specs.Prelude.{IfErr}
use Rattle.std.proofs.lemmas.List.{take_all}
use Rattle.std.proofs.lemmas.Option.{none-some, same_Some}
use Rattle.counted_disk.specs.declared.counted.Counted.{Counted}
use Rattle.crash_image.specs.LogForm.{log_places}
use Rattle.disk_model.specs.Does.{AllAre}
use Rattle.disk_model.specs.Event.{Event, Sync, Tell, same_file}
use Rattle.disk_model.specs.Past.{Past, At, grow}
use Rattle.disk_model.specs.declared.names.FileName.{FileName}
use Rattle.disk_model.specs.declared.names.FileName.TheVariants.{Log, Double, Space}
use Rattle.disk_model.specs.declared.names.Mark.{Mark}
use Rattle.page_places.specs.Texts.{pages, slots}
use Rattle.places.specs.Batches.{Batch}
use Rattle.places.specs.Beside.{LeavesFile}
use Rattle.places.specs.Places.{HasFile, Layout}
use Rattle.places.specs.Writes.{IsPart, grows, writes_of}
use Rattle.places.proofs.FileSteps.{file_left_alone}
use Rattle.redo_log.specs.Events.{block_batch, out_events}
use Rattle.redo_log.specs.Log.{IsOpen, durable, handed_over, pending_count, written_out}
use Rattle.redo_log.specs.State.{LogState}
use Rattle.redo_text.specs.Block.{block_count}
use Rattle.redo_text.specs.Text.{text_of}
use Rattle.space_head.specs.declared.space.SpaceInfo.{SpaceInfo}
use Rattle.store_files.specs.Header.{HeldSpace}
use Rattle.store_image.specs.View.{block_bytes}
use Rattle.session_core.specs.Dirty.{AreDirtyOf}
use Rattle.session_core.specs.Told.{ReadsAsTold}
use Rattle.session_core.proofs.LogWrites.{dirty_out}
use Rattle.session_core.specs.Files.{HasStoreFiles, IsStopOf, calls_of}
use Rattle.session_core.specs.Session.{AreEntries, IsSession, Running}
use Rattle.session_core.specs.Syncing.{InPart, IsSyncRefusal, IsSyncedInPart, Unwritten, write_calls}
use Rattle.session_core.specs.declared.fault.EngineFault.{EngineFault}
use Rattle.session_core.specs.declared.journal.Entry.{Entry}

-- a mark leaves the files of a store
pub files_told : (blocks : ℕ) (spaces : List SpaceInfo) (m : Mark) (es : List Event) → HasStoreFiles blocks spaces es → HasStoreFiles blocks spaces (Tell m ∷ es)
files_told blocks spaces m es files = record {
  log = record { there = files.log.there; size = files.log.size };
  double = record { there = files.double.there; size = files.double.size };
  spaces_there = λ k d lt. let here = files.spaces_there k d lt in record { there = here.there; size = here.size };
}

-- the writes of a batch to the log leave each other file
writes_leave : (g : FileName) → same_file g Log ≡ false → (n : ℕ) (b : Batch) (k : ℕ) → AllAre (LeavesFile g) (writes_of Log n b k)
writes_leave g apart n b zero = tt
writes_leave g apart n b (suc k) = (apart, writes_leave g apart n b k)

out_leaves : (g : FileName) → same_file g Log ≡ false → (log : LogState) (k : ℕ) → AllAre (LeavesFile g) (out_events k log)
out_leaves g apart log zero = tt
out_leaves g apart log (suc k) = (apart, writes_leave g apart block_bytes (block_batch log) (suc k))

left_out : (g : FileName) → same_file g Log ≡ false → (layout : Layout) (log : LogState) (k : ℕ) (es : List Event) → HasFile g layout es → HasFile g layout (out_events k log ++ es)
left_out g apart layout log k es has = file_left_alone g layout es (out_events k log ++ es) (record { news = out_events k log; is = refl; all = out_leaves g apart log k }) has

-- a write out leaves the files of a store, where the log's is as long as it was
pub files_out : (blocks : ℕ) (spaces : List SpaceInfo) (log : LogState) (k : ℕ) (old new : Past) → At (HasStoreFiles blocks spaces) old → At (HasFile Log (log_places blocks)) new → new ≡ grows (out_events k log) old → At (HasStoreFiles blocks spaces) new
files_out blocks spaces log k None new files own is = record { here = λ es now. absurd (none-some es (sym is ∙ now)) }
files_out blocks spaces log k (Some s) new files own is = record {
  here = λ es now.
      let same : out_events k log ++ s ≡ es = same_Some (out_events k log ++ s) es (sym is ∙ now) in
      let before = files.here s refl in
      record {
        log = own.here es now;
        double = subst (HasFile Double slots) same (left_out Double refl slots log k s before.double);
        spaces_there = λ i d lt. beside (slice_index_or spaces i d) es same (before.spaces_there i d lt);
      };
}
  where
    beside : (x : SpaceInfo) (es : List Event) → out_events k log ++ s ≡ es → HasFile (Space x.space) (pages x.pages) s → HasFile (Space x.space) (pages x.pages) es
    beside x es same has = subst (λ (l : List Event). HasFile (Space x.space) (pages x.pages) l) same (left_out (Space x.space) refl (pages x.pages) log k s has)

-- a write out makes no call where no block is pending, and else a write for each and a sync
pub calls_out : {D : Type 0} (clock : D → ℕ) (log : LogState) (old new : Counted D) → (pending_count log ≡ 0 → new ≡ old) → calls_of clock new ≤ calls_of clock old + (pending_count log + 1) → calls_of clock new ≤ calls_of clock old + write_calls (pending_count log)
calls_out {D} clock log old new still most = by (pending_count log) refl
  where
    by : (k : ℕ) → pending_count log ≡ k → calls_of clock new ≤ calls_of clock old + write_calls k
    by zero none = subst (λ (d : Counted D). calls_of clock d ≤ calls_of clock old + 0) (sym (still none)) (omega arith)
    by (suc k) some = omega (arith, most, some)

-- the entries end no later than the log
entries_up : (spaces : List HeldSpace) (number : ℕ) (es : List Entry) (next : ℕ) → AreEntries spaces number es next → number ≤ next
entries_up spaces number [] next here = omega (arith, here)
entries_up spaces number (e ∷ es) next (here, rest) = let up = entries_up spaces (number + block_count (text_of e.mtr)) es next rest in omega (arith, up)

entries_below : (spaces : List HeldSpace) (number : ℕ) (es : List Entry) (next : ℕ) → AreEntries spaces number es next → All (λ e. e.lsn ≤ next * block_bytes) es
entries_below spaces number [] next here k d lt = absurd (omega (arith, lt))
entries_below spaces number (e ∷ es) next (here, rest) zero d lt =
    let up = entries_up spaces (number + block_count (text_of e.mtr)) es next rest in
    let lsn : e.lsn ≡ (number + block_count (text_of e.mtr)) * 4096 = here.lsn in
    omega (arith, up, lsn)
entries_below spaces number (e ∷ es) next (here, rest) (suc k) d lt = entries_below spaces (number + block_count (text_of e.mtr)) es next rest k d (omega (arith, lt))

none_pending : (old log : LogState) → log ≡ written_out old → durable log ≡ log.next
none_pending old log is = subst (λ (l : LogState). durable l ≡ l.next) (sym is) (omega arith)

-- and so each is durable where no block is pending
durable_all : (spaces : List HeldSpace) (number : ℕ) (es : List Entry) (log : LogState) (count : ℕ) → count ≡ length es → AreEntries spaces number es log.next → durable log ≡ log.next → All (λ e. e.lsn ≤ durable log * block_bytes) (take count es)
durable_all spaces number es log count all entries none =
    subst (λ (l : List Entry). All (λ e. e.lsn ≤ durable log * block_bytes) l) (sym (take_all count es (omega (arith, all))))
    (subst (λ (n : ℕ). All (λ e. e.lsn ≤ n * block_bytes) es) (sym none) (entries_below spaces number es log.next entries))

-- what is acknowledged stays so while no more is pending than was
settled_still : (count : ℕ) (es : List Entry) (old log : LogState) → durable old ≤ durable log → All (λ e. e.lsn ≤ durable old * block_bytes) (take count es) → All (λ e. e.lsn ≤ durable log * block_bytes) (take count es)
settled_still count es old log up settled k d lt =
    let low : (slice_index_or (take count es) k d).lsn ≤ durable old * 4096 = settled k d lt in
    omega (arith, up, low)

module _ {D : Type 0} (past : D → Past) (old : Running D) where
  -- a write out was refused
  pub unwritten : (from : Running D) (disk : Counted D) (log : LogState) (e : EngineFault) → from ≡ old → IsStopOf disk e → log ≡ handed_over from.log → IsPart Log block_bytes (block_batch from.log) (pending_count from.log) (past from.disk.disk) (past disk.disk)
      → IsSyncedInPart past old (record from { disk = disk; log = log }) e
  unwritten from disk log e same stop kept part =
      subst (λ (r : Running D). IsSyncedInPart past r (record from { disk = disk; log = log }) e) same (Unwritten stop (ap (λ (l : LogState). record from { disk = disk; log = l }) kept) part)

  -- what the type keeps, once the log was written out and its entries were told as acknowledged
  pub session_synced : (disk : Counted D) (log : LogState) (count : ℕ) → IsSession past old → log ≡ written_out old.log → IsOpen log → count ≡ length old.journal → At (HasStoreFiles old.store.header.blocks old.store.spaces) (past disk.disk)
      → At (ReadsAsTold old.store (written_out old.log) old.pool) (past disk.disk) → IsSession past (record old { disk = disk; log = log; acked = count })
  session_synced disk log count kept is numbers all files reads =
      let next : old.log.next ≡ log.next = sym (ap (λ (l : LogState). l.next) is) in
      record {
        spaces = kept.spaces;
        active = kept.active;
        keyed = kept.keyed;
        floors = kept.floors;
        ring = ap (λ (l : LogState). l.blocks) is ∙ kept.ring;
        numbers = numbers;
        entries = subst (λ (n : ℕ). AreEntries old.store.header.spaces old.begins old.journal n) next kept.entries;
        acked = omega (arith, all);
        settled = durable_all old.store.header.spaces old.begins old.journal log count all (subst (λ (n : ℕ). AreEntries old.store.header.spaces old.begins old.journal n) next kept.entries) (none_pending old.log log is);
        dirty = subst (λ (l : LogState). AreDirtyOf old.store l old.pool) (sym is) (dirty_out old.store old.log old.pool kept.dirty);
        files = λ up. files;
        reads = λ up. subst (λ (l : LogState). At (ReadsAsTold old.store l old.pool) (past disk.disk)) (sym is) reads;
      }

  -- a session that wasn't stopped isn't synced as its disk was stopped in the call
  pub synced_in_part : {T : Type 0} (new : Running D) (result : Result T EngineFault) → old.disk.stop ≡ None → IfErr result (IsSyncedInPart past old new) → IfErr result (IsSyncRefusal past old new)
  synced_in_part new (Ok v) up part = tt
  synced_in_part new (Err e) up part = InPart up part

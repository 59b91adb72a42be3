-- From which block on a session's log may be kept, and what its type keeps once a checkpoint says so.
use Rattle.std.proofs.Common.{◌≡◌, ◌≢◌, ℕ, zero, suc, ◌+◌, ◌-◌, ◌*◌, ◌<◌, ◌≤◌, ◌^◌, Bool, true, false, eq-eqb, ne_eqb, nat_eq, if◌then◌else◌, List, [], ◌∷◌, length, slice_get, slice_index_or, Option, Some, None, Result, Ok, Err, OnOk, OnErr, refl, sym, ap, ◌∙◌, subst, arith}
use Rattle.std.specs.Prelude.{IfErr, option_map}
use Rattle.std.specs.List.{All}
use Rattle.std.proofs.lemmas.Bool.Decides.{nat_tests}
use Rattle.std.proofs.lemmas.Option.{none-some, same_Some}
use Rattle.counted_disk.specs.declared.counted.Counted.{Counted}
use Rattle.counted_disk.specs.declared.counted.Stop.{Stop}
use Rattle.crash_image.specs.LogForm.{log_places}
use Rattle.disk_model.specs.Event.{Event, Sync, reads}
use Rattle.disk_model.specs.Past.{Past, At, grow}
use Rattle.disk_model.specs.declared.names.FileName.{FileName}
use Rattle.disk_model.specs.declared.names.FileName.TheVariants.{Log as LogFile}
use Rattle.disk_model.proofs.Moments.{at_each, at_grow, at_is}
use Rattle.page_pool.specs.Pages.{PoolState}
use Rattle.page_pool.specs.declared.names.DirtyPage.{DirtyPage}
use Rattle.places.specs.Batches.{Batch}
use Rattle.places.specs.Places.{HasFile, place}
use Rattle.places.specs.Writes.{Done, IsPart}
use Rattle.places.proofs.WriteLemmas.{grows_none}
use Rattle.places.proofs.Apart.{place-put_other, place-put_same}
use Rattle.places.proofs.FileSteps.{file_sync, file_write}
use Rattle.redo_log.specs.Check.{check_bytes}
use Rattle.redo_log.specs.Events.{check_event}
use Rattle.redo_log.specs.Log.{IsOpen, durable, pending_count, with_checkpoint}
use Rattle.redo_log.specs.State.{LogState}
use Rattle.redo_log.proofs.CheckLaws.{length-check, made_check}
use Rattle.space_head.specs.declared.space.SpaceInfo.{SpaceInfo}
use Rattle.store_files.specs.Checkpoint.{IsNewestCheckpoint, checkpoint_in}
use Rattle.store_files.specs.Header.{HeldHeader, header_in}
use Rattle.store_image.specs.Checkpoint.{HeldCheckpoint, side_of}
use Rattle.session_core.specs.Checking.{kept_from, first_block}
use Rattle.session_core.specs.Dirty.{AreDirtyOf, HasPendingPage, IsInRun}
use Rattle.session_core.specs.Files.{HasStoreFiles, IsStopOf}
use Rattle.session_core.specs.Session.{IsSession, Running}
use Rattle.session_core.specs.Spaces.{StoreSpaces}
use Rattle.session_core.specs.Told.{HasFront, TellsHead, ReadsAsTold}
use Rattle.session_core.specs.declared.fault.EngineFault.{EngineFault}

-- ---- the block that a checkpoint names

pub block_some : (ds : List DirtyPage) (first next : ℕ) → Some first ≡ option_map (λ (d : DirtyPage). d.first) (slice_get ds 0) → first ≡ first_block ds next
block_some [] first next is = absurd (none-some first (sym is))
block_some (d ∷ ds) first next is = same_Some first d.first is

pub block_none : (ds : List DirtyPage) (next : ℕ) → None ≡ option_map (λ (d : DirtyPage). d.first) (slice_get ds 0) → next ≡ first_block ds next
block_none [] next is = refl
block_none (d ∷ ds) next is = absurd (none-some d.first is)

pub none_dirty_least : (ds : List DirtyPage) (next : ℕ) → None ≡ option_map (λ (d : DirtyPage). d.first) (slice_get ds 0) → All (λ d. next ≤ d.first) ds
none_dirty_least [] next is = λ k d lt. absurd (omega (arith, lt))
none_dirty_least (d ∷ ds) next is = absurd (none-some d.first is)

module _ (log : LogState) (open_ : IsOpen log) where
  pub block_low : (ds : List DirtyPage) → All (IsInRun log) ds → log.from ≤ first_block ds log.next
  block_low [] within = let order = open_.order in omega (arith, order)
  block_low (d ∷ ds) within = (within 0 d (omega arith)).from

  block_next : (ds : List DirtyPage) → All (IsInRun log) ds → first_block ds log.next ≤ log.next
  block_next [] within = omega arith
  block_next (d ∷ ds) within = let first = (within 0 d (omega arith)).first in omega (arith, first)

  -- with nothing pending each block is durable, and else a dirty page begins no later than the first pending one
  pub block_high : (ds : List DirtyPage) → All (IsInRun log) ds → (0 < pending_count log → HasPendingPage log ds) → All (λ d. first_block ds log.next ≤ d.first) ds → first_block ds log.next ≤ durable log
  block_high ds within pending least = by (pending_count log) refl
    where
      by_page : HasPendingPage log ds → first_block ds log.next ≤ durable log
      by_page page =
          let (k, lt, is) = page.there in
          let same : (slice_index_or ds k page.page).first ≡ page.page.first = ap (λ (d : DirtyPage). d.first) is in
          let low : first_block ds log.next ≤ (slice_index_or ds k page.page).first = least k page.page lt in
          let high = page.first in
          omega (arith, same, low, high)

      by : (n : ℕ) → pending_count log ≡ n → first_block ds log.next ≤ durable log
      by zero none = let next = block_next ds within in omega (arith, none, next)
      by (suc n) some = by_page (pending (omega (arith, some)))

-- ---- the log's file once the checkpoint is written

module _ (blocks sequence from : ℕ) (es : List Event) (file : HasFile LogFile (log_places blocks) es) (some : 1 ≤ sequence) (below : sequence < from) (most : from ≤ 2 ^ 50) where
  abbrev side : ℕ
  side = side_of sequence

  abbrev block : List ℕ
  block = check_bytes sequence from

  abbrev written : List Event
  written = Sync LogFile ∷ check_event sequence from ∷ es

  block_long : length block ≡ 4096
  block_long = length-check sequence from some below most

  fits : side * 4096 + 4096 ≤ length (reads LogFile es)
  fits = let long : length (reads LogFile es) ≡ (3 + blocks) * 4096 = file.size in omega (arith, long)

  own_place : place 4096 side (reads LogFile written) ≡ block
  own_place = place-put_same 4096 side block (reads LogFile es) block_long fits

  other_place : (i : ℕ) → i ≢ side → place 4096 i (reads LogFile written) ≡ place 4096 i (reads LogFile es)
  other_place i differs = place-put_other 4096 side block (reads LogFile es) block_long fits i differs

  made : checkpoint_in side block ≡ Some (record { sequence = sequence; from = from })
  made = made_check sequence from some below most

  pub front_written : (header : HeldHeader) (log : LogState) → HasFront header log es → log.sequence + 1 ≡ sequence → HasFront header (record log { from = from; sequence = sequence }) written
  front_written header log front next = record {
    is_header = ap header_in (other_place 0 (λ is. omega (arith, is))) ∙ front.is_header;
    checkpoint = record { is = ap (checkpoint_in side) own_place ∙ made; newest = λ i d at. by i d (nat_eq i side) refl at };
  }
    where
      by : (i : ℕ) (d : HeldCheckpoint) (b : Bool) → nat_eq i side ≡ b → checkpoint_in i (place 4096 i (reads LogFile written)) ≡ Some d → d.sequence ≤ sequence
      by i d true same at =
          let here : i ≡ side = grind (arith, nat_tests) in
          let own : checkpoint_in side (place 4096 side (reads LogFile written)) ≡ Some d = subst (λ (k : ℕ). checkpoint_in k (place 4096 k (reads LogFile written)) ≡ Some d) here at in
          let is : sequence ≡ d.sequence = ap (λ (c : HeldCheckpoint). c.sequence) (same_Some _ d (sym (ap (checkpoint_in side) own_place ∙ made) ∙ own)) in
          omega (arith, is)
      by i d false other at =
          let apart : i ≢ side = λ is. grind (arith, nat_tests) in
          let old : d.sequence ≤ log.sequence = front.checkpoint.newest i d (ap (checkpoint_in i) (sym (other_place i apart)) ∙ at) in
          omega (arith, old, next)

  pub log_written : HasFile LogFile (log_places blocks) written
  log_written = file_sync LogFile LogFile (log_places blocks) (check_event sequence from ∷ es) (file_write LogFile LogFile (log_places blocks) (side * 4096) block block es (omega (arith, block_long)) file)

-- the dirty pages of a log with another first block, which none of them is before
pub dirty_checked : (store : StoreSpaces) (log : LogState) (pool : PoolState) (from sequence : ℕ) → AreDirtyOf store log pool → All (λ d. from ≤ d.first) pool.dirty.entries → AreDirtyOf store (record log { from = from; sequence = sequence }) pool
dirty_checked store log pool from sequence kept least = record {
  marks = kept.marks;
  typed = kept.typed;
  within = λ k d lt. let run = kept.within k d lt in record { from = least k d lt; first = run.first; behind = run.behind; lsn = run.lsn };
  pending = λ some. let page = kept.pending some in record { page = page.page; there = page.there; first = page.first; lsn = page.lsn };
}

-- ---- the session behind a checkpoint

module _ {D : Type 0} (past : D → Past) (r : Running D) (kept : IsSession past r) (from : ℕ) (disk : Counted D) where
  abbrev moved_log : LogState
  moved_log = record r.log { from = from; sequence = r.log.sequence + 1 }

  no_run : (e : EngineFault) → IsStopOf disk e → disk.stop ≡ None → ⊥
  no_run e (s, is, same) none = none-some s (sym none ∙ is)

  refused : (e : EngineFault) → IsStopOf disk e → IsSession past (record r { disk = disk })
  refused e stop = record {
    spaces = kept.spaces;
    active = kept.active;
    keyed = kept.keyed;
    floors = kept.floors;
    ring = kept.ring;
    numbers = kept.numbers;
    entries = kept.entries;
    acked = kept.acked;
    settled = kept.settled;
    dirty = kept.dirty;
    files = λ runs. absurd (no_run e stop runs);
    reads = λ runs. absurd (no_run e stop runs);
  }

  module _ (up : r.disk.stop ≡ None) (high : from ≤ durable r.log) (least : All (λ d. from ≤ d.first) r.pool.dirty.entries) (after : r.log.from < from)
      (exact : past disk.disk ≡ grow (Sync LogFile) (grow (check_event (r.log.sequence + 1) from) (past r.disk.disk))) (numbers : IsOpen moved_log) where
    sequence_below : r.log.sequence + 1 < from
    sequence_below = let below = kept.numbers.below in omega (arith, below, after)

    from_most : from ≤ 2 ^ 50
    from_most = let most = kept.numbers.high in omega (arith, most, high)

    files_after : (es : List Event) → HasStoreFiles r.store.header.blocks r.store.spaces es → HasStoreFiles r.store.header.blocks r.store.spaces (Sync LogFile ∷ check_event (r.log.sequence + 1) from ∷ es)
    files_after es files = record {
      log = log_written r.store.header.blocks (r.log.sequence + 1) from es files.log (omega arith) sequence_below from_most;
      double = record { there = files.double.there; size = files.double.size };
      spaces_there = λ k d lt. let space = files.spaces_there k d lt in record { there = space.there; size = space.size };
    }

    told_after : (es : List Event) → HasStoreFiles r.store.header.blocks r.store.spaces es → ReadsAsTold r.store r.log r.pool es → ReadsAsTold r.store moved_log r.pool (Sync LogFile ∷ check_event (r.log.sequence + 1) from ∷ es)
    told_after es files told = record {
      front = front_written r.store.header.blocks (r.log.sequence + 1) from es files.log (omega arith) sequence_below from_most r.store.header r.log told.front refl;
      homes = λ s p info is within clean. told.homes s p info is within clean;
      heads = λ s info is. let head = told.heads s info is in record { mode = head.mode; home = λ clean. head.home clean; held = head.held };
    }

    both : At (λ es. HasStoreFiles r.store.header.blocks r.store.spaces es × ReadsAsTold r.store r.log r.pool es) (past r.disk.disk)
    both = record { here = λ es is. ((kept.files up).here es is, (kept.reads up).here es is) }

    carried : {P : List Event → Type 0} → ((es : List Event) → HasStoreFiles r.store.header.blocks r.store.spaces es × ReadsAsTold r.store r.log r.pool es → P (Sync LogFile ∷ check_event (r.log.sequence + 1) from ∷ es)) → At P (past disk.disk)
    carried {P} keeps = at_is exact (at_grow {P = λ m. P (Sync LogFile ∷ m)} (Sync LogFile) (λ es p. p) (at_grow (check_event (r.log.sequence + 1) from) keeps both))

    moved : IsSession past (record r { disk = disk; log = moved_log })
    moved = record {
      spaces = kept.spaces;
      active = kept.active;
      keyed = kept.keyed;
      floors = kept.floors;
      ring = kept.ring;
      numbers = numbers;
      entries = kept.entries;
      acked = kept.acked;
      settled = kept.settled;
      dirty = dirty_checked r.store r.log r.pool from (r.log.sequence + 1) kept.dirty least;
      files = λ runs. carried (λ es p. files_after es p.0);
      reads = λ runs. carried (λ es p. told_after es p.0 p.1);
    }

  -- What its type keeps, whichever the answer was: nothing where the disk was stopped, and else the new checkpoint, if it is another one.
  pub session_checked : (log : LogState) (result : Result ℕ EngineFault) → r.disk.stop ≡ None → r.log.from ≤ from → from ≤ durable r.log → All (λ d. from ≤ d.first) r.pool.dirty.entries → OnOk result (log ≡ with_checkpoint r.log from) → OnErr result (log ≡ r.log) → IsOpen log
      → (from ≡ r.log.from → disk ≡ r.disk) → (r.log.from < from → OnOk result (past disk.disk ≡ grow (Sync LogFile) (grow (check_event (r.log.sequence + 1) from) (past r.disk.disk)))) → IfErr result (IsStopOf disk) → IsSession past (record r { disk = disk; log = log })
  session_checked log (Err e) up low high least ok err numbers still exact stop = subst (λ (l : LogState). IsSession past (record r { disk = disk; log = l })) (sym err) (refused e stop)
  session_checked log (Ok v) up low high least ok err numbers still exact stop = by (nat_eq from r.log.from) refl ok
    where
      by : (b : Bool) → nat_eq from r.log.from ≡ b → log ≡ (if b then r.log else moved_log) → IsSession past (record r { disk = disk; log = log })
      by true same is =
          let here : from ≡ r.log.from = grind (arith, nat_tests) in
          subst (λ (l : LogState). IsSession past (record r { disk = disk; log = l })) (sym is) (subst (λ (d : Counted D). IsSession past (record r { disk = d })) (sym (still here)) kept)
      by false other is =
          let apart : from ≢ r.log.from = λ same. grind (arith, nat_tests) in
          let after : r.log.from < from = omega (arith, low, apart) in
          subst (λ (l : LogState). IsSession past (record r { disk = disk; log = l })) (sym is) (moved up high least after (exact after) (subst IsOpen is numbers))

-- where nothing was done, no more than a part was
pub none_done : {T X : Type 0} (result : Result T X) (f : FileName) (n : ℕ) (b : Batch) (k : ℕ) (past : Past) → OnErr result (IsPart f n b k past past)
none_done (Ok v) f n b k past = tt
none_done (Err e) f n b k past = Done 0 (omega arith) (sym (grows_none past))

-- What a write out of the log and a mark leave of what the disk reads as.
use Rattle.std.proofs.Common.{◌≡◌, ◌≢◌, ℕ, zero, suc, ◌+◌, ◌*◌, ◌<◌, ◌≤◌, Bool, true, false, if◌then◌else◌, List, [], ◌∷◌, ◌++◌, length, Option, Some, None, refl, sym, ap, ◌∙◌, subst, arith}
use Rattle.std.proofs.lemmas.Option.{none-some, same_Some}
use Rattle.byte_list.specs.Fields.{be64_at}
use Rattle.crash_image.specs.LogForm.{log_places}
use Rattle.disk_model.specs.Event.{Event, Sync, Tell, Write, reads}
use Rattle.disk_model.specs.Past.{Past, At}
use Rattle.disk_model.specs.declared.names.FileName.TheVariants.{Log as LogFile, Space}
use Rattle.disk_model.specs.declared.names.Mark.{Mark}
use Rattle.page_places.specs.Texts.{page_bytes}
use Rattle.page_pool.specs.Pages.{PoolState}
use Rattle.places.specs.Places.{HasFile, place, shown}
use Rattle.places.specs.Writes.{grows, writes_of}
use Rattle.places.proofs.FileSteps.{file_write}
use Rattle.places.proofs.Steps.{file_shown_other, place_ends}
use Rattle.redo_log.specs.Events.{block_batch, out_events}
use Rattle.redo_log.specs.Log.{IsOpen, handed_over, pending_at, pending_count, written_out}
use Rattle.redo_log.specs.State.{LogState}
use Rattle.redo_log.proofs.BlockSteps.{block_next}
use Rattle.redo_log.proofs.CheckLaws.{check_is}
use Rattle.space_head.specs.Head.{head_of}
use Rattle.space_head.specs.declared.space.SpaceInfo.{SpaceInfo}
use Rattle.store_files.specs.Checkpoint.{checkpoint_in, is_checkpoint}
use Rattle.store_files.specs.Header.{HeldHeader, header_in}
use Rattle.store_form.specs.Rest.{home_told}
use Rattle.store_image.specs.Checkpoint.{HeldCheckpoint, side_of}
use Rattle.session_core.specs.Dirty.{AreDirtyOf}
use Rattle.session_core.specs.Files.{HasStoreFiles}
use Rattle.session_core.specs.Spaces.{StoreSpaces}
use Rattle.session_core.specs.Told.{HasFront, ReadsAsTold}

-- a checkpoint stands in one of the first three blocks
front_side : (i : ℕ) (b : List ℕ) (d : HeldCheckpoint) → checkpoint_in i b ≡ Some d → i < 3
unfolding checkpoint_in
front_side i b d is = by (is_checkpoint i b) refl is
  where
    by : (t : Bool) → is_checkpoint i b ≡ t → (if t then Some (record { sequence = be64_at b 8; from = be64_at b 16 }) else None) ≡ Some d → i < 3
    by true test at = let side = (check_is i b test).at in omega (arith, side)
    by false test at = absurd (none-some d at)

-- what leaves the first three blocks leaves the front
front_same : (header : HeldHeader) (log : LogState) (es new : List Event) → ((i : ℕ) → i < 3 → place 4096 i (reads LogFile new) ≡ place 4096 i (reads LogFile es)) → HasFront header log es → HasFront header log new
front_same header log es new same front = record {
  is_header = ap header_in (same 0 (omega arith)) ∙ front.is_header;
  checkpoint = record {
    is = ap (checkpoint_in (side_of log.sequence)) (same (side_of log.sequence) (omega arith)) ∙ front.checkpoint.is;
    newest = λ i d at. front.checkpoint.newest i d (ap (checkpoint_in i) (sym (same i (front_side i _ d at))) ∙ at);
  };
}

-- the writes of pending blocks leave it
module _ (log : LogState) (numbers : IsOpen log) (es : List Event) (file : HasFile LogFile (log_places log.blocks) es) where
  record IsFrontLeft (k : ℕ) : Type 0 where
    stays : HasFile LogFile (log_places log.blocks) (writes_of LogFile 4096 (block_batch log) k ++ es)
    same : (i : ℕ) → i < 3 → place 4096 i (reads LogFile (writes_of LogFile 4096 (block_batch log) k ++ es)) ≡ place 4096 i (reads LogFile es)

  left_by : (k : ℕ) → k ≤ pending_count log → IsFrontLeft k
  left_by zero le = record { stays = file; same = λ i lt. refl }
  left_by (suc k) le =
      let before = left_by k (omega (arith, le)) in
      let next = block_next log k (omega (arith, le)) numbers in
      let long : length (pending_at log k) ≡ 4096 = next.long in
      let within = next.within in
      let ends = place_ends (log_places log.blocks) ((block_batch log).place k) within in
      let earlier : List Event = writes_of LogFile 4096 (block_batch log) k ++ es in
      record {
        stays = file_write LogFile LogFile (log_places log.blocks) ((block_batch log).place k * 4096) (pending_at log k) (pending_at log k) earlier (omega (arith, long, ends)) before.stays;
        same = λ i lt. file_shown_other LogFile (log_places log.blocks) ((block_batch log).place k) (pending_at log k) (pending_at log k) earlier before.stays within long i (λ is. omega (arith, is, lt)) ∙ before.same i lt;
      }

  pub front_out : (header : HeldHeader) (k : ℕ) → k ≤ pending_count log → HasFront header log es → HasFront header (written_out log) (out_events k log ++ es)
  front_out header zero le front = record { is_header = front.is_header; checkpoint = front.checkpoint }
  front_out header (suc k) le front =
      let left = left_by (suc k) le in
      let now = front_same header log es (Sync LogFile ∷ (writes_of LogFile 4096 (block_batch log) (suc k) ++ es)) left.same front in
      record { is_header = now.is_header; checkpoint = now.checkpoint }

-- and they leave each space
space_out : (log : LogState) (s : ℕ) (k : ℕ) (es : List Event) → reads (Space s) (writes_of LogFile 4096 (block_batch log) k ++ es) ≡ reads (Space s) es
space_out log s zero es = refl
space_out log s (suc k) es = space_out log s k es

pub spaces_out : (log : LogState) (s : ℕ) (k : ℕ) (es : List Event) → reads (Space s) (out_events k log ++ es) ≡ reads (Space s) es
spaces_out log s zero es = refl
spaces_out log s (suc k) es = space_out log s (suc k) es

-- What the disk reads as is told still where each space reads as it did.
pub told_spaces_same : (store : StoreSpaces) (log moved : LogState) (pool : PoolState) (es new : List Event) → ((s : ℕ) → reads (Space s) new ≡ reads (Space s) es) → HasFront store.header moved new → ReadsAsTold store log pool es → ReadsAsTold store moved pool new
told_spaces_same store log moved pool es new same front told = record {
  front = front;
  homes = λ s p info is within clean. told.homes s p info is within clean ∙ sym (ap (λ (l : List ℕ). home_told (place page_bytes p l)) (same s));
  heads = λ s info is.
      let head = told.heads s info is in
      record { mode = head.mode; home = λ clean. ap (λ (l : List ℕ). head_of (place page_bytes 0 l)) (same info.space) ∙ head.home clean; held = head.held };
}

-- a write out of the pending blocks
pub told_out : (store : StoreSpaces) (log : LogState) (pool : PoolState) (es : List Event) → IsOpen log → HasFile LogFile (log_places log.blocks) es → ReadsAsTold store log pool es → ReadsAsTold store (written_out log) pool (out_events (pending_count log) log ++ es)
told_out store log pool es numbers file told =
    told_spaces_same store log (written_out log) pool es (out_events (pending_count log) log ++ es) (λ s. spaces_out log s (pending_count log) es) (front_out log numbers es file store.header (pending_count log) (omega arith) told.front) told

-- a mark
pub told_mark : (store : StoreSpaces) (log : LogState) (pool : PoolState) (m : Mark) (es : List Event) → ReadsAsTold store log pool es → ReadsAsTold store log pool (Tell m ∷ es)
told_mark store log pool m es told = told_spaces_same store log log pool es (Tell m ∷ es) (λ s. refl) (record { is_header = told.front.is_header; checkpoint = told.front.checkpoint }) told

-- what events keep is there once they were added
pub at_grows : {P Q : List Event → Type 0} (news : List Event) (old new : Past) → ((es : List Event) → P es → Q (news ++ es)) → At P old → new ≡ grows news old → At Q new
at_grows news None new keeps at is = record { here = λ es now. absurd (none-some es (sym is ∙ now)) }
at_grows {P} {Q} news (Some s) new keeps at is = record { here = λ es now. subst Q (same_Some (news ++ s) es (sym is ∙ now)) (keeps s (at.here s refl)) }

-- what the disk reads as once the pending blocks were written and synced
pub reads_out : (store : StoreSpaces) (log : LogState) (pool : PoolState) (old new : Past) → IsOpen log → log.blocks ≡ store.header.blocks → At (HasStoreFiles store.header.blocks store.spaces) old → At (ReadsAsTold store log pool) old
    → new ≡ grows (out_events (pending_count log) log) old → At (ReadsAsTold store (written_out log) pool) new
reads_out store log pool old new numbers ring files told is =
    at_grows {P = λ es. HasFile LogFile (log_places log.blocks) es × ReadsAsTold store log pool es} (out_events (pending_count log) log) old new (λ es p. told_out store log pool es numbers p.0 p.1)
    (record { here = λ es now. (subst (λ (n : ℕ). HasFile LogFile (log_places n) es) (sym ring) (files.here es now).log, told.here es now) }) is

-- ---- the dirty pages, once the pending blocks were handed to the disk, and once they are durable

pub dirty_handed : (store : StoreSpaces) (log : LogState) (pool : PoolState) → AreDirtyOf store log pool → AreDirtyOf store (handed_over log) pool
dirty_handed store log pool kept = record {
  marks = kept.marks;
  typed = kept.typed;
  within = λ k d lt. let run = kept.within k d lt in record { from = run.from; first = run.first; behind = run.behind; lsn = run.lsn };
  pending = λ some. let page = kept.pending some in record { page = page.page; there = page.there; first = page.first; lsn = page.lsn };
}

pub dirty_out : (store : StoreSpaces) (log : LogState) (pool : PoolState) → AreDirtyOf store log pool → AreDirtyOf store (written_out log) pool
dirty_out store log pool kept = record {
  marks = kept.marks;
  typed = kept.typed;
  within = λ k d lt. let run = kept.within k d lt in record { from = run.from; first = run.first; behind = run.behind; lsn = run.lsn };
  pending = λ some. absurd (omega (arith, some));
}

-- No place of the ring reads as a block of the next number or a later one: what a close asks of the log, beside what the ring says of each number at its own place.
use Rattle.std.proofs.Common.{◌≡◌, ◌≢◌, ℕ, zero, suc, ◌+◌, ◌^◌, ◌<◌, ◌≤◌, ⊎_elim, true, List, ◌∷◌, ◌++◌, refl, sym, ap, subst, ◌∙◌, arith}
use Rattle.disk_model.specs.Event.{Event, Sync, reads}
use Rattle.disk_model.specs.Does.{Since}
use Rattle.disk_model.specs.declared.names.FileName.{FileName}
use Rattle.disk_model.specs.declared.names.FileName.TheVariants.{Log}
use Rattle.places.specs.Beside.{LeavesFile}
use Rattle.places.specs.Batches.{Batch, IsNext, Wrote}
use Rattle.places.specs.Places.{place, shown, Layout, HasPlaces}
use Rattle.places.specs.Writes.{writes_of}
use Rattle.places.proofs.Batches.{next_wrote, wrote_none}
use Rattle.places.proofs.LeftAlone.{reads_left_alone}
use Rattle.redo_log.specs.State.{LogState}
use Rattle.redo_log.specs.Events.{block_batch, out_events, side_batch, check_event}
use Rattle.redo_log.specs.Log.{IsOpen, durable, pending_at, pending_count}
use Rattle.redo_log.proofs.BlockSteps.{block_next}
use Rattle.redo_log.proofs.CheckSteps.{check_next}
use Rattle.redo_text.specs.declared.change.Change.{Change}
use Rattle.ring_log.specs.Ring.{Form, RingState, RingReady}
use Rattle.ring_log.proofs.Events.{one_of}
use Rattle.store_image.specs.View.{block_bytes}
use Rattle.store_files.specs.RingBlock.{is_ring_block}
use Rattle.store_files.specs.Run.{IsClear}
use Rattle.store_files.proofs.RingBlocks.{block_number}
use Rattle.crash_image.proofs.LogForms.{is_form}
use Rattle.session_image.specs.Kept.{SessionStore, session_form}
use Rattle.crash_image.specs.LogForm.{log_places}

-- a later number is the next
pub clear_more : (N : ℕ) (file : List ℕ) (next n : ℕ) → next ≤ n → IsClear N file next → IsClear N file n
clear_more N file next n up clear i m within le is = clear i m within (omega (arith, up, le)) is

-- events that leave the log as it is
pub clear_beside : (N next : ℕ) (s m : List Event) → Since (LeavesFile Log) s m → IsClear N (reads Log s) next → IsClear N (reads Log m) next
clear_beside N next s m since clear = subst (λ (file : List ℕ). IsClear N file next) (sym (reads_left_alone Log s m since)) clear

-- the first writes of a batch, each of which the file can take
wrote_events : (f : FileName) (layout : Layout) (b : Batch) (s : List Event) → HasPlaces f layout s → (k : ℕ) → ((j : ℕ) → j < k → IsNext layout b j) → Wrote f layout b k s (writes_of f layout.size b k ++ s)
wrote_events f layout b s has zero next = wrote_none f layout b s has
wrote_events f layout b s has (suc k) next =
    let same : k + 1 ≡ suc k = omega arith in
    subst (λ (n : ℕ). Wrote f layout b n s (writes_of f layout.size b (suc k) ++ s)) same
    (next_wrote f layout b s k (next k (omega arith)) (writes_of f layout.size b k ++ s) (wrote_events f layout b s has k (λ j below. next j (omega (arith, below)))))

module _ (store : SessionStore) where
  abbrev N : ℕ
  N = store.header.blocks

  abbrev F : Form (List Change)
  F = session_form store

  module _ (r : RingState) (s : List Event) (ready : RingReady N F r s) (next : ℕ) (clear : IsClear N (reads Log s) next) where
    -- a batch of blocks before the next number, or of places before the ring
    by_batch : (b : Batch) (k : ℕ) (m : List Event) → Wrote Log (log_places N) b k s m → ((j i n : ℕ) → j < k → b.place j ≡ 3 + i → next ≤ n → is_ring_block n (b.bytes j) ≡ true → ⊥) → IsClear N (reads Log m) next
    by_batch b k m wrote none i n within le is = ⊎_elim
        (λ (o : (j : ℕ) × (j < k) × (b.place j ≡ 3 + i)).
        let bytes : place block_bytes (3 + i) (reads Log m) ≡ b.bytes o.0 = ap (λ (q : ℕ). shown Log block_bytes q m) (sym o.2) ∙ wrote.new o.0 o.1 in
        none o.0 i n o.1 o.2 le (ap (is_ring_block n) (sym bytes) ∙ is))
        (λ (aside : (j : ℕ) → j < k → b.place j ≢ 3 + i). clear i n within le (ap (is_ring_block n) (sym (wrote.old (3 + i) aside)) ∙ is))
        (one_of N F (is_form store.header store.book) r s m ready b k (3 + i))

    -- a write out of the log, whose blocks have numbers before the next one
    pub clear_written : (log : LogState) → log.blocks ≡ N → log.next ≡ next → IsOpen log → (m : List Event) → m ≡ out_events (pending_count log) log ++ s → IsClear N (reads Log m) next
    clear_written log size is_next open_log m exact = subst (λ (es : List Event). IsClear N (reads Log es) next) (sym exact) (by (pending_count log) refl)
      where
        number : (j n : ℕ) → j < pending_count log → next ≤ n → is_ring_block n (pending_at log j) ≡ true → ⊥
        number j n below le is =
            let same : durable log + j ≡ n = sym (block_number (durable log + j) (pending_at log j) (open_log.valid j below)) ∙ block_number n (pending_at log j) is in
            let order = open_log.order in
            omega (arith, same, le, below, is_next, order)

        wrote : (k : ℕ) → pending_count log ≡ k → Wrote Log (log_places N) (block_batch log) k s (writes_of Log block_bytes (block_batch log) k ++ s)
        wrote k total = wrote_events Log (log_places N) (block_batch log) s ready.ringed.places k
            (λ j below. subst (λ (blocks : ℕ). IsNext (log_places blocks) (block_batch log) j) size (block_next log j (omega (arith, below, total)) open_log))

        by : (k : ℕ) → pending_count log ≡ k → IsClear N (reads Log (out_events k log ++ s)) next
        by zero total = clear
        by (suc k) total = by_batch (block_batch log) (suc k) (writes_of Log block_bytes (block_batch log) (suc k) ++ s) (wrote (suc k) total) (λ j i n below at le is. number j n (omega (arith, below, total)) le is)

    -- a checkpoint, which stands before the ring
    pub clear_checked : (sequence from : ℕ) → 1 ≤ sequence → sequence < from → from ≤ 2 ^ 50 → IsClear N (reads Log (Sync Log ∷ check_event sequence from ∷ s)) next
    clear_checked sequence from some order most =
        by_batch (side_batch sequence from) 1 (check_event sequence from ∷ s)
        (wrote_events Log (log_places N) (side_batch sequence from) s ready.ringed.places 1 (λ j below. let none : 0 ≡ j = omega (arith, below) in subst (IsNext (log_places N) (side_batch sequence from)) none (check_next N sequence from some order most)))
        (λ j i n below at le is. omega (arith, at))

-- The log in memory after its calls.
use Rattle.std.proofs.Common.{[], ◌≡◌, ◌≢◌, ℕ, ◌+◌, ◌^◌, ◌<◌, ◌≤◌, Bool, true, false, nat_eq, if◌then◌else◌, refl, sym, ap, subst, ◌∙◌, arith, None, List}
use Rattle.std.proofs.lemmas.Bool.{cond-true, cond-false, eq-eqb, ne_eqb}
use Rattle.std.proofs.lemmas.Option.{none-some}
use Rattle.ring_log.specs.Ring.{RingState, IsBound, IsRingJournal}
use Rattle.ring_log.proofs.Journals.{journal_settled, journal_moved}
use Rattle.store_image.specs.View.{Logged}
use Rattle.redo_text.specs.declared.change.Change.{Change}
use Rattle.redo_log.specs.Blocks.{Keys, redo_form}
use Rattle.ring_log.specs.Batches.{settle, checkpointed}
use Rattle.redo_log.specs.State.{LogState}
use Rattle.redo_log.specs.Log.{IsOpen, durable, pending_count, empty_log, handed_over, written_out, with_checkpoint, checked, FitsRing}
use Rattle.redo_log.proofs.CheckSteps.{checked_same, checked_other}

-- a log with nothing pending
pub empty_open : (blocks from sequence : ℕ) → 32 ≤ blocks → blocks ≤ 4096 → 2 ≤ from → from ≤ 2 ^ 50 → 1 ≤ sequence → sequence < from → IsOpen (empty_log blocks from sequence)
empty_open blocks from sequence least most low high some below = record {
  least = least;
  most = most;
  low = low;
  high = high;
  some = some;
  below = below;
  order = omega arith;
  room = omega arith;
  handed_all = omega arith;
  handed_few = omega arith;
  whole = refl;
  valid = λ j lt. absurd (omega (arith, lt));
}

-- it fits a ring with nothing behind its run, whose journal begins there
pub empty_fits : (blocks from sequence : ℕ) (r : RingState) → r.sequence ≡ sequence → r.from ≡ from → r.written ≡ from → FitsRing r (empty_log blocks from sequence)
empty_fits blocks from sequence r same begins written = record { sequence = same; from = begins; written = written ∙ omega arith; blocks = λ j lt. absurd (omega (arith, lt)) }

pub empty_journal : (blocks from : ℕ) (keys : Keys) (r : RingState) → r.from ≡ from → r.settled ≡ from → r.written ≡ from → r.newer ≡ None → IsRingJournal blocks (redo_form keys) r from [] from
empty_journal blocks from keys r begins settled written none = record {
  entries = refl;
  written = omega (arith, written);
  from = record { before = []; behind = []; parts = refl; left = sym begins };
  newer = λ f is. absurd (none-some f (sym none ∙ is));
  settled = record { before = []; behind = []; parts = refl; left = sym settled };
}

-- the pending blocks were handed to the disk
pub handed_open : (old : LogState) → IsOpen old → IsOpen (handed_over old)
handed_open old is = record {
  least = is.least;
  most = is.most;
  low = is.low;
  high = is.high;
  some = is.some;
  below = is.below;
  order = is.order;
  room = is.room;
  handed_all = omega arith;
  handed_few = omega arith;
  whole = is.whole;
  valid = is.valid;
}

-- the pending blocks are durable
pub cleared_open : (old : LogState) → IsOpen old → IsOpen (written_out old)
cleared_open old is = record {
  least = is.least;
  most = is.most;
  low = is.low;
  high = is.high;
  some = is.some;
  below = is.below;
  order = let a = is.order in omega arith;
  room = is.room;
  handed_all = omega arith;
  handed_few = omega arith;
  whole = refl;
  valid = λ j lt. absurd (omega (arith, lt));
}

pub cleared_fits : (old : LogState) → IsOpen old → (r : RingState) → FitsRing r old → FitsRing (settle r (pending_count old)) (written_out old)
cleared_fits old is r fits = record {
  sequence = fits.sequence;
  from = fits.from;
  written = let a = is.order in let w = fits.written in omega arith;
  blocks = λ j lt. absurd (omega (arith, lt));
}

-- the run begins at a later block
abbrev next_check : LogState → ℕ → LogState
next_check old f = record old { from = f; sequence = old.sequence + 1 }

pub moved_open : (old : LogState) (f : ℕ) → IsOpen old → old.from < f → f ≤ durable old → IsOpen (next_check old f)
moved_open old f is low high = record {
  least = is.least;
  most = is.most;
  low = let a = is.low in omega (arith, low);
  high = is.high;
  some = omega arith;
  below = let a = is.below in omega (arith, low);
  order = let a = is.order in omega (arith, high);
  room = let a = is.room in omega (arith, low);
  handed_all = is.handed_all;
  handed_few = is.handed_few;
  whole = is.whole;
  valid = is.valid;
}

pub moved_fits : (old : LogState) (f : ℕ) → old.from < f → (r : RingState) → FitsRing r old → FitsRing (checked r f) (next_check old f)
moved_fits old f low r fits = subst (λ (q : RingState). FitsRing q (next_check old f)) (checked_other r f (λ e. let a = fits.from in omega (arith, e, low))) (record {
  sequence = ap (λ (s : ℕ). s + 1) fits.sequence;
  from = refl;
  written = fits.written;
  blocks = fits.blocks;
})

-- a checkpoint that does nothing
pub kept_fits : (log : LogState) (f : ℕ) → f ≡ log.from → (r : RingState) → FitsRing r log → FitsRing (checked r f) log
kept_fits log f same r fits = subst (λ (q : RingState). FitsRing q log) (checked_same r f (same ∙ sym fits.from)) fits

-- what a checkpoint makes of the log
pub with_checkpoint_same : (log : LogState) (f : ℕ) → f ≡ log.from → log ≡ with_checkpoint log f
with_checkpoint_same log f same = sym (cond-true (nat_eq f log.from) log (next_check log f) (eq-eqb f log.from same))

pub with_checkpoint_other : (log : LogState) (f : ℕ) → f ≢ log.from → next_check log f ≡ with_checkpoint log f
with_checkpoint_other log f other = sym (cond-false (nat_eq f log.from) log (next_check log f) (ne_eqb f log.from other))

-- the journal of a ring after a write out and after a checkpoint
pub settled_journal : (old : LogState) → IsOpen old → (keys : Keys) (r : RingState) (start : ℕ) (journal : List (Logged (List Change))) → FitsRing r old → r.written ≡ r.settled → IsRingJournal old.blocks (redo_form keys) r start journal old.next
    → IsRingJournal old.blocks (redo_form keys) (settle r (pending_count old)) start journal old.next
settled_journal old is keys r start journal fits all j =
    let order = is.order in
    let written = fits.written in
    journal_settled old.blocks (redo_form keys) r (pending_count old) start old.next journal all (omega (arith, order, written)) j

pub moved_journal : (old : LogState) (f : ℕ) (keys : Keys) (r : RingState) (start : ℕ) (journal : List (Logged (List Change))) → IsBound old.blocks (redo_form keys) r.block start journal f → IsRingJournal old.blocks (redo_form keys) r start journal old.next
    → IsRingJournal old.blocks (redo_form keys) (checked r f) start journal old.next
moved_journal old f keys r start journal bound j = by (nat_eq f r.from)
  where
    by : (b : Bool) → IsRingJournal old.blocks (redo_form keys) (if b then r else checkpointed r f) start journal old.next
    by true = j
    by false = journal_moved old.blocks (redo_form keys) r f start old.next journal bound j

pub same_next : (log : LogState) (f : ℕ) → log.next ≡ (with_checkpoint log f).next
same_next log f = by (nat_eq f log.from)
  where
    by : (b : Bool) → log.next ≡ (if b then log else next_check log f).next
    by true = refl
    by false = refl

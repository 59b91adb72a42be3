use Rattle.std.proofs.Common.{◌≡◌, ℕ, ◌+◌, ◌≤◌, List, refl, sym, subst, arith}
use Rattle.disk_model.specs.Event.{Event}
use Rattle.disk_model.specs.Past.{Past, At, Throughout}
use Rattle.disk_model.proofs.Moments.{at_each, at_last, weaker}
use Rattle.ring_log.specs.Batches.{more, settle}
use Rattle.ring_log.specs.Ring.{RingState, Ringed, IsRingJournal, AllRingStand}
use Rattle.redo_text.specs.declared.change.Change.{Change}
use Rattle.store_image.specs.View.{Logged}
use Rattle.redo_log.specs.State.{LogState}
use Rattle.redo_log.proofs.FitSteps.{settled_journal}
use Rattle.ring_log.proofs.Standing.{stands}
use Rattle.ring_log.proofs.Journals.{journal_writing}
use Rattle.redo_log.specs.Blocks.{Keys, redo_form}
use Rattle.redo_log.specs.Log.{IsOpen, pending_count, handed_over, FitsRing}
use Rattle.redo_log.specs.Recorded.{BlocksOnce, AreBlocksSettled}
use Rattle.redo_log.proofs.FormLaws.{form_laws}
use Rattle.redo_log.proofs.RecordSteps.{once_handed, once_written, settles}
use Rattle.redo_log.proofs.log.Log.write_out.Goals as goal

module _ (log : LogState) (is : IsOpen log) where
  stands_by : (keys : Keys) (r : RingState) (start : ℕ) (journal : List (Logged (List Change))) → FitsRing r log → IsRingJournal log.blocks (redo_form keys) r start journal log.next → {old new : Past}
      → Throughout (Ringed log.blocks (redo_form keys) (more r (pending_count log))) old new → Throughout (AllRingStand log.blocks (redo_form keys) (more r (pending_count log)) start journal log.next) old new
  stands_by keys r start journal fits j ringed =
      let le : r.written + pending_count log ≤ log.next = let order = is.order in let written = fits.written in omega arith in
      weaker (λ m at. stands log.blocks (redo_form keys) (form_laws keys) (more r (pending_count log)) start log.next journal m at (journal_writing log.blocks (redo_form keys) r (pending_count log) start log.next journal le j)) ringed

  recorded_by : (new : LogState) (old past : Past) → ((es : List Event) → BlocksOnce (handed_over log) es → BlocksOnce new es) → (At (BlocksOnce (handed_over log)) old → Throughout (BlocksOnce (handed_over log)) old past) → At (BlocksOnce log) old
      → Throughout (BlocksOnce (handed_over log)) old past × At (BlocksOnce new) past
  recorded_by new old past goes keeps at =
      let once = keeps (at_each (once_handed log is) at) in
      (once, at_each goes (at_last (BlocksOnce (handed_over log)) old past once))

  settles_by : (old past : Past) → (At (BlocksOnce (handed_over log)) old → Throughout (BlocksOnce (handed_over log)) old past) → (keys : Keys) (r : RingState) (start : ℕ) (journal : List (Logged (List Change))) → FitsRing r log → r.written ≡ r.settled
      → At (BlocksOnce log) old → Throughout (AreBlocksSettled log.blocks keys (more r (pending_count log)) start journal log.next) old past
  settles_by old past keeps keys r start journal fits all at =
      weaker (λ m o. settles log is keys r (more r (pending_count log)) start log.next journal fits all refl m o.below) (keeps (at_each (once_handed log is) at))

pub returns-in-Err-clause-stands : goal.returns-in-Err-clause-stands
returns-in-Err-clause-stands g c = λ keys r start journal fits at j. stands_by c.args.self.now c.settle_blocks.ensures.open keys r start journal fits j (c.settle_blocks.ensures.does keys r fits at).moments

pub returns-in-Ok-clause-stands : goal.returns-in-Ok-clause-stands
returns-in-Ok-clause-stands g c = λ keys r start journal fits at j. stands_by c.args.self.now c.settle_blocks.ensures.open keys r start journal fits j (c.settle_blocks.ensures.does keys r fits at).moments

pub returns-in-Ok-clause-journal : goal.returns-in-Ok-clause-journal
returns-in-Ok-clause-journal g c = λ keys r start journal fits all j.
    let log = c.args.self.now in
    subst (λ (w : LogState). IsRingJournal log.blocks (redo_form keys) (settle r (pending_count log)) start journal w.next) (sym c.end_pending.ensures.ended) (settled_journal log c.settle_blocks.ensures.open keys r start journal fits all j)

pub returns-in-Ok-clause-recorded : goal.returns-in-Ok-clause-recorded
returns-in-Ok-clause-recorded g c =
    let log : LogState = c.args.self.now in
    recorded_by log c.settle_blocks.ensures.open _ _ _ (subst (λ (w : LogState). (es : List Event) → BlocksOnce (handed_over log) es → BlocksOnce w es) (sym c.end_pending.ensures.ended) (λ es o. once_written log c.settle_blocks.ensures.open es o)) c.settle_blocks.ensures.recorded

pub returns-in-Err-clause-recorded : goal.returns-in-Err-clause-recorded
returns-in-Err-clause-recorded g c =
    let log : LogState = c.args.self.now in
    recorded_by log c.settle_blocks.ensures.open _ _ _ (subst (λ (w : LogState). (es : List Event) → BlocksOnce (handed_over log) es → BlocksOnce w es) (sym c.hand_over.ensures.handed) (λ es o. o)) c.settle_blocks.ensures.recorded

pub returns-in-Ok-clause-record : goal.returns-in-Ok-clause-record
returns-in-Ok-clause-record g c = λ header keys salts at is. c.settle_blocks.ensures.record header keys salts (at_each (once_handed c.args.self.now c.settle_blocks.ensures.open) at) is

pub returns-in-Err-clause-record : goal.returns-in-Err-clause-record
returns-in-Err-clause-record g c = λ header keys salts at is. c.settle_blocks.ensures.record header keys salts (at_each (once_handed c.args.self.now c.settle_blocks.ensures.open) at) is

pub returns-in-Ok-clause-settles : goal.returns-in-Ok-clause-settles
returns-in-Ok-clause-settles g c = settles_by c.args.self.now c.settle_blocks.ensures.open _ _ c.settle_blocks.ensures.recorded

pub returns-in-Err-clause-settles : goal.returns-in-Err-clause-settles
returns-in-Err-clause-settles g c = settles_by c.args.self.now c.settle_blocks.ensures.open _ _ c.settle_blocks.ensures.recorded

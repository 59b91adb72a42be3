use Rattle.std.proofs.Common.{◌≡◌, ℕ, List, refl, sym, subst}
use Rattle.disk_model.specs.Event.{Event}
use Rattle.disk_model.specs.Past.{Past, At, Throughout}
use Rattle.disk_model.proofs.Moments.{at_each, at_last, weaker}
use Rattle.places.specs.Batches.{From}
use Rattle.redo_text.specs.declared.change.Change.{Change}
use Rattle.store_image.specs.View.{Logged}
use Rattle.ring_log.specs.Batches.{checking}
use Rattle.ring_log.proofs.Standing.{stands}
use Rattle.ring_log.proofs.Journals.{journal_checking}
use Rattle.redo_log.specs.Blocks.{Keys, redo_form}
use Rattle.ring_log.specs.Ring.{RingState, IsRingJournal}
use Rattle.redo_log.specs.State.{LogState}
use Rattle.redo_log.specs.Log.{IsOpen, checked, FitsRing}
use Rattle.redo_log.specs.Recorded.{BlocksOnce, KeepsItems, AreBlocksSettled}
use Rattle.redo_log.proofs.FitSteps.{moved_journal, same_next}
use Rattle.redo_log.proofs.FormLaws.{form_laws}
use Rattle.redo_log.proofs.RecordSteps.{check_once, check_record, once_checked, once_handed, settles}
use Rattle.redo_log.proofs.log.Log.checkpoint.Goals as goal

pub returns-in-Ok-clause-stands : goal.returns-in-Ok-clause-stands
returns-in-Ok-clause-stands g c = λ keys r start journal fits at j bound.
    let log = c.args.self.now in
    weaker (λ m ringed. stands log.blocks (redo_form keys) (form_laws keys) (checking r c.args.from) start log.next journal m ringed (journal_checking log.blocks (redo_form keys) r c.args.from start log.next journal bound j))
    (c.move_from.ensures.does keys r fits at).moments

pub returns-in-Err-clause-stands : goal.returns-in-Err-clause-stands
returns-in-Err-clause-stands g c = λ keys r start journal fits at j bound.
    let log = c.args.self.now in
    weaker (λ m ringed. stands log.blocks (redo_form keys) (form_laws keys) (checking r c.args.from) start log.next journal m ringed (journal_checking log.blocks (redo_form keys) r c.args.from start log.next journal bound j))
    (c.move_from.ensures.does keys r fits at).moments

pub returns-in-Ok-clause-journal : goal.returns-in-Ok-clause-journal
returns-in-Ok-clause-journal g c = λ keys r start journal bound j.
    let log = c.args.self.now in
    subst (λ (w : LogState). IsRingJournal log.blocks (redo_form keys) (checked r c.args.from) start journal w.next) (sym c.go_on_from.ensures.moved)
    (subst (λ (n : ℕ). IsRingJournal log.blocks (redo_form keys) (checked r c.args.from) start journal n) (same_next log c.args.from) (moved_journal log c.args.from keys r start journal bound j))

-- the record and the log behind the call
recorded_by : (log new : LogState) (old past : Past) → Throughout (From KeepsItems old) old past → ((es : List Event) → BlocksOnce log es → BlocksOnce new es) → At (BlocksOnce log) old → Throughout (BlocksOnce log) old past × At (BlocksOnce new) past
recorded_by log new old past items goes at = let once = check_once log old past items at in (once, at_each goes (at_last (BlocksOnce log) old past once))

pub returns-in-Ok-clause-recorded : goal.returns-in-Ok-clause-recorded
returns-in-Ok-clause-recorded g c = λ at.
    let log : LogState = c.args.self.now in
    recorded_by log _ _ _ c.move_from.ensures.items (subst (λ (w : LogState). (es : List Event) → BlocksOnce log es → BlocksOnce w es) (sym c.go_on_from.ensures.moved) (λ es o. once_checked log c.move_from.ensures.open c.args.from es o)) at

pub returns-in-Err-clause-recorded : goal.returns-in-Err-clause-recorded
returns-in-Err-clause-recorded g c = λ at. recorded_by c.args.self.now _ _ _ c.move_from.ensures.items (λ es o. o) at

pub returns-in-Ok-clause-record : goal.returns-in-Ok-clause-record
returns-in-Ok-clause-record g c = λ header keys salts at. check_record header keys salts _ _ c.move_from.ensures.items at

pub returns-in-Err-clause-record : goal.returns-in-Err-clause-record
returns-in-Err-clause-record g c = λ header keys salts at. check_record header keys salts _ _ c.move_from.ensures.items at

settles_by : (log : LogState) → IsOpen log → (f : ℕ) (old past : Past) → Throughout (From KeepsItems old) old past → (keys : Keys) (r : RingState) (start : ℕ) (journal : List (Logged (List Change))) → FitsRing r log → r.written ≡ r.settled
    → At (BlocksOnce log) old → Throughout (AreBlocksSettled log.blocks keys (checking r f) start journal log.next) old past
settles_by log is f old past items keys r start journal fits all at =
    weaker (λ m o. settles log is keys r (checking r f) start log.next journal fits all refl m (once_handed log is m o).below) (check_once log old past items at)

pub returns-in-Ok-clause-settles : goal.returns-in-Ok-clause-settles
returns-in-Ok-clause-settles g c = settles_by c.args.self.now c.move_from.ensures.open c.args.from _ _ c.move_from.ensures.items

pub returns-in-Err-clause-settles : goal.returns-in-Err-clause-settles
returns-in-Err-clause-settles g c = settles_by c.args.self.now c.move_from.ensures.open c.args.from _ _ c.move_from.ensures.items

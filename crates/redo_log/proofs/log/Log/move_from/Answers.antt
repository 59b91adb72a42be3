use Rattle.std.proofs.Common.{◌≡◌, ℕ, ◌+◌, refl, sym, subst, ◌∙◌, arith, OnOk, OnErr}
use Rattle.disk_model.specs.Event.{Sync}
use Rattle.disk_model.specs.Past.{At, grow}
use Rattle.disk_model.specs.Does.{Does}
use Rattle.disk_model.specs.declared.names.FileName.TheVariants.{Log as LogFile}
use Rattle.disk_model.proofs.Moments.{at_each}
use Rattle.places.specs.Batches.{From}
use Rattle.places.specs.Places.{HasFile, HasPlaces}
use Rattle.places.proofs.Batches.{does_stay}
use Rattle.places.specs.Writes.{IsPart}
use Rattle.redo_log.specs.Events.{side_batch, check_event, CheckWriting, CheckSettled, IsCheckEvent}
use Rattle.redo_log.proofs.BlockSteps.{places_after}
use Rattle.redo_log.proofs.CheckSteps.{ring_check, checked_none, checking_none}
use Rattle.redo_log.proofs.RecordSteps.{items_same}
use Rattle.redo_log.proofs.log.Log.move_from.Goals as goal
use Rattle.crash_image.specs.LogForm.{log_places}

pub settle_check-requires-clause-places : goal.settle_check-requires-clause-places
settle_check-requires-clause-places g c = subst (λ (n : ℕ). At (HasFile LogFile (log_places n)) (g.D.Disk.past c.args.disk.now)) (sym c.blocks-2.ensures) c.requires.file

pub returns-then-from-clause-does : goal.returns-then-from-clause-does
returns-then-from-clause-does g c = λ keys r fits at.
    let log = c.args.self.now in
    let same = c.if-from.true ∙ c.from.ensures.from in
    does_stay _ at (λ s ready. checking_none keys log r c.from.ensures.open fits c.args.from same s ready) (at_each (λ s ready. checked_none keys log r c.from.ensures.open fits c.args.from same s ready) at) refl

pub returns-clause-does : goal.returns-clause-does
returns-clause-does g c = λ keys r fits at.
    let log = c.args.self.now in
    let first = g.D.Disk.past c.args.disk.now in
    let last = g.D.Disk.past c.settle_check.new.disk in
    let f = c.args.from in
    let has = subst (λ (n : ℕ). At (HasPlaces LogFile (log_places n)) (g.D.Disk.past c.args.disk.now)) (sym c.blocks-2.ensures) (at_each (λ es ready. ready.ringed.places) at) in
    let moved = subst (λ (n : ℕ). Does (From (CheckWriting n (log.sequence + 1) f) first) (IsCheckEvent (log.sequence + 1) f) (From (CheckSettled n (log.sequence + 1) f) first) first last c.settle_check.result) c.blocks-2.ensures
    (subst (λ (s : ℕ). Does (From (CheckWriting c.blocks-2.result (s + 1) f) first) (IsCheckEvent (s + 1) f) (From (CheckSettled c.blocks-2.result (s + 1) f) first) first last c.settle_check.result) c.sequence.ensures (c.settle_check.ensures.does has)) in
    ring_check keys log r c.from.ensures.open fits f (omega (arith, c.requires.low, c.if-from.false, c.from.ensures.from)) c.requires.high at moved

pub returns-clause-places : goal.returns-clause-places
returns-clause-places g c = λ kept.
    let log = c.args.self.now in
    let first = g.D.Disk.past c.args.disk.now in
    let last = g.D.Disk.past c.settle_check.new.disk in
    let f = c.args.from in
    let s = c.sequence.result in
    let has = subst (λ (n : ℕ). At (HasPlaces LogFile (log_places n)) (g.D.Disk.past c.args.disk.now)) (sym c.blocks-2.ensures) kept in
    let moved = subst (λ (n : ℕ). Does (From (CheckWriting n (s + 1) f) first) (IsCheckEvent (s + 1) f) (From (CheckSettled n (s + 1) f) first) first last c.settle_check.result) c.blocks-2.ensures (c.settle_check.ensures.does has) in
    places_after {b = side_batch (s + 1) f} {k = 1} log.blocks kept moved

pub returns-clause-nothing : goal.returns-clause-nothing
returns-clause-nothing g c = λ e. absurd (c.if-from.false (e ∙ sym c.from.ensures.from))

pub returns-clause-exact : goal.returns-clause-exact
returns-clause-exact g c = λ lt. subst (λ (s : ℕ). OnOk c.settle_check.result (g.D.Disk.past c.settle_check.new.disk ≡ grow (Sync LogFile) (grow (check_event (s + 1) c.args.from) (g.D.Disk.past c.args.disk.now)))) c.sequence.ensures c.settle_check.ensures.exact

pub returns-clause-part : goal.returns-clause-part
returns-clause-part g c = subst (λ (s : ℕ). OnErr c.settle_check.result (IsPart LogFile 4096 (side_batch (s + 1) c.args.from) 1 (g.D.Disk.past c.args.disk.now) (g.D.Disk.past c.settle_check.new.disk))) c.sequence.ensures c.settle_check.ensures.part

pub returns-then-from-clause-items : goal.returns-then-from-clause-items
returns-then-from-clause-items g c = items_same (g.D.Disk.past c.args.disk.now)

pub returns-clause-file : goal.returns-clause-file
returns-clause-file g c = subst (λ (n : ℕ). At (HasFile LogFile (log_places n)) (g.D.Disk.past c.settle_check.new.disk)) c.blocks-2.ensures c.settle_check.ensures.file

pub returns-then-from-clause-places : goal.returns-then-from-clause-places
returns-then-from-clause-places g c = λ has. has

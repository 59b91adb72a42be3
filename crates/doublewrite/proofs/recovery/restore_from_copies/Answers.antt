use Rattle.std.proofs.Common.{◌≡◌, ◌++◌, ◌∙◌, List, Some, length, ap, sym, subst, arith, ◌+◌, ◌≤◌}
use Rattle.std.proofs.lemmas.Result.{on_ok_weaker, on_err_weaker}
use Rattle.disk_model.specs.Past.{Past, At}
use Rattle.disk_model.proofs.Moments.{at_both}
use Rattle.disk_model.specs.Does.{Does}
use Rattle.places.specs.Batches.{From}
use Rattle.places.proofs.Batches.{does_failed, from_known}
use Rattle.doublewrite.specs.Events.{homes_to, spaces_events, restore_events, AreFirstEvents}
use Rattle.doublewrite.proofs.EventSteps.{at_error, front_none}
use Rattle.doublewrite.specs.Restore.{HaveAll, SpacesFilling, SpacesRestored, IsRestoreEvent}
use Rattle.doublewrite.specs.declared.listing.Copied.{Copied}
use Rattle.doublewrite.proofs.SpaceSteps.{restoring_begin}
use Rattle.doublewrite.proofs.recovery.restore_from_copies.Goals as goal

pub returns-in_err-copies-clause-does : goal.returns-in_err-copies-clause-does
returns-in_err-copies-clause-does g c = λ has.
    does_failed _ _ c.from_residual.ensures.1 (restoring_begin c.args.spaces.now (g.D.Disk.past c.args.disk.now) has) (λ es r. r) c.in_err-copies.ensures.same

pub returns-clause-does : goal.returns-clause-does
returns-clause-does g c = λ has.
    let spaces = c.args.spaces.now in
    from_known c.in_ok-copies.ensures.copies
    (λ s m is r. subst (λ (cs : List Copied). SpacesFilling cs spaces s m) is r)
    (λ s m is r. subst (λ (cs : List Copied). SpacesRestored cs spaces s m) is r) (λ e k. k)
    (subst (λ (h : Past). Does (From (SpacesFilling c.in_ok-copies.copies spaces) h) (IsRestoreEvent spaces) (From (SpacesRestored c.in_ok-copies.copies spaces) h) h (g.D.Disk.past c.restore_spaces.new.disk) c.restore_spaces.result)
    c.in_ok-copies.ensures.same (c.restore_spaces.ensures.does (subst (At (HaveAll spaces)) (sym c.in_ok-copies.ensures.same) has)))

pub returns-in_err-copies-clause-part : goal.returns-in_err-copies-clause-part
returns-in_err-copies-clause-part g c =
    let old = g.D.Disk.past c.args.disk.now in
    at_error c.from_residual.result (record { here = λ s is. front_none (restore_events c.args.spaces.now s) s old _ is c.in_err-copies.ensures.same })

pub returns-clause-exact : goal.returns-clause-exact
returns-clause-exact g c =
    let spaces = c.args.spaces.now in
    let copies = c.in_ok-copies.copies in
    let old = g.D.Disk.past c.args.disk.now in
    let new = g.D.Disk.past c.restore_spaces.new.disk in
    on_ok_weaker c.restore_spaces.result
    (λ (exact : At (λ s. new ≡ Some (spaces_events copies s spaces (length spaces) ++ s)) (g.D.Disk.past c.copies.new.disk)).
    at_both (λ s listed is. is ∙ ap (λ (cs : List Copied). Some (spaces_events cs s spaces (length spaces) ++ s)) listed) c.in_ok-copies.ensures.copies
    (subst (At (λ s. new ≡ Some (spaces_events copies s spaces (length spaces) ++ s))) c.in_ok-copies.ensures.same exact))
    c.restore_spaces.ensures.exact

pub returns-clause-part : goal.returns-clause-part
returns-clause-part g c =
    let spaces = c.args.spaces.now in
    let copies = c.in_ok-copies.copies in
    let old = g.D.Disk.past c.args.disk.now in
    let new = g.D.Disk.past c.restore_spaces.new.disk in
    on_err_weaker c.restore_spaces.result
    (λ (part : At (λ s. AreFirstEvents (spaces_events copies s spaces (length spaces)) s new) (g.D.Disk.past c.copies.new.disk)).
    at_both (λ s listed front. subst (λ (cs : List Copied). AreFirstEvents (spaces_events cs s spaces (length spaces)) s new) listed front) c.in_ok-copies.ensures.copies
    (subst (At (λ s. AreFirstEvents (spaces_events copies s spaces (length spaces)) s new)) c.in_ok-copies.ensures.same part))
    c.restore_spaces.ensures.part

pub returns-in_err-copies-clause-told_calls : goal.returns-in_err-copies-clause-told_calls
returns-in_err-copies-clause-told_calls g c = record { here = λ s is. omega (arith, c.copies.ensures.calls) }

pub returns-clause-told_calls : goal.returns-clause-told_calls
returns-clause-told_calls g c =
    let spaces = c.args.spaces.now in
    let copies = c.in_ok-copies.copies in
    at_both (λ s listed sum. omega (arith, sum, c.copies.ensures.calls, ap (λ (cs : List Copied). length (spaces_events cs s spaces (length spaces))) listed)) c.in_ok-copies.ensures.copies
    (subst (At (λ s. g.D.Disk.clock c.restore_spaces.new.disk ≤ g.D.Disk.clock c.copies.new.disk + (homes_to spaces (length spaces) + length (spaces_events copies s spaces (length spaces))))) c.in_ok-copies.ensures.same
    c.restore_spaces.ensures.told_calls)

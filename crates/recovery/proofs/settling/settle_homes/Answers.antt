use Rattle.std.proofs.Common.{rules, ◌≡◌, ◌+◌, ◌++◌, List, Some, sym, subst, IsErrAnd}
use Rattle.std.proofs.lemmas.Result.{on_ok_weaker}
use Rattle.cause_core.proofs.Causes.{handed}
use Rattle.disk_model.specs.Event.{Event}
use Rattle.disk_model.specs.Past.{At}
use Rattle.disk_model.proofs.Layers.{does_err, does_more, does_then}
use Rattle.doublewrite.specs.Events.{restore_events}
use Rattle.doublewrite.specs.Restore.{AreSpacesApart, HaveFiles}
use Rattle.doublewrite.specs.declared.refuse.OpenRefuse.{OpenRefuse}
use Rattle.space_head.specs.declared.space.SpaceInfo.{SpaceInfo}
use Rattle.store_form.specs.Said.{header_said}
use Rattle.recovery.specs.Applying.{SaysRun}
use Rattle.recovery.specs.Due.{IsByPage}
use Rattle.recovery.specs.Putting.{AreAsChosen, BetweenGroups}
use Rattle.recovery.specs.Restoring.{AreAllListed}
use Rattle.recovery.specs.Spaces.{HasRefusedSpace, IsStoreDue}
use Rattle.recovery.proofs.DuePages.{read_by_disk}
use Rattle.recovery.proofs.RestoredFiles.{at_behind_all}
use Rattle.recovery.proofs.RoundPages.{at_moment, by_page_run}
use Rattle.recovery.proofs.SpaceSteps.{told_now}
use Rattle.recovery.proofs.SettleSteps.{by_restored, restore_event, says_restored, spaces_listed}
use Rattle.recovery.proofs.SpacesApplied.{files_now, if_err}
use Rattle.recovery.proofs.SpacesFound.{spaces_apart}
use Rattle.recovery.proofs.settling.settle_homes.Goals as goal

pub restore_homes-requires-clause-apart : goal.restore_homes-requires-clause-apart
restore_homes-requires-clause-apart g c = subst AreSpacesApart (sym c.as_slice-spaces.ensures) (spaces_apart c.args.active c.args.found.now c.requires.fits)

pub restore_homes-requires-clause-places : goal.restore_homes-requires-clause-places
restore_homes-requires-clause-places g c = subst (λ (l : List SpaceInfo). At (HaveFiles l) (g.D.Disk.past c.args.disk.now)) (sym c.as_slice-spaces.ensures) c.requires.files

pub apply_spaces-requires-clause-files : goal.apply_spaces-requires-clause-files
apply_spaces-requires-clause-files g c = subst (λ (l : List SpaceInfo). At (HaveFiles l) (g.D.Disk.past c.restore_homes.new.disk)) c.as_slice-spaces.ensures c.in_ok-restore_homes.ensures.files

pub apply_spaces-requires-clause-log : goal.apply_spaces-requires-clause-log
apply_spaces-requires-clause-log g c = c.in_ok-restore_homes.ensures.log c.args.found.now.header.blocks c.requires.log

pub apply_spaces-requires-clause-says : goal.apply_spaces-requires-clause-says
apply_spaces-requires-clause-says g c =
    let found = c.args.found.now in
    let spaces = c.as_slice-spaces.result.now in
    let P : List Event → Type 0 = SaysRun (header_said found.header) c.args.ring.now found.checkpoint.from (found.run.last + 1) in
    at_behind_all (restore_events spaces) P P (λ s says. says_restored (header_said found.header) c.args.ring.now found.checkpoint.from (found.run.last + 1) spaces s says) (g.D.Disk.past c.args.disk.now) (g.D.Disk.past c.restore_homes.new.disk)
    c.in_ok-restore_homes.ensures.exact c.restore_homes.ensures.untold c.requires.says

pub returns-in_err-restore_homes-clause-settles : goal.returns-in_err-restore_homes-clause-settles
returns-in_err-restore_homes-clause-settles g c = λ o number s now opened own is.
    let found = c.args.found.now in
    let spaces = c.as_slice-spaces.result.now in
    let listed : AreAllListed o.header.spaces spaces = subst (AreAllListed o.header.spaces) (sym c.as_slice-spaces.ensures) (spaces_listed c.args.active found c.requires.fits o c.args.ring.now own) in
    does_err _ _ c.from_residual.ensures.1
    (does_more (λ e kind. restore_event spaces found.changes.spaces c.as_slice-spaces.ensures e kind) (c.in_err-restore_homes.ensures.restores o number (at_moment s now opened) listed))

pub returns-in_err-restore_homes-clause-refused : goal.returns-in_err-restore_homes-clause-refused
returns-in_err-restore_homes-clause-refused g c =
    let found = c.args.found.now in
    let old = g.D.Disk.past c.args.disk.now in
    let P : OpenRefuse → List Event → Type 0 = λ why s. HasRefusedSpace c.args.ring.now c.args.active found why (restore_events found.changes.spaces s ++ s) in
    let why = c.in_err-restore_homes.field-0.0 in
    let is : IsErrAnd c.from_residual.result (λ e. e ≡ why) = search rules in
    handed (IsByPage P old) c.from_residual.result why is (by_page_run P old why (read_by_disk old why c.in_err-restore_homes.ensures.refuses))

pub returns-clause-settles : goal.returns-clause-settles
returns-clause-settles g c = λ o number s now opened own is.
    let found = c.args.found.now in
    let old = g.D.Disk.past c.args.disk.now in
    let mid = g.D.Disk.past c.restore_homes.new.disk in
    let spaces = c.as_slice-spaces.result.now in
    let listed : AreAllListed o.header.spaces spaces = subst (AreAllListed o.header.spaces) (sym c.as_slice-spaces.ensures) (spaces_listed c.args.active found c.requires.fits o c.args.ring.now own) in
    let restored = c.in_ok-restore_homes.ensures.restores o number (at_moment s now opened) listed in
    let (b, there) = told_now s old mid now restored.moments.later in
    let both : BetweenGroups o s b × AreAsChosen o b = (restored.next.here b there).here s now in
    let due : IsStoreDue o number s b = record { opened = opened; between = both.0; chosen = both.1 } in
    let applied = c.apply_spaces.ensures.applies o number s b there own is due in
    does_then (does_more (λ e kind. restore_event spaces found.changes.spaces c.as_slice-spaces.ensures e kind) restored)
    (record { moments = c.apply_spaces.ensures.recovers o number s b there own is due; adds = applied.adds; next = applied.next })

pub returns-clause-refused : goal.returns-clause-refused
returns-clause-refused g c =
    let found = c.args.found.now in
    let old = g.D.Disk.past c.args.disk.now in
    let mid = g.D.Disk.past c.restore_homes.new.disk in
    let exact : At (λ s. mid ≡ Some (restore_events found.changes.spaces s ++ s)) old = subst (λ (l : List SpaceInfo). At (λ s. mid ≡ Some (restore_events l s ++ s)) old) c.as_slice-spaces.ensures c.in_ok-restore_homes.ensures.exact in
    if_err (IsByPage (HasRefusedSpace c.args.ring.now c.args.active found) mid) (IsByPage (λ why s. HasRefusedSpace c.args.ring.now c.args.active found why (restore_events found.changes.spaces s ++ s)) old) c.apply_spaces.result
    (by_restored (HasRefusedSpace c.args.ring.now c.args.active found) (restore_events found.changes.spaces) old mid exact) c.apply_spaces.ensures.refused

pub returns-clause-files : goal.returns-clause-files
returns-clause-files g c =
    let found = c.args.found.now in
    let mid = g.D.Disk.past c.restore_homes.new.disk in
    let new = g.D.Disk.past c.apply_spaces.new.disk in
    let files : At (HaveFiles found.changes.spaces) mid = subst (λ (l : List SpaceInfo). At (HaveFiles l) mid) c.as_slice-spaces.ensures c.in_ok-restore_homes.ensures.files in
    on_ok_weaker c.apply_spaces.result (λ goes. files_now found.changes.spaces mid new files goes) c.apply_spaces.ensures.spaces

pub returns-clause-log : goal.returns-clause-log
returns-clause-log g c = on_ok_weaker c.apply_spaces.result (λ goes. λ n file. goes n (c.in_ok-restore_homes.ensures.log n file)) c.apply_spaces.ensures.log

use Rattle.std.proofs.Common.{◌≡◌, Some, refl}
use Rattle.std.proofs.lemmas.Result.{on_ok_weaker}
use Rattle.disk_model.specs.Past.{At}
use Rattle.disk_model.proofs.Moments.{at_both, at_each}
use Rattle.disk_model.specs.declared.names.FileName.TheVariants.{Double, Log}
use Rattle.places.specs.Places.{HasFile}
use Rattle.places.proofs.Batches.{lift_from}
use Rattle.page_places.specs.Texts.{slots}
use Rattle.crash_image.specs.LogForm.{log_places}
use Rattle.doublewrite.specs.Events.{restore_events}
use Rattle.doublewrite.specs.Restore.{HaveFiles}
use Rattle.crash_image.specs.Opened.{IsOpenedAt}
use Rattle.recovery.specs.Putting.{AreAsChosen, BetweenGroups}
use Rattle.recovery.proofs.PutGroups.{from_start}
use Rattle.recovery.proofs.RestoredFiles.{at_behind_all, other_restored, spaces_restored}
use Rattle.recovery.proofs.RestoredHomes.{have_all, restored_between, restored_chosen, restoring_recovers}
use Rattle.recovery.proofs.restoring.restore_homes.Goals as goal

pub returns-clause-restores : goal.returns-clause-restores
returns-clause-restores g c = λ o last opened listed.
    let spaces = c.args.spaces.now in
    let old = g.D.Disk.past c.args.disk.now in
    let known : At (λ s. IsOpenedAt o last s × HaveFiles spaces s × (old ≡ Some s)) old = record { here = λ es is. (opened.here es is, c.requires.places.here es is, is) } in
    lift_from known (λ s m k since w. restoring_recovers o last spaces listed s m k.0 k.1 since w)
    (λ s m k since r. from_start (λ b n. BetweenGroups o b n × AreAsChosen o n) s m k.2 (restored_between o last spaces listed s m k.0 k.1 since r, restored_chosen o last spaces listed s m k.0 k.1 since r)) (λ e k. k)
    (c.restore.ensures.does (at_each (λ es k. have_all o last es spaces k.0 k.1) known))

pub returns-clause-double : goal.returns-clause-double
returns-clause-double g c =
    let spaces = c.args.spaces.now in
    on_ok_weaker c.restore.result (λ e. at_behind_all (restore_events spaces) (HasFile Double slots) (HasFile Double slots) (λ s has. other_restored Double (λ z. refl) slots spaces s has) _ _ e c.restore.ensures.untold c.requires.double) c.restore.ensures.exact

pub returns-clause-files : goal.returns-clause-files
returns-clause-files g c =
    let spaces = c.args.spaces.now in
    let both = at_both (λ s double files. (double, files)) c.requires.double c.requires.places in
    on_ok_weaker c.restore.result
    (λ e. at_behind_all (restore_events spaces) (λ s. HasFile Double slots s × HaveFiles spaces s) (HaveFiles spaces) (λ s has. spaces_restored s has.0 spaces c.requires.apart has.1) _ _ e c.restore.ensures.untold both) c.restore.ensures.exact

pub returns-clause-log : goal.returns-clause-log
returns-clause-log g c =
    let spaces = c.args.spaces.now in
    on_ok_weaker c.restore.result
    (λ e. λ n has. at_behind_all (restore_events spaces) (HasFile Log (log_places n)) (HasFile Log (log_places n)) (λ s h. other_restored Log (λ z. refl) (log_places n) spaces s h) _ _ e c.restore.ensures.untold has) c.restore.ensures.exact

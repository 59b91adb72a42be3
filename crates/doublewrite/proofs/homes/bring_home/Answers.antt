use Rattle.std.proofs.Common.{length, ◌∙◌, arith}
use Rattle.std.proofs.lemmas.Result.{on_ok_weaker, on_err_weaker}
use Rattle.disk_model.specs.declared.names.FileName.TheVariants.{Space}
use Rattle.disk_model.proofs.Layers.{does_then}
use Rattle.places.specs.Writes.{Done}
use Rattle.places.proofs.WriteLemmas.{sync_more, part_same}
use Rattle.doublewrite.specs.Batch.{home_batch}
use Rattle.doublewrite.proofs.homes.bring_home.Goals as goal

pub returns-clause-does : goal.returns-clause-does
returns-clause-does g c = does_then c.in_ok-write_homes.ensures.does (c.sync_homes.ensures.does (g.D.Disk.past c.args.disk.now) c.in_ok-write_homes.ensures.does.next)

pub returns-in_err-write_homes-clause-part : goal.returns-in_err-write_homes-clause-part
returns-in_err-write_homes-clause-part g c =
    let batch = c.args.batch.now in
    part_same (Space batch.space) 16384 (home_batch batch) (length batch.pages) (g.D.Disk.past c.args.disk.now) _ _ c.in_err-write_homes.ensures.part

pub returns-clause-exact : goal.returns-clause-exact
returns-clause-exact g c =
    let batch = c.args.batch.now in
    on_ok_weaker c.sync_homes.result (λ e. sync_more (Space batch.space) 16384 (home_batch batch) (length batch.pages) (g.D.Disk.past c.args.disk.now) (g.D.Disk.past c.write_homes.new.disk) _ c.in_ok-write_homes.ensures.exact e) c.sync_homes.ensures.ok

pub returns-clause-part : goal.returns-clause-part
returns-clause-part g c =
    let batch = c.args.batch.now in
    on_err_weaker c.sync_homes.result (λ e. Done (length batch.pages) (omega arith) (e ∙ c.in_ok-write_homes.ensures.exact)) c.sync_homes.ensures.err

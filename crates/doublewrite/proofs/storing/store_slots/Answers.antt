use Rattle.std.proofs.Common.{length, ◌∙◌, arith}
use Rattle.std.proofs.lemmas.Result.{on_ok_weaker, on_err_weaker}
use Rattle.disk_model.specs.declared.names.FileName.TheVariants.{Double}
use Rattle.disk_model.proofs.Layers.{does_then}
use Rattle.places.specs.Writes.{Done}
use Rattle.places.proofs.WriteLemmas.{sync_more, part_same}
use Rattle.doublewrite.specs.Batch.{slot_batch}
use Rattle.doublewrite.proofs.storing.store_slots.Goals as goal

pub returns-clause-does : goal.returns-clause-does
returns-clause-does g c = λ has.
    let written = c.in_ok-write_slots.ensures.does has in
    does_then written (c.sync_slots.ensures.does (g.D.Disk.past c.args.disk.now) written.next)

pub returns-in_err-write_slots-clause-part : goal.returns-in_err-write_slots-clause-part
returns-in_err-write_slots-clause-part g c =
    let batch = c.args.batch.now in
    part_same Double 16896 (slot_batch batch) (length batch.pages) (g.D.Disk.past c.args.disk.now) _ _ c.in_err-write_slots.ensures.part

pub returns-clause-exact : goal.returns-clause-exact
returns-clause-exact g c =
    let batch = c.args.batch.now in
    on_ok_weaker c.sync_slots.result (λ e. sync_more Double 16896 (slot_batch batch) (length batch.pages) (g.D.Disk.past c.args.disk.now) (g.D.Disk.past c.write_slots.new.disk) _ c.in_ok-write_slots.ensures.exact e) c.sync_slots.ensures.ok

pub returns-clause-part : goal.returns-clause-part
returns-clause-part g c =
    let batch = c.args.batch.now in
    on_err_weaker c.sync_slots.result (λ e. Done (length batch.pages) (omega arith) (e ∙ c.in_ok-write_slots.ensures.exact)) c.sync_slots.ensures.err

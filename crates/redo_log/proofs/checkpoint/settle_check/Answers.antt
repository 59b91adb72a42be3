use Rattle.std.proofs.Common.{refl, sym, ap, ◌∙◌, arith}
use Rattle.std.proofs.lemmas.Result.{on_ok_weaker, on_err_weaker}
use Rattle.disk_model.specs.Event.{Sync}
use Rattle.disk_model.specs.Past.{Past, grow}
use Rattle.disk_model.specs.declared.names.FileName.TheVariants.{Log as LogFile}
use Rattle.disk_model.proofs.Layers.{does_err, does_then, does_sync}
use Rattle.places.specs.Batches.{Syncs}
use Rattle.places.specs.Writes.{Done}
use Rattle.redo_log.specs.Events.{side_batch, IsAny, IsCheckEvent}
use Rattle.places.proofs.WriteLemmas.{grows_none, write_more, write_failed}
use Rattle.redo_log.proofs.BlockSteps.{file_after_sync}
use Rattle.redo_log.proofs.CheckSteps.{check_now, check_sync, check_then}
use Rattle.redo_log.proofs.RecordSteps.{check_items}
use Rattle.redo_log.proofs.checkpoint.settle_check.Goals as goal

pub returns-in_err-write_check-clause-does : goal.returns-in_err-write_check-clause-does
returns-in_err-write_check-clause-does g c = λ has. does_err _ _ c.from_residual.ensures.1 (c.in_err-write_check.ensures.does has)

pub returns-in_err-write_check-clause-part : goal.returns-in_err-write_check-clause-part
returns-in_err-write_check-clause-part g c =
    let first : Past = g.D.Disk.past c.args.disk.now in
    write_failed LogFile 4096 (side_batch c.args.sequence c.args.from) 0 1 first first (g.D.Disk.past c.write_check.new.disk) c.from_residual.result (omega arith) (sym (grows_none first)) c.in_err-write_check.ensures.err

pub returns-clause-does : goal.returns-clause-does
returns-clause-does g c = λ has.
    let n = c.args.blocks in
    let s = c.args.sequence in
    let f = c.args.from in
    let first = g.D.Disk.past c.args.disk.now in
    let wrote = c.in_ok-write_check.ensures.does has in
    does_then wrote
    (does_sync (IsCheckEvent s f) (Sync LogFile) wrote.next (check_now n s f 1 (omega arith) first) (check_then n s f first) (Syncs refl) (check_sync n s f first) c.sync.ensures.ok c.sync.ensures.err)

pub returns-clause-exact : goal.returns-clause-exact
returns-clause-exact g c = on_ok_weaker c.sync.result (λ e. e ∙ ap (grow (Sync LogFile)) c.in_ok-write_check.ensures.ok) c.sync.ensures.ok

pub returns-clause-part : goal.returns-clause-part
returns-clause-part g c =
    let first : Past = g.D.Disk.past c.args.disk.now in
    on_err_weaker c.sync.result (λ e. Done 1 (omega arith) (e ∙ write_more LogFile 4096 (side_batch c.args.sequence c.args.from) 0 first first _ (sym (grows_none first)) c.in_ok-write_check.ensures.ok)) c.sync.ensures.err

pub returns-in_err-write_check-clause-items : goal.returns-in_err-write_check-clause-items
returns-in_err-write_check-clause-items g c = let adds = c.in_err-write_check.ensures.adds in check_items c.args.sequence c.args.from adds.moments.later adds.adds

pub returns-clause-items : goal.returns-clause-items
returns-clause-items g c =
    let s = c.args.sequence in
    let f = c.args.from in
    let wrote = c.in_ok-write_check.ensures.adds in
    let adds = does_then wrote (does_sync {A = IsAny} {P = IsAny} {Q = IsAny} (IsCheckEvent s f) (Sync LogFile) wrote.next (λ es a. tt) (λ es a. tt) (Syncs refl) (λ es a. tt) c.sync.ensures.ok c.sync.ensures.err) in
    check_items s f adds.moments.later adds.adds

pub returns-clause-file : goal.returns-clause-file
returns-clause-file g c = file_after_sync c.sync.result c.args.blocks c.in_ok-write_check.ensures.file c.sync.ensures.ok c.sync.ensures.err

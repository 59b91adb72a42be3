use Rattle.std.proofs.Common.{◌≡◌, ℕ, List, ◌+◌, ◌*◌, ◌%◌, subst, arith, OnOk, OnErr}
use Rattle.disk_model.specs.Event.{Write}
use Rattle.disk_model.specs.Past.{grow, MayGrow, IsWrite}
use Rattle.disk_model.specs.declared.names.FileName.TheVariants.{Log as LogFile}
use Rattle.disk_model.proofs.Layers.{does_write}
use Rattle.places.proofs.Batches.{write_is_of}
use Rattle.redo_log.specs.Check.{check_bytes}
use Rattle.redo_log.specs.Events.{side_batch, IsAny}
use Rattle.redo_log.proofs.BlockSteps.{file_after_write}
use Rattle.redo_log.proofs.CheckLaws.{length-check}
use Rattle.redo_log.proofs.CheckSteps.{check_next, check_begin, check_now, check_each, check_wrote}
use Rattle.redo_log.proofs.checkpoint.write_check.Goals as goal

pub returns-clause-ok : goal.returns-clause-ok
returns-clause-ok g c =
    subst (λ (w : List ℕ). OnOk c.write.result (g.D.Disk.past c.write.new.self ≡ grow (Write LogFile ((1 + c.args.sequence % 2) * 4096) w w) (g.D.Disk.past c.args.disk.now))) c.fill_check.ensures c.write.ensures.ok

pub returns-clause-err : goal.returns-clause-err
returns-clause-err g c =
    subst (λ (w : List ℕ). OnErr c.write.result (MayGrow (IsWrite LogFile ((1 + c.args.sequence % 2) * 4096) w) (g.D.Disk.past c.args.disk.now) (g.D.Disk.past c.write.new.self))) c.fill_check.ensures c.write.ensures.err

pub returns-clause-does : goal.returns-clause-does
returns-clause-does g c = λ has.
    let n = c.args.blocks in
    let s = c.args.sequence in
    let f = c.args.from in
    let first = g.D.Disk.past c.args.disk.now in
    let next = check_next n s f c.requires.some c.requires.order c.requires.most in
    does_write LogFile ((1 + s % 2) * 4096) (check_bytes s f) (check_begin n s f first has) (check_now n s f 0 (omega arith) first) (check_each n s f next first)
    (write_is_of LogFile 4096 (side_batch s f) 0 1 (omega arith)) (check_wrote n s f next first) (returns-clause-ok g c) (returns-clause-err g c)

pub returns-clause-adds : goal.returns-clause-adds
returns-clause-adds g c =
    let s = c.args.sequence in
    does_write {A = IsAny} LogFile ((1 + s % 2) * 4096) (check_bytes s c.args.from) (record { here = λ es is. tt }) (λ es a. tt) (λ d is es a. tt) (write_is_of LogFile 4096 (side_batch s c.args.from) 0 1 (omega arith)) (λ es a. tt) (returns-clause-ok g c) (returns-clause-err g c)

pub returns-clause-file : goal.returns-clause-file
returns-clause-file g c =
    let s = c.args.sequence in
    let f = c.args.from in
    file_after_write c.write.result c.args.blocks (1 + s % 2) (omega arith) (check_bytes s f) (length-check s f c.requires.some c.requires.order c.requires.most) c.requires.places (returns-clause-ok g c) (returns-clause-err g c)

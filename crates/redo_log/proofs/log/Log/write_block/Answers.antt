use Rattle.std.proofs.Common.{◌≡◌, ℕ, List, ◌+◌, ◌*◌, ◌%◌, ◌∙◌, sym, ap, subst, arith, length, OnOk, OnErr}
use Rattle.disk_model.specs.Event.{Write}
use Rattle.disk_model.specs.Past.{grow, MayGrow, IsWrite}
use Rattle.disk_model.specs.declared.names.FileName.TheVariants.{Log as LogFile}
use Rattle.disk_model.specs.Image.{InFile}
use Rattle.disk_model.proofs.Layers.{does_write}
use Rattle.disk_model.proofs.Moments.{at_each}
use Rattle.places.proofs.FileSteps.{file_inside}
use Rattle.places.proofs.Batches.{write_is_of}
use Rattle.redo_log.specs.Log.{durable, pending_at, pending_count}
use Rattle.redo_log.specs.Events.{block_batch, IsAny}
use Rattle.redo_log.proofs.BlockSteps.{block_next, blocks_now, block_each, block_wrote, file_after_write}
use Rattle.redo_log.proofs.log.Log.write_block.Goals as goal
use Rattle.crash_image.specs.LogForm.{log_places}

pub returns-clause-err : goal.returns-clause-err
returns-clause-err g c =
    subst (λ (w : List ℕ). OnErr c.write.result (MayGrow (IsWrite LogFile ((3 + (durable c.args.self.now + c.args.i) % c.args.self.now.blocks) * 4096) w) (g.D.Disk.past c.args.disk.now) (g.D.Disk.past c.write.new.self)))
    c.pending_block.ensures
    (subst (λ (d : ℕ). OnErr c.write.result (MayGrow (IsWrite LogFile ((3 + (d + c.args.i) % c.args.self.now.blocks) * 4096) c.pending_block.result.now) (g.D.Disk.past c.args.disk.now) (g.D.Disk.past c.write.new.self))) c.durable.ensures.durable
    (subst (λ (n : ℕ). OnErr c.write.result (MayGrow (IsWrite LogFile ((3 + (c.durable.result + c.args.i) % n) * 4096) c.pending_block.result.now) (g.D.Disk.past c.args.disk.now) (g.D.Disk.past c.write.new.self))) c.blocks-2.ensures c.write.ensures.err))

pub returns-clause-ok : goal.returns-clause-ok
returns-clause-ok g c =
    subst (λ (w : List ℕ). OnOk c.write.result (g.D.Disk.past c.write.new.self ≡ grow (Write LogFile ((3 + (durable c.args.self.now + c.args.i) % c.args.self.now.blocks) * 4096) w w) (g.D.Disk.past c.args.disk.now)))
    c.pending_block.ensures
    (subst (λ (d : ℕ). OnOk c.write.result (g.D.Disk.past c.write.new.self ≡ grow (Write LogFile ((3 + (d + c.args.i) % c.args.self.now.blocks) * 4096) c.pending_block.result.now c.pending_block.result.now) (g.D.Disk.past c.args.disk.now))) c.durable.ensures.durable
    (subst (λ (n : ℕ). OnOk c.write.result (g.D.Disk.past c.write.new.self ≡ grow (Write LogFile ((3 + (c.durable.result + c.args.i) % n) * 4096) c.pending_block.result.now c.pending_block.result.now) (g.D.Disk.past c.args.disk.now))) c.blocks-2.ensures c.write.ensures.ok))

pub returns-clause-does : goal.returns-clause-does
returns-clause-does g c = λ first at.
    let log = c.args.self.now in
    let i = c.args.i in
    let next = block_next log i c.requires.more c.durable.ensures.open in
    does_write LogFile ((block_batch log).place i * 4096) (pending_at log i) at (blocks_now log i (omega (arith, c.requires.more)) first) (block_each log i c.requires.more next first)
    (write_is_of LogFile 4096 (block_batch log) i (pending_count log) c.requires.more) (block_wrote log i c.requires.more next first) (returns-clause-ok g c) (returns-clause-err g c)

pub write-requires : goal.write-requires
write-requires g c =
    let log = c.args.self.now in
    let next = block_next log c.args.i c.requires.more c.durable.ensures.open in
    let place : (3 + (durable log + c.args.i) % log.blocks) ≡ 3 + (c.durable.result + c.args.i) % c.blocks-2.result =
    ap (λ (n : ℕ). 3 + (durable log + c.args.i) % n) (sym c.blocks-2.ensures) ∙ ap (λ (d : ℕ). 3 + (d + c.args.i) % c.blocks-2.result) (sym c.durable.ensures.durable) in
    at_each (λ es has. subst (λ (k : ℕ). InFile LogFile (k * 4096) (length c.pending_block.result.now) es) place
    (file_inside LogFile (log_places log.blocks) ((block_batch log).place c.args.i) next.within (length c.pending_block.result.now) (ap length c.pending_block.ensures ∙ next.long) es has))
    c.requires.file

pub returns-clause-adds : goal.returns-clause-adds
returns-clause-adds g c =
    let log = c.args.self.now in
    let i = c.args.i in
    does_write {A = IsAny} LogFile ((block_batch log).place i * 4096) (pending_at log i) (record { here = λ es is. tt }) (λ es a. tt) (λ d is es a. tt)
    (write_is_of LogFile 4096 (block_batch log) i (pending_count log) c.requires.more) (λ es a. tt) (returns-clause-ok g c) (returns-clause-err g c)

pub returns-clause-file : goal.returns-clause-file
returns-clause-file g c =
    let log = c.args.self.now in
    let i = c.args.i in
    let next = block_next log i c.requires.more c.durable.ensures.open in
    file_after_write c.write.result log.blocks ((block_batch log).place i) next.within (pending_at log i) next.long c.requires.file (returns-clause-ok g c) (returns-clause-err g c)

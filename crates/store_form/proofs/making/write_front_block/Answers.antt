use Rattle.std.proofs.Common.{sym, subst, OnErr}
use Rattle.std.proofs.lemmas.Result.{on_err_weaker}
use Rattle.store_form.specs.Creation.{IsStopped, front_written}
use Rattle.store_form.specs.Said.{header_said}
use Rattle.store_form.specs.declared.making.FrontBlock.{FrontBlock}
use Rattle.store_form.proofs.CreationLoops.{check_stopped}
use Rattle.store_form.proofs.making.write_front_block.Goals as goal

pub write_first_checkpoint-requires-clause-made : goal.write_first_checkpoint-requires-clause-made
write_first_checkpoint-requires-clause-made g c = c.requires.made c.in-Checkpoint.is

pub returns-in-Checkpoint-clause-err : goal.returns-in-Checkpoint-clause-err
returns-in-Checkpoint-clause-err g c =
    subst (λ (b : FrontBlock). OnErr c.write_first_checkpoint.result (IsStopped (front_written (header_said c.args.header.now) b) (g.D.Disk.past c.args.disk.now) (g.D.Disk.past c.write_first_checkpoint.new.disk))) (sym c.in-Checkpoint.is)
    (on_err_weaker c.write_first_checkpoint.result (λ part. check_stopped (g.D.Disk.past c.args.disk.now) (g.D.Disk.past c.write_first_checkpoint.new.disk) part) c.write_first_checkpoint.ensures.part)

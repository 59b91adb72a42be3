use Rattle.std.proofs.Common.{◌≡◌, ◌∙◌, sym, ap, subst, List, Option, Some}
use Rattle.std.specs.Prelude.{IfSome}
use Rattle.disk_model.specs.Event.{reads}
use Rattle.disk_model.specs.declared.names.FileName.TheVariants.{Log}
use Rattle.disk_model.proofs.Moments.{at_is, at_both}
use Rattle.redo_log.specs.declared.reading.Checkpoint.{Checkpoint}
use Rattle.store_files.specs.Checkpoint.{IsWritableCheckpoint}
use Rattle.recovery.specs.Stages.{checkpoint_said, newer_of}
use Rattle.recovery.proofs.Newest.{IsNewestOr, newest_of, newer_keeps, read_at, some_writable}
use Rattle.recovery.proofs.checkpoint.find_checkpoint.Goals as goal

pub returns-in-Some-clause-found : goal.returns-in-Some-clause-found
returns-in-Some-clause-found g c = at_both (λ es first second.
    let file = reads Log es in
    subst (IsNewestOr file) (sym c.newer.ensures ∙ c.in-Some.is)
    (newest_of file c.read_checkpoint.result c.read_checkpoint-2.result
    (read_at file 1 _ c.read_checkpoint.result first c.read_checkpoint.ensures.some c.read_checkpoint.ensures.none)
    (read_at file 2 _ c.read_checkpoint-2.result second c.read_checkpoint-2.ensures.some c.read_checkpoint-2.ensures.none)))
    c.in_ok-read_block.ensures.bytes (at_is (sym c.in_ok-read_block.ensures.same) c.in_ok-read_block-2.ensures.bytes)

pub returns-in-Some-clause-numbers : goal.returns-in-Some-clause-numbers
returns-in-Some-clause-numbers g c =
    let P : Checkpoint → Type 0 = λ k. IsWritableCheckpoint (checkpoint_said k) in
    subst (λ (o : Option Checkpoint). IfSome o P) (sym c.newer.ensures ∙ c.in-Some.is)
    (newer_keeps P c.read_checkpoint.result c.read_checkpoint-2.result (some_writable 1 _ c.read_checkpoint.result c.read_checkpoint.ensures.some) (some_writable 2 _ c.read_checkpoint-2.result c.read_checkpoint-2.ensures.some))

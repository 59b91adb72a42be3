use Rattle.std.proofs.lemmas.Result.{on_ok_weaker}
use Rattle.disk_model.specs.declared.names.FileName.TheVariants.{Log as LogFile}
use Rattle.places.proofs.Batches.{at_end}
use Rattle.places.proofs.FileSteps.{file_of_places}
use Rattle.disk_model.proofs.Moments.{at_each}
use Rattle.redo_log.specs.Events.{side_batch}
use Rattle.redo_log.proofs.BlockSteps.{places_after}
use Rattle.redo_log.proofs.FreshLog.{fresh_ready}
use Rattle.redo_log.proofs.checkpoint.write_first_checkpoint.Goals as goal
use Rattle.crash_image.specs.LogForm.{log_places}

pub settle_check-requires-clause-places : goal.settle_check-requires-clause-places
settle_check-requires-clause-places g c = at_each (λ es fresh. file_of_places LogFile (log_places c.args.blocks) es fresh.places) c.requires.made

pub returns-clause-ready : goal.returns-clause-ready
returns-clause-ready g c = λ keys.
    let does = c.settle_check.ensures.does (at_each (λ es fresh. fresh.places) c.requires.made) in
    on_ok_weaker c.settle_check.result (λ at. at_end (λ s m made t. fresh_ready keys c.args.blocks c.requires.least s m made t) does.moments.later c.requires.made at) does.next

pub returns-clause-places : goal.returns-clause-places
returns-clause-places g c = places_after {b = side_batch 1 2} {k = 1} c.args.blocks (at_each (λ es fresh. fresh.places) c.requires.made) (c.settle_check.ensures.does (at_each (λ es fresh. fresh.places) c.requires.made))

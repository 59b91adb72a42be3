use Rattle.std.proofs.Common.{◌+◌, List}
use Rattle.disk_model.specs.Event.{Event}
use Rattle.disk_model.proofs.Moments.{at_both, at_each}
use Rattle.places.proofs.Batches.{lift_from}
use Rattle.ring_log.specs.Opening.{IsFound}
use Rattle.redo_log.specs.Blocks.{redo_form}
use Rattle.redo_log.specs.Events.{side_batch}
use Rattle.redo_log.specs.Opening.{HasHeaderBlock}
use Rattle.redo_log.proofs.BlockSteps.{places_after}
use Rattle.redo_log.proofs.OpeningSteps.{to_opening, to_opened}
use Rattle.redo_log.proofs.checkpoint.write_opening_checkpoint.Goals as goal

pub returns-clause-opens : goal.returns-clause-opens
returns-clause-opens g c = λ keys found header is at head.
    let n = c.args.blocks in
    let s = c.args.sequence in
    lift_from {U = λ (es : List Event). IsFound n (redo_form keys) s found es × HasHeaderBlock header es} (at_both (λ es f h. (f, h)) at head) (λ es m u since w. to_opening keys n s c.args.end found is c.requires.least c.requires.order c.requires.high es m u.0 header u.1 w)
    (λ es m u since t. to_opened keys n s c.args.end found is c.requires.least c.requires.order c.requires.high es m u.0 header u.1 t) (λ e k. k)
    (c.settle_check.ensures.does (at_each (λ es f. f.places) at))

pub returns-clause-places : goal.returns-clause-places
returns-clause-places g c = λ has. places_after {b = side_batch (c.args.sequence + 1) (c.args.end + c.args.blocks)} {k = 1} c.args.blocks has (c.settle_check.ensures.does has)

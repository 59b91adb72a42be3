use Rattle.std.proofs.Common.{◌+◌, ◌*◌, ◌%◌, ◌∙◌, take, drop, ap}
use Rattle.std.proofs.lemmas.Result.{on_ok_weaker}
use Rattle.disk_model.specs.Event.{reads}
use Rattle.disk_model.specs.declared.names.FileName.TheVariants.{Log as LogFile}
use Rattle.disk_model.proofs.Moments.{at_each}
use Rattle.places.specs.Places.{place}
use Rattle.redo_log.proofs.run.read_number.Goals as goal

pub returns-clause-block : goal.returns-clause-block
unfolding place
returns-clause-block g c = on_ok_weaker c.read.result
    (at_each (λ es is. is ∙ ap (λ n. take n (drop ((3 + c.args.number % c.args.blocks) * 4096) (reads LogFile es))) c.requires.size))
    c.read.ensures.bytes

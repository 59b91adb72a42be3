use Rattle.session_core.proofs.LogWrites.{at_grows}
use Rattle.session_core.proofs.PutWrites.{slots_files}
use Rattle.doublewrite.specs.Batch.{slot_events}
use Rattle.session_core.proofs.writing.store_texts.Goals as goal

pub returns-in-Ok-clause-files : goal.returns-in-Ok-clause-files
returns-in-Ok-clause-files g c =
    at_grows (slot_events c.args.batch.now) (g.D.Disk.past c.args.disk.now.disk) (g.D.Disk.past c.store.new.disk.disk)
    (λ es files. slots_files c.args.store.now.header.blocks c.args.store.now.spaces c.args.batch.now c.are_texts.ensures es c.requires.most files) c.requires.files c.in-Ok.ensures.exact

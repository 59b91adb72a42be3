use Rattle.disk_model.proofs.Moments.{at_each}
use Rattle.doublewrite.specs.Batch.{home_events}
use Rattle.session_core.proofs.LogWrites.{at_grows}
use Rattle.session_core.proofs.PutWrites.{fits_space, homes_files}
use Rattle.session_core.proofs.writing.home_texts.Goals as goal

pub home-requires-clause-inside : goal.home-requires-clause-inside
home-requires-clause-inside g c =
    let blocks = c.args.store.now.header.blocks in
    let spaces = c.args.store.now.spaces in
    let info = c.requires.within.0 in
    at_each (λ es files. (info.pages, fits_space blocks spaces c.args.batch.now c.are_texts.ensures es info c.requires.within.1 c.requires.within.2 es files)) c.requires.files

pub returns-in-Ok-clause-files : goal.returns-in-Ok-clause-files
returns-in-Ok-clause-files g c =
    let blocks = c.args.store.now.header.blocks in
    let spaces = c.args.store.now.spaces in
    at_grows (home_events c.args.batch.now) (g.D.Disk.past c.args.disk.now.disk) (g.D.Disk.past c.home.new.disk.disk)
    (λ es files. homes_files blocks spaces c.args.batch.now c.are_texts.ensures es c.requires.within.0 c.requires.within.1 c.requires.within.2 files) c.requires.files c.in-Ok.ensures.exact

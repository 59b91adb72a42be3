use Rattle.disk_model.specs.Contents.{events}
use Rattle.log_drill.proofs.LogFiles.{file_here, places_kept}
use Rattle.log_drill.proofs.Sessions.{check_keeps}
use Rattle.log_drill.proofs.session.move_from.Goals as goal

pub returns-in-Ok-clause-journal : goal.returns-in-Ok-clause-journal
returns-in-Ok-clause-journal c = λ keys count m none.
    let e = c.in-Ok.ensures in
    check_keeps keys count c.args.from (events c.args.disk.now.contents) c.args.log.now m none c.checkpoint.new.self (events c.checkpoint.new.disk.contents) e.moved e.open e.fits (λ r fits at. (e.does keys r fits at).next) (λ r start journal bound j. e.journal keys r start journal bound j) (λ at. (e.recorded at).1)

pub returns-in-Ok-clause-places : goal.returns-in-Ok-clause-places
returns-in-Ok-clause-places c = places_kept _ c.requires.ring (events c.args.disk.now.contents) (events c.checkpoint.new.disk.contents) c.requires.places c.in-Ok.ensures.places

pub returns-in-Err-clause-places : goal.returns-in-Err-clause-places
returns-in-Err-clause-places c = places_kept _ c.requires.ring (events c.args.disk.now.contents) (events c.checkpoint.new.disk.contents) c.requires.places c.in-Err.ensures.places

pub checkpoint-requires-clause-file : goal.checkpoint-requires-clause-file
checkpoint-requires-clause-file c = file_here _ c.requires.ring (events c.args.disk.now.contents) c.requires.places

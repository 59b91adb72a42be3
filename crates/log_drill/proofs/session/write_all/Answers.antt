use Rattle.disk_model.specs.Contents.{events}
use Rattle.log_drill.proofs.LogFiles.{file_here, places_kept}
use Rattle.log_drill.proofs.Sessions.{write_keeps}
use Rattle.log_drill.proofs.session.write_all.Goals as goal

pub returns-in-Ok-clause-journal : goal.returns-in-Ok-clause-journal
returns-in-Ok-clause-journal c = λ keys count k.
    let e = c.in-Ok.ensures in
    write_keeps keys count (events c.args.disk.now.contents) c.args.log.now k c.write_out.new.self (events c.write_out.new.disk.contents) e.given_up e.open e.fits (λ r fits at. (e.does keys r fits at).next) (λ r start journal fits all j. e.journal keys r start journal fits all j) (λ at. (e.recorded at).1)

pub returns-in-Ok-clause-places : goal.returns-in-Ok-clause-places
returns-in-Ok-clause-places c = places_kept _ c.requires.ring (events c.args.disk.now.contents) (events c.write_out.new.disk.contents) c.requires.places c.in-Ok.ensures.places

pub returns-in-Err-clause-places : goal.returns-in-Err-clause-places
returns-in-Err-clause-places c = places_kept _ c.requires.ring (events c.args.disk.now.contents) (events c.write_out.new.disk.contents) c.requires.places c.in-Err.ensures.places

pub write_out-requires : goal.write_out-requires
write_out-requires c = record { file = file_here _ c.requires.ring (events c.args.disk.now.contents) c.requires.places }

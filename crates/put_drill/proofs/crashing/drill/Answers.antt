use Rattle.std.proofs.Common.{Some, refl}
use Rattle.disk_model.specs.Contents.{events}
use Rattle.disk_model.proofs.Moments.{at_each, at_last}
use Rattle.places.specs.Batches.{From}
use Rattle.put_drill.specs.Put.{AreFilesMade, Putting}
use Rattle.disk_model.specs.declared.names.FileName.TheVariants.{Double, Space}
use Rattle.page_places.specs.Texts.{pages, slots}
use Rattle.places.proofs.Crashed.{crashed_places}
use Rattle.put_drill.proofs.Images.{made_double, made_now, crash_stands, put_double, put_pages}
use Rattle.put_drill.proofs.crashing.drill.Goals as goal

pub put-requires-clause-places : goal.put-requires-clause-places
put-requires-clause-places c = at_each made_double c.in_ok-make_files.ensures.made

pub put-requires-clause-inside : goal.put-requires-clause-inside
put-requires-clause-inside c = at_each (made_now c.args.batch.now c.requires.space c.requires.numbers) c.in_ok-make_files.ensures.made

pub returns-clause-stands : goal.returns-clause-stands
returns-clause-stands c =
    let batch = c.args.batch.now in
    let s = events c.make_files.new.disk.contents in
    let m = events c.put.new.disk.contents in
    let made : AreFilesMade s = c.in_ok-make_files.ensures.made.here s refl in
    let last : Putting batch s m = ((at_last (From (Putting batch) (Some s)) _ _ c.put.ensures.does.moments).here m refl).here s refl in
    (s, crash_stands batch c.requires.space c.requires.texts c.requires.numbers s made c.args.choice.now m last)

pub returns-clause-slots : goal.returns-clause-slots
returns-clause-slots c =
    let batch = c.args.batch.now in
    let s = events c.make_files.new.disk.contents in
    let m = events c.put.new.disk.contents in
    let made : AreFilesMade s = c.in_ok-make_files.ensures.made.here s refl in
    let last : Putting batch s m = ((at_last (From (Putting batch) (Some s)) _ _ c.put.ensures.does.moments).here m refl).here s refl in
    crashed_places Double slots c.args.choice.now m (events c.in-Ok.crashed.contents) c.in-Ok.ensures.crash (put_double batch c.requires.space c.requires.texts c.requires.numbers s made m last)

pub returns-clause-pages : goal.returns-clause-pages
returns-clause-pages c =
    let batch = c.args.batch.now in
    let s = events c.make_files.new.disk.contents in
    let m = events c.put.new.disk.contents in
    let made : AreFilesMade s = c.in_ok-make_files.ensures.made.here s refl in
    let last : Putting batch s m = ((at_last (From (Putting batch) (Some s)) _ _ c.put.ensures.does.moments).here m refl).here s refl in
    crashed_places (Space 5) (pages 64) c.args.choice.now m (events c.in-Ok.crashed.contents) c.in-Ok.ensures.crash (put_pages batch c.requires.space c.requires.texts c.requires.numbers s made m last)

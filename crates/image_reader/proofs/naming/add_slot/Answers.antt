use Rattle.image_reader.proofs.NameLaws.{on_ok, live_adds, none_adds}
use Rattle.image_reader.proofs.naming.add_slot.Goals as goal

pub returns-in-Some : goal.returns-in-Some
returns-in-Some c = on_ok c.add_text.result _ _ (live_adds c.args.home.now c.args.double.now c.args.space c.args.page c.args.id _ c.args.index _ c.in-Some.text.now c.in-Some.ensures.1) c.add_text.ensures

pub returns-in-None : goal.returns-in-None
returns-in-None c = none_adds c.args.home.now c.args.double.now c.args.space c.args.page c.args.id _ c.args.index c.in-None.ensures

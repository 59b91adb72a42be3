use Rattle.image_pages.proofs.Recovered.{chosen_some, chosen_none}
use Rattle.image_reader.proofs.NameLaws.{on_ok, chosen_adds, unused_adds, nothing_adds}
use Rattle.image_reader.proofs.naming.add_chosen.Goals as goal

pub returns-in_default : goal.returns-in_default
returns-in_default c = nothing_adds c.args.home.now c.args.double.now c.args.space c.args.page c.args.id _ c.in_default.ensures

pub returns-in-Some-chosen : goal.returns-in-Some-chosen
returns-in-Some-chosen c =
    let is = chosen_some c.args.home.now c.args.double.now c.args.space c.args.page c.chosen_bytes.result c.in-Some.chosen c.in-Some-chosen.text c.chosen_bytes.ensures c.in-Some.is c.in-Some-chosen.is in
    on_ok c.add_text.result _ _ (chosen_adds c.args.home.now c.args.double.now c.args.space c.args.page c.args.id _ _ c.in-Some-chosen.text.now is) c.add_text.ensures

pub returns-in-None : goal.returns-in-None
returns-in-None c =
    unused_adds c.args.home.now c.args.double.now c.args.space c.args.page c.args.id _ (chosen_none c.args.home.now c.args.double.now c.args.space c.args.page c.chosen_bytes.result c.in-Some.chosen c.chosen_bytes.ensures c.in-Some.is c.in-None.is)

use Rattle.image_reader.specs.Naming.{Below, IsChosenName, IsSlotName}
use Rattle.image_reader.proofs.Additions.{adds_then}
use Rattle.image_reader.proofs.NameLaws.{on_ok}
use Rattle.image_reader.proofs.naming.add_page.Goals as goal

pub returns : goal.returns
returns c =
    on_ok c.add_slots.result _ _
    (λ slots. adds_then (IsChosenName c.args.home.now c.args.double.now c.args.space c.args.page c.args.id) (Below (IsSlotName c.args.home.now c.args.double.now c.args.space c.args.page c.args.id) 64) _ _ _ c.in_ok-add_chosen.ensures slots) c.add_slots.ensures

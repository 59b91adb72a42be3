use Rattle.std.proofs.Common.{sym, ◌∙◌, ap}
use Rattle.keyd_cli.specs.Parts.{drill_parts_left}
use Rattle.keyd_cli.proofs.PartsLemmas.{one_part, first_part}
use Rattle.keyd_cli.proofs.parts.DrillParts.next.Goals as goal

pub returns-in-Some : goal.returns-in-Some
returns-in-Some c =
    sym c.self.view_is ∙ ap (drill_parts_left c.self.inside.separator) c.in_ok-rest.was
    ∙ first_part c.self.inside.separator c.in_ok-rest.rest.now c.in-Some.part.now c.in-Some.behind.now c.in-Some.ensures

pub returns-in-None : goal.returns-in-None
returns-in-None c =
    sym c.self.view_is ∙ ap (drill_parts_left c.self.inside.separator) c.in_ok-rest.was ∙ one_part c.self.inside.separator c.in_ok-rest.rest.now c.in-None.ensures

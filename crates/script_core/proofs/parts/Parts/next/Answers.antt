use Rattle.std.proofs.Common.{sym, ◌∙◌, ap}
use Rattle.script_core.specs.Parts.{parts_left}
use Rattle.script_core.proofs.PartsLemmas.{one_part, first_part}
use Rattle.script_core.proofs.parts.Parts.next.Goals as goal

pub returns-in-Some : goal.returns-in-Some
returns-in-Some c =
    sym c.self.view_is ∙ ap (parts_left c.self.inside.separator) c.in_ok-rest.was
    ∙ first_part c.self.inside.separator c.in_ok-rest.rest.now c.in-Some.part.now c.in-Some.behind.now c.in-Some.ensures

pub returns-in-None : goal.returns-in-None
returns-in-None c =
    sym c.self.view_is ∙ ap (parts_left c.self.inside.separator) c.in_ok-rest.was ∙ one_part c.self.inside.separator c.in_ok-rest.rest.now c.in-None.ensures

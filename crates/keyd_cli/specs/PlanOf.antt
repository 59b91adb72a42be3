-- The plan of a list of options.
use Rattle.std.specs.Prelude.{◌≤◌, ◌<◌, List, length}
use Rattle.keyd_cli.specs.declared.plan.DrillPlan.{DrillPlan}
use Rattle.keyd_cli.specs.Words.{most_pages, last_space_id, CommandWord}
use Rattle.keyd_cli.specs.Plan.{IsSpaceIn, IsStopIn, AreChoicesIn}

pub record IsPlan (options : List CommandWord) (plan : DrillPlan) : Type 0 where
  pub space : IsSpaceIn options plan.space
  pub stop : IsStopIn options plan.stop
  pub choices : AreChoicesIn options plan.choices.items

-- a plan within the bounds of the words
pub record IsFitting (plan : DrillPlan) : Type 0 where
  pub id_to : plan.space.space ≤ last_space_id
  pub pages_from : 2 ≤ plan.space.pages
  pub pages_to : plan.space.pages ≤ most_pages
  pub some : 0 < length plan.choices.items

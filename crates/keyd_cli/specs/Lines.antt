-- What one line of a schedule is.
use Rattle.std.specs.Prelude.{ℕ, List}
use Rattle.keyd_cli.specs.declared.act.DrillAct.{DrillAct}
use Rattle.keyd_cli.specs.declared.schedule.LineKind.{LineKind}
use Rattle.keyd_cli.specs.declared.schedule.LineKind.TheVariants as line_kind
use Rattle.keyd_cli.specs.Schedule.{IsNoStatement, IsAct}

abbrev pub IsDrillLine : ℕ → ℕ → List ℕ → LineKind → Type 0
IsDrillLine space pages line line_kind.Skipped = IsNoStatement line
IsDrillLine space pages line (line_kind.Act act) = IsAct space pages line act × (IsNoStatement line → ⊥)
IsDrillLine space pages line line_kind.Other = (IsNoStatement line → ⊥) × ((act : DrillAct) → IsAct space pages line act → ⊥)

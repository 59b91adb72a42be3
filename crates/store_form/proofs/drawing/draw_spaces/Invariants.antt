use Rattle.std.proofs.Common.{◌≡◌, ◌++◌, drop}
use Rattle.store_form.specs.Made.{AreMadeInfos}
use Rattle.store_form.specs.Plan.{after_salts, infos_drawn}
use Rattle.store_form.proofs.drawing.draw_spaces.Given as goal

abbrev pub invariant-loop-i : goal.invariant-loop-i
invariant-loop-i g l = record {
  drawn : l.spaces.items ++ infos_drawn l.active (drop l.i l.plans) (g.R.Rng.stream l.rng) ≡ infos_drawn l.active l.plans (g.R.Rng.stream l.fn.rng);
  made : AreMadeInfos l.spaces.items;
  left : g.R.Rng.stream l.rng ≡ after_salts l.i (g.R.Rng.stream l.fn.rng);
}

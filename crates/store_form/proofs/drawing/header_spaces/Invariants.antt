use Rattle.std.proofs.Common.{◌≡◌, length, map, take}
use Rattle.store_form.specs.Plan.{held_plan}
use Rattle.store_form.specs.Said.{space_said}
use Rattle.store_form.proofs.drawing.header_spaces.Given as goal

abbrev pub invariant-loop-i : goal.invariant-loop-i
invariant-loop-i l = (map space_said (take l.i l.spaces) ≡ map held_plan (take l.i l.plans)) × (length l.spaces ≡ 16)

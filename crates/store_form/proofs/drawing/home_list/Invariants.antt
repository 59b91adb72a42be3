use Rattle.std.proofs.Common.{◌≡◌, ◌-◌, ◌≤◌, ◌∷◌, replicate, max}
use Rattle.space_head.specs.declared.space.Home.TheVariants.{Unused, Clean}
use Rattle.store_form.proofs.drawing.home_list.Given as goal

abbrev pub invariant-loop-i : goal.invariant-loop-i
invariant-loop-i l = (l.homes.items ≡ Clean 0 ∷ replicate (l.i - 1) Unused) × (l.i ≤ max 1 l.pages)

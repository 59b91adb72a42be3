use Rattle.std.proofs.Common.{◌≡◌}
use Rattle.std.specs.Map.{lookup}
use Rattle.page_pool.specs.Pages.{is_name}
use Rattle.page_pool.specs.Slots.{held_in}
use Rattle.page_pool.proofs.clean.page_in.Given as goal

abbrev pub invariant-loop-held : goal.invariant-loop-held
invariant-loop-held l = (goal.iterator-loop-held).can_next l.held-iterator × (goal.iterator-loop-held).is_finite l.held-iterator
    × (lookup (is_name l.name) (held_in l.held-iterator) ≡ lookup (is_name l.name) (held_in l.slots.entries))

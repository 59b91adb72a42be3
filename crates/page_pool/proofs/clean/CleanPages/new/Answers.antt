use Rattle.std.proofs.Common.{◌≡◌, [], sym, ◌∙◌, ap, subst}
use Rattle.std.specs.List.{IsDistinct}
use Rattle.page_pool.specs.Slots.{AreSlots, held_in}
use Rattle.page_pool.proofs.CleanLists.{AreApart, clean_in}
use Rattle.page_pool.proofs.Slots.{all_empty, held_empty}
use Rattle.page_pool.proofs.clean.CleanPages.new.Goals as goal

none_apart : AreApart []
unfolding IsDistinct
none_apart = tt

pub invariant_of-result : goal.invariant_of-result
invariant_of-result c =
    let slots = subst AreSlots (sym c.in_ok-slots.ensures) all_empty in
    let none : held_in c.in_ok-slots.slots.entries ≡ [] = ap held_in c.in_ok-slots.ensures ∙ held_empty 64 in
    (slots, clean_in c.in_ok-slots.slots.entries slots (subst AreApart (sym none) none_apart))

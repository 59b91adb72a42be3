use Rattle.std.proofs.Common.{◌≡◌, false, is_some, List, sym, subst}
use Rattle.std.specs.Map.{lookup}
use Rattle.store_model.specs.declared.contents.PlainPage.{PlainPage}
use Rattle.page_pool.specs.declared.names.PageName.{PageName}
use Rattle.page_pool.specs.Pages.{is_name}
use Rattle.page_pool.proofs.CleanLists.{AreApart, apart_admitted, clean_in}
use Rattle.page_pool.specs.Slots.{held_in}
use Rattle.page_pool.proofs.clean.CleanPages.hold.Goals as goal

pub invariant_of-self : goal.invariant_of-self
invariant_of-self c =
    let absent : is_some (lookup (is_name c.args.name) (held_in c.self.inside.slots.entries)) ≡ false =
    subst (λ (l : List (PageName × PlainPage)). is_some (lookup (is_name c.args.name) l) ≡ false) (sym c.self.view_is) c.requires in (
      c.fill_slot.ensures.slots,
      clean_in c.fill_slot.new.slots.entries c.fill_slot.ensures.slots
          (subst AreApart (sym c.fill_slot.ensures.held) (apart_admitted c.args.name c.args.frame (held_in c.self.inside.slots.entries) absent c.self.invariant.1.apart)),
    )

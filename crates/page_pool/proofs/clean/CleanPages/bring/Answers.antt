use Rattle.std.proofs.Common.{◌≡◌, ℕ, nat_eq, sym, ◌∙◌, ap, subst}
use Rattle.lru.specs.LruCache.{LruCache, promoted}
use Rattle.page_pool.specs.Pages.{is_name}
use Rattle.page_pool.specs.Slots.{AreSlots, SlotContents, held_in}
use Rattle.page_pool.proofs.CleanLists.{AreApart, apart_promoted, clean_in}
use Rattle.page_pool.proofs.Slots.{brought, brought_slots, found, not_brought, not_found}
use Rattle.page_pool.proofs.clean.CleanPages.bring.Goals as goal

pub invariant_of-self : goal.invariant_of-self
invariant_of-self c =
    let at = found c.args.name c.self.inside.slots.entries c.in-Some.slot c.len-count.ensures.valid.0 (sym c.slot_of.ensures ∙ c.in-Some.is) in
    let entries : c.promote.new.self.entries ≡ promoted (nat_eq c.in-Some.slot) c.self.inside.slots.entries = ap (λ (k : LruCache ℕ SlotContents). k.entries) c.promote.ensures.entries in
    let slots = subst AreSlots (sym entries) (brought_slots c.in-Some.slot c.args.name at.0 c.self.inside.slots.entries at.1 c.self.invariant.0) in
    let pages : held_in c.promote.new.self.entries ≡ promoted (is_name c.args.name) (held_in c.self.inside.slots.entries) = ap held_in entries ∙ brought c.in-Some.slot c.args.name at.0 c.self.inside.slots.entries at.1 in
    (slots, clean_in c.promote.new.self.entries slots (subst AreApart (sym pages) (apart_promoted c.args.name (held_in c.self.inside.slots.entries) c.self.invariant.1.apart)))

pub returns-in-Some : goal.returns-in-Some
returns-in-Some c =
    let at = found c.args.name c.self.inside.slots.entries c.in-Some.slot c.len-count.ensures.valid.0 (sym c.slot_of.ensures ∙ c.in-Some.is) in
    ap (λ (k : LruCache ℕ SlotContents). held_in k.entries) c.promote.ensures.entries
    ∙ brought c.in-Some.slot c.args.name at.0 c.self.inside.slots.entries at.1
    ∙ ap (promoted (is_name c.args.name)) c.self.view_is

pub returns-in_default : goal.returns-in_default
returns-in_default c =
    sym c.self.view_is
    ∙ sym (not_brought c.args.name (held_in c.self.inside.slots.entries) (not_found c.args.name c.self.inside.slots.entries (sym c.slot_of.ensures ∙ c.in_default.is)))
    ∙ ap (promoted (is_name c.args.name)) c.self.view_is

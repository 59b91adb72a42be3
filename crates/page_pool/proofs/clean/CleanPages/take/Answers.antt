use Rattle.std.proofs.Common.{◌≡◌, ℕ, nat_eq, List, Option, Some, None, is_some, sym, ◌∙◌, ap, subst}
use Rattle.std.specs.Option.{option_map}
use Rattle.std.specs.Map.{lookup, remove_entry}
use Rattle.lru.proofs.Pairs.{lookup-lookup_entry}
use Rattle.store_model.specs.declared.contents.PlainPage.{PlainPage}
use Rattle.page_pool.specs.declared.names.PageName.{PageName}
use Rattle.page_pool.specs.Pages.{is_name}
use Rattle.page_pool.specs.Slots.{AreSlots, SlotContents, held_in}
use Rattle.page_pool.proofs.CleanLists.{AreApart, apart_removed, clean_in, not_removed}
use Rattle.page_pool.proofs.Slots.{IsAt, found, not_found, taken_held, taken_slots}
use Rattle.page_pool.proofs.clean.CleanPages.take.Goals as goal
use Rattle.page_pool.proofs.clean.CleanPages.take.Goals.{in-Some-empty_slot, in-None-empty_slot}

-- what stands in the slot
in_slot : (k : ℕ) (name : PageName) (page : PageName × PlainPage) (es : List (ℕ × SlotContents)) → IsAt k name page es → lookup (nat_eq k) es ≡ Some (Some page)
in_slot k name page es at = sym (lookup-lookup_entry (nat_eq k) es) ∙ ap (option_map (λ (e : ℕ × SlotContents). e.1)) at.entry

as_held : (k : ℕ) (name : PageName) (page : PageName × PlainPage) (es : List (ℕ × SlotContents)) → IsAt k name page es → lookup (is_name name) (held_in es) ≡ Some page.1
as_held k name page es at = sym (lookup-lookup_entry (is_name name) (held_in es)) ∙ ap (option_map (λ (e : PageName × PlainPage). e.1)) at.held

pub empty_slot-requires : goal.empty_slot-requires
empty_slot-requires c =
    let at = found c.args.name c.self.inside.slots.entries c.in-Some.slot c.len-count.ensures.valid.0 (sym c.slot_of.ensures ∙ c.in-Some.is) in
    ap is_some (in_slot c.in-Some.slot c.args.name at.0 c.self.inside.slots.entries at.1)

pub invariant_of-self : goal.invariant_of-self
invariant_of-self c =
    let at = found c.args.name c.self.inside.slots.entries c.in-Some.slot c.len-count.ensures.valid.0 (sym c.slot_of.ensures ∙ c.in-Some.is) in
    let slots = subst AreSlots (sym c.empty_slot.ensures.rest) (taken_slots c.in-Some.slot c.args.name at.0 c.self.inside.slots.entries at.1 c.self.invariant.0) in
    let pages : held_in c.empty_slot.new.slots.entries ≡ remove_entry (is_name c.args.name) (held_in c.self.inside.slots.entries) = ap held_in c.empty_slot.ensures.rest ∙ taken_held c.in-Some.slot c.args.name at.0 c.self.inside.slots.entries at.1 in
    (slots, clean_in c.empty_slot.new.slots.entries slots (subst AreApart (sym pages) (apart_removed (is_name c.args.name) (held_in c.self.inside.slots.entries) c.self.invariant.1.apart)))

-- the page in the slot is the one that was held
held_there : (c : goal.Joined-empty_slot) → option_map (λ (p : PageName × PlainPage). p.1) c.empty_slot.result ≡ lookup (is_name c.args.name) c.args.self.now
held_there c =
    let at = found c.args.name c.self.inside.slots.entries c.in-Some.slot c.len-count.ensures.valid.0 (sym c.slot_of.ensures ∙ c.in-Some.is) in
    let there : Some c.empty_slot.result ≡ Some (Some at.0) = c.empty_slot.ensures.held ∙ in_slot c.in-Some.slot c.args.name at.0 c.self.inside.slots.entries at.1 in
    let page : c.empty_slot.result ≡ Some at.0 = ap (λ (o : Option SlotContents). option_flat o) there in
    ap (option_map (λ (p : PageName × PlainPage). p.1)) page
    ∙ sym (as_held c.in-Some.slot c.args.name at.0 c.self.inside.slots.entries at.1)
    ∙ ap (lookup (is_name c.args.name)) c.self.view_is
  where
    option_flat : Option SlotContents → SlotContents
    option_flat (Some h) = h
    option_flat None = None

pub returns-after-empty_slot-clause-page : goal.returns-after-empty_slot-clause-page
returns-after-empty_slot-clause-page c = elim c.match-empty_slot.branch [
  | in-Some-empty_slot w ↦ w.result-is ∙ sym (ap (option_map (λ (p : PageName × PlainPage). p.1)) w.in-Some-empty_slot.is) ∙ held_there c
  | in-None-empty_slot w ↦ w.result-is ∙ sym (ap (option_map (λ (p : PageName × PlainPage). p.1)) w.in-None-empty_slot.is) ∙ held_there c
]

pub returns-after-empty_slot-clause-rest : goal.returns-after-empty_slot-clause-rest
returns-after-empty_slot-clause-rest c =
    let at = found c.args.name c.self.inside.slots.entries c.in-Some.slot c.len-count.ensures.valid.0 (sym c.slot_of.ensures ∙ c.in-Some.is) in
    ap held_in c.empty_slot.ensures.rest
    ∙ taken_held c.in-Some.slot c.args.name at.0 c.self.inside.slots.entries at.1
    ∙ ap (remove_entry (is_name c.args.name)) c.self.view_is

pub returns-in-None-clause-page : goal.returns-in-None-clause-page
returns-in-None-clause-page c =
    sym (ap (lookup (is_name c.args.name)) (sym c.self.view_is) ∙ not_found c.args.name c.self.inside.slots.entries (sym c.slot_of.ensures ∙ c.in-None.is))

pub returns-in-None-clause-rest : goal.returns-in-None-clause-rest
returns-in-None-clause-rest c =
    sym c.self.view_is
    ∙ sym (not_removed c.args.name (held_in c.self.inside.slots.entries) (not_found c.args.name c.self.inside.slots.entries (sym c.slot_of.ensures ∙ c.in-None.is)))
    ∙ ap (remove_entry (is_name c.args.name)) c.self.view_is

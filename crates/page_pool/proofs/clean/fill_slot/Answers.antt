use Rattle.std.proofs.Common.{◌≡◌, ℕ, List, ◌∷◌, nat_eq, take, Some, refl, sym, ◌∙◌, ap, subst}
use Rattle.std.specs.Prelude.{IsSome}
use Rattle.std.specs.Option.{option_map}
use Rattle.std.specs.Map.Iter.{deref_pair}
use Rattle.lru.specs.LruCache.{LruCache, last_entry}
use Rattle.lru.proofs.Pairs.{lookup-lookup_entry}
use Rattle.page_pool.specs.Slots.{AreSlots, SlotContents, held_in}
use Rattle.page_pool.proofs.Slots.{last_of, put_last, put_slots, put_there}
use Rattle.page_pool.proofs.clean.fill_slot.Goals as goal

-- the last slot is there, and is taken from its place
pub unwrap-last-requires : goal.unwrap-last-requires
unwrap-last-requires c =
    let last : last_entry c.args.slots.now.entries ≡ Some (deref_pair c.unwrap.result) = sym c.peek_lru.ensures ∙ ap (option_map deref_pair) c.unwrap.ensures in
    let at = last_of c.args.slots.now.entries (deref_pair c.unwrap.result) c.requires c.len-count.ensures.valid.0 last in
    c.put.ensures.succeeds (subst IsSome (sym (sym (lookup-lookup_entry (nat_eq c.unwrap.result.0.now) c.args.slots.now.entries) ∙ ap (option_map (λ (e : ℕ × SlotContents). e.1)) at.0)) refl)

entries : (c : goal.Joined-last) → c.put.new.self.entries ≡ (c.unwrap.result.0.now, Some (c.args.name, c.args.frame)) ∷ take 63 c.args.slots.now.entries
entries c =
    let last : last_entry c.args.slots.now.entries ≡ Some (deref_pair c.unwrap.result) = sym c.peek_lru.ensures ∙ ap (option_map deref_pair) c.unwrap.ensures in
    let at = last_of c.args.slots.now.entries (deref_pair c.unwrap.result) c.requires c.len-count.ensures.valid.0 last in
    ap (λ (k : LruCache ℕ SlotContents). k.entries) (rw c.unwrap-last.ensures at c.put.ensures.entries)
    ∙ put_there c.args.slots.now c.unwrap.result.0.now (Some (c.args.name, c.args.frame)) (deref_pair c.unwrap.result) at.0
    ∙ ap (λ (l : List (ℕ × SlotContents)). (c.unwrap.result.0.now, Some (c.args.name, c.args.frame)) ∷ l) at.1

pub returns-clause-slots : goal.returns-clause-slots
returns-clause-slots c = subst AreSlots (sym (entries c)) (put_slots c.unwrap.result.0.now (c.args.name, c.args.frame) c.args.slots.now.entries c.requires)

pub returns-clause-held : goal.returns-clause-held
returns-clause-held c = ap held_in (entries c) ∙ put_last c.unwrap.result.0.now c.args.name c.args.frame c.args.slots.now.entries c.requires

use Rattle.std.proofs.Common.{◌≡◌, ℕ, nat_eq, true, Option, Some, None, is_some, refl, ◌∙◌, ap}
use Rattle.std.specs.Option.{option_map}
use Rattle.std.specs.Map.{lookup, lookup_entry}
use Rattle.lru.specs.LruCache.{LruCache, demoted, put_entries}
use Rattle.lru.proofs.Pairs.{lookup-lookup_entry}
use Rattle.page_pool.specs.Slots.{SlotContents, emptied}
use Rattle.page_pool.proofs.Slots.{put_behind, put_there}
use Rattle.page_pool.proofs.clean.empty_slot.Goals as goal

behind : (cache : LruCache ℕ SlotContents) (k : ℕ) → is_some (lookup (nat_eq k) cache.entries) ≡ true → demoted (nat_eq k) (put_entries nat_eq cache k None) ≡ emptied k cache.entries
behind cache k there = by (lookup_entry (nat_eq k) cache.entries) refl (ap is_some (lookup-lookup_entry (nat_eq k) cache.entries) ∙ there)
  where
    by : (o : Option (ℕ × SlotContents)) → lookup_entry (nat_eq k) cache.entries ≡ o → is_some (option_map (λ (e : ℕ × SlotContents). e.1) (lookup_entry (nat_eq k) cache.entries)) ≡ true → demoted (nat_eq k) (put_entries nat_eq cache k None) ≡ emptied k cache.entries
    by None is some = absurd cc
    by (Some e) is some = ap (demoted (nat_eq k)) (put_there cache k None e is) ∙ put_behind k cache.entries

pub returns-clause-rest : goal.returns-clause-rest
returns-clause-rest c =
    let put : c.put.new.self.entries ≡ put_entries nat_eq c.args.slots.now c.args.slot None = ap (λ (k : LruCache ℕ SlotContents). k.entries) (rw c.unwrap.ensures at c.put.ensures.entries) in
    ap (λ (k : LruCache ℕ SlotContents). k.entries) c.demote.ensures.entries ∙ ap (demoted (nat_eq c.args.slot)) put ∙ behind c.args.slots.now c.args.slot c.requires

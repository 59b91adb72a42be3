use Rattle.std.proofs.Common.{◌≡◌, ℕ, suc, ◌+◌, ◌-◌, ◌<◌, nat_eq, List, ◌∷◌, take, Option, None, sym, ◌∙◌, ap, arith}
use Rattle.std.proofs.lemmas.List.{take_all}
use Rattle.std.specs.Option.{option_map_or}
use Rattle.std.specs.Map.{lookup_entry, remove_entry}
use Rattle.lru.specs.LruCache.{LruCache, put_entries}
use Rattle.page_pool.specs.Slots.{SlotContents, empty_slots}
use Rattle.page_pool.proofs.Slots.{length_empty, no_slot}
use Rattle.page_pool.proofs.clean.add_slot.Goals as goal

-- one slot more
one_more : (cache : LruCache ℕ SlotContents) (n : ℕ) → cache.entries ≡ empty_slots n → cache.cap ≡ 64 → n < 64 → put_entries nat_eq cache n None ≡ empty_slots (n + 1)
one_more cache n is cap lt =
    let one : n + 1 ≡ suc n = omega arith in
    let whole : take 63 (empty_slots n) ≡ empty_slots n = take_all 63 (empty_slots n) (omega (arith, lt, length_empty n)) in
    ap (λ (o : Option (ℕ × SlotContents)). option_map_or (λ e. (e.0, None) ∷ remove_entry (nat_eq n) cache.entries) o ((n, None) ∷ take (cache.cap - 1) cache.entries))
    (ap (lookup_entry (nat_eq n)) is ∙ no_slot n n (omega arith))
    ∙ ap (λ (k : ℕ). (n, None) ∷ take (k - 1) cache.entries) cap
    ∙ ap (λ (l : List (ℕ × SlotContents)). (n, None) ∷ take 63 l) is
    ∙ ap (λ (l : List (ℕ × SlotContents)). (n, None) ∷ l) whole
    ∙ sym (ap empty_slots one)

pub returns-in-Ok : goal.returns-in-Ok
returns-in-Ok c = (
  ap (λ (k : LruCache ℕ SlotContents). k.entries) c.in-Ok.ensures.entries ∙ one_more c.args.slots.now c.args.slot c.requires.0 c.requires.1 c.requires.2,
  ap (λ (k : LruCache ℕ SlotContents). k.cap) c.in-Ok.ensures.entries ∙ c.requires.1,
)

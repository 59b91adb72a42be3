-- No clean page stands twice, whatever is done to the list.
use Rattle.std.proofs.Common.{◌≡◌, ℕ, zero, suc, Bool, true, false, cond, List, [], ◌∷◌, take, Option, Some, None, is_some, refl, ap, subst, arith}
use Rattle.std.specs.List.{AllByRecursion, IsDistinct}
use Rattle.std.specs.Option.{option_map_or}
use Rattle.std.specs.Map.{keys_of, lookup, lookup_entry, remove_entry}
use Rattle.lru.specs.LruCache.{promoted}
use Rattle.lru.proofs.Splits.{all_from, all_map}
use Rattle.lru.proofs.CallerLemmas.{Contains-lookup_entry}
use Rattle.store_model.specs.declared.contents.PlainPage.{PlainPage}
use Rattle.page_pool.specs.declared.names.PageName.{PageName}
use Rattle.page_pool.specs.Pages.{IsCleanList, is_name}
use Rattle.page_pool.specs.Changes.{admitted}
use Rattle.page_pool.specs.Slots.{AreSlots, SlotContents, held_in}
use Rattle.page_pool.proofs.Cleans.{absent_lookup, gone, same_name}
use Rattle.page_pool.proofs.Slots.{held_most}

abbrev Pages : Type 0
Pages = List (PageName × PlainPage)

abbrev pub AreApart : List (PageName × PlainPage) → Type 0
AreApart pages = IsDistinct is_name (keys_of pages)

all_removed : (P : PageName → Type 0) (test : PageName → Bool) (es : Pages) → AllByRecursion P (keys_of es) → AllByRecursion P (keys_of (remove_entry test es))
all_removed P test [] all = tt
all_removed P test (e ∷ es) all = by (test e.0) (all_removed P test es all.1)
  where
    by : (b : Bool) → AllByRecursion P (keys_of (remove_entry test es)) → AllByRecursion P (keys_of (cond b es (e ∷ remove_entry test es)))
    by true later = all.1
    by false later = (all.0, later)

pub apart_removed : (test : PageName → Bool) (es : List (PageName × PlainPage)) → AreApart es → AreApart (remove_entry test es)
unfolding IsDistinct
apart_removed test [] apart = tt
apart_removed test (e ∷ es) apart = by (test e.0) (apart_removed test es apart.1)
  where
    by : (b : Bool) → AreApart (remove_entry test es) → AreApart (cond b es (e ∷ remove_entry test es))
    by true later = apart.1
    by false later = (all_removed (λ (y : PageName). is_name e.0 y ≡ false) test es apart.0, later)

all_taken : (P : PageName → Type 0) (n : ℕ) (es : Pages) → AllByRecursion P (keys_of es) → AllByRecursion P (keys_of (take n es))
all_taken P zero es all = tt
all_taken P (suc n) [] all = tt
all_taken P (suc n) (e ∷ es) all = (all.0, all_taken P n es all.1)

apart_taken : (n : ℕ) (es : Pages) → AreApart es → AreApart (take n es)
unfolding IsDistinct
apart_taken zero es apart = tt
apart_taken (suc n) [] apart = tt
apart_taken (suc n) (e ∷ es) apart = (all_taken (λ (y : PageName). is_name e.0 y ≡ false) n es apart.0, apart_taken n es apart.1)

-- a page that isn't there is none of them
all_others : (name : PageName) (es : Pages) → lookup (is_name name) es ≡ None → AllByRecursion (λ (y : PageName). is_name name y ≡ false) (keys_of es)
all_others name [] none = tt
all_others name (e ∷ es) none = by (is_name name e.0) refl none (all_others name es)
  where
    by : (b : Bool) → is_name name e.0 ≡ b → cond b (Some e.1) (lookup (is_name name) es) ≡ None → (lookup (is_name name) es ≡ None → AllByRecursion (λ (y : PageName). is_name name y ≡ false) (keys_of es))
        → (is_name name e.0 ≡ false) × AllByRecursion (λ (y : PageName). is_name name y ≡ false) (keys_of es)
    by true is none later = cc
    by false isnt none later = (isnt, later none)

apart_more : (name : PageName) (page : PlainPage) (es : Pages) → AllByRecursion (λ (y : PageName). is_name name y ≡ false) (keys_of es) → AreApart es → AreApart ((name, page) ∷ es)
unfolding IsDistinct
apart_more name page es others apart = (others, apart)

pub apart_admitted : (name : PageName) (page : PlainPage) (es : List (PageName × PlainPage)) → is_some (lookup (is_name name) es) ≡ false → AreApart es → AreApart (admitted name page es)
apart_admitted name page es absent apart =
    apart_more name page (take 63 es) (all_taken (λ (y : PageName). is_name name y ≡ false) 63 es (all_others name es (absent_lookup (lookup (is_name name) es) absent))) (apart_taken 63 es apart)

pub apart_promoted : (name : PageName) (es : List (PageName × PlainPage)) → AreApart es → AreApart (promoted (is_name name) es)
apart_promoted name es apart = by (lookup_entry (is_name name) es) refl
  where
    by : (o : Option (PageName × PlainPage)) → lookup_entry (is_name name) es ≡ o → AreApart (option_map_or (λ e. e ∷ remove_entry (is_name name) es) o es)
    by None is = apart
    by (Some e) is =
        let same : name ≡ e.0 = same_name name e.0 (Contains-lookup_entry (is_name name) es e is).1 in
        let others : AllByRecursion (λ (y : PageName). is_name name y ≡ false) (keys_of (remove_entry (is_name name) es)) =
        all_map (λ (x : PageName × PlainPage). x.0) (λ (y : PageName). is_name name y ≡ false) (remove_entry (is_name name) es)
        (all_from (λ (x : PageName × PlainPage). is_name name x.0 ≡ false) (remove_entry (is_name name) es) (gone name es apart)) in
        apart_more e.0 e.1 (remove_entry (is_name name) es) (subst (λ (n : PageName). AllByRecursion (λ (y : PageName). is_name n y ≡ false) (keys_of (remove_entry (is_name name) es))) same others)
        (apart_removed (is_name name) es apart)

-- the pages of slots, where they are apart
pub clean_in : (es : List (ℕ × SlotContents)) → AreSlots es → AreApart (held_in es) → IsCleanList (held_in es)
clean_in es slots apart = let most = held_most es in record { most = omega (arith, most, slots.all); apart = apart }

-- nothing is removed of a page that isn't there
pub not_removed : (name : PageName) (es : List (PageName × PlainPage)) → lookup (is_name name) es ≡ None → remove_entry (is_name name) es ≡ es
not_removed name [] none = refl
not_removed name (e ∷ es) none = by (is_name name e.0) none (not_removed name es)
  where
    by : (b : Bool) → cond b (Some e.1) (lookup (is_name name) es) ≡ None → (lookup (is_name name) es ≡ None → remove_entry (is_name name) es ≡ es) → cond b es (e ∷ remove_entry (is_name name) es) ≡ e ∷ es
    by true none later = cc
    by false none later = ap (λ (l : Pages). e ∷ l) (later none)

-- A page is made dirty in a pool that has no clean one.
use Rattle.std.proofs.Common.{◌≡◌, ℕ, ◌+◌, ◌<◌, Bool, true, false, cond, if◌then◌else◌, ◌||◌, List, [], ◌∷◌, length, Option, Some, None, refl, sym, ap, subst, ◌∙◌, arith}
use Rattle.std.proofs.lemmas.Bool.Decides.{nat_tests}
use Rattle.std.specs.Map.{lookup, remove_entry}
use Rattle.redo_text.specs.declared.change.Change.TheVariants.{Touch}
use Rattle.store_model.specs.Fold.{used}
use Rattle.store_model.specs.declared.contents.PlainPage.{PlainPage}
use Rattle.page_pool.specs.declared.names.PageName.{PageName}
use Rattle.page_pool.specs.Changes.{HasNamed, changed_again, held_after, made_dirty, pool_after}
use Rattle.page_pool.specs.Pages.{PoolState, held_page, is_dirty, is_name}
use Rattle.page_pool.proofs.Cleans.{same_name}
use Rattle.page_pool.proofs.Named.{named_first}
use Rattle.recovery.specs.Loading.{HoldsMore, name_in}

pub name_itself : (name : PageName) → is_name name name ≡ true
name_itself name = grind (arith, nat_tests)

pub name_back : (one other : PageName) → is_name one other ≡ false → is_name other one ≡ false
name_back one other h = grind (arith, nat_tests)

module _ (s p : ℕ) (old new : PoolState) (fresh : is_dirty (name_in s p) old.dirty ≡ false) (alone : remove_entry (is_name (name_in s p)) old.clean ≡ []) (changed : new ≡ pool_after 0 0 (Touch s p ∷ []) old)
    (held : (name : PageName) → held_page name new ≡ held_after (Touch s p ∷ []) name (held_page name old)) where
  abbrev again : PoolState
  again = record { dirty = changed_again (name_in s p) 0 (Touch s p) old.dirty; clean = old.clean }

  abbrev fresh_state : PoolState
  fresh_state = record { dirty = made_dirty (name_in s p) 0 0 (used (lookup (is_name (name_in s p)) old.clean)) old.dirty; clean = remove_entry (is_name (name_in s p)) old.clean }

  is : new ≡ fresh_state
  is = changed ∙ ap (λ (b : Bool). if b then again else fresh_state) fresh

  named : HasNamed (name_in s p) old new
  named = subst (HasNamed (name_in s p) old) (sym is) (named_first (name_in s p) 0 0 (used (lookup (is_name (name_in s p)) old.clean)) old fresh)

  -- a page that is touched holds what it held
  pub touched : HoldsMore (name_in s p) (used (held_page (name_in s p) old)) old new
  touched = record {
    clean = ap (λ (t : PoolState). t.clean) is ∙ alone;
    count = named.count ∙ ap (λ (b : Bool). length old.dirty.entries + (if b then 0 else 1)) fresh;
    dirty = named.dirty;
    held = λ other. held other ∙ by other (is_name (name_in s p) other) refl;
  }
    where
      by : (other : PageName) (b : Bool) → is_name (name_in s p) other ≡ b
          → (if b then Some (used (held_page other old)) else held_page other old) ≡ (if b then Some (used (held_page (name_in s p) old)) else held_page other old)
      by other true here = ap (λ (n : PageName). Some (used (held_page n old))) (sym (same_name (name_in s p) other here))
      by other false apart = refl

-- What is dirty and held once a page was changed.
use Rattle.std.proofs.Common.{◌≡◌, ℕ, ◌+◌, Bool, true, false, ◌||◌, if◌then◌else◌, List, length, Option, is_some, refl, sym, ◌∙◌, ap, subst, arith}
use Rattle.std.specs.List.{IsDistinct}
use Rattle.std.specs.Map.{keys_of, lookup, remove_entry}
use Rattle.std.proofs.lemmas.List.Edits.{length-insert}
use Rattle.std.proofs.lemmas.List.Sums.{prefix_len-le-length}
use Rattle.redo_text.specs.declared.change.Change.{Change}
use Rattle.store_model.specs.declared.contents.PlainPage.{PlainPage}
use Rattle.page_pool.specs.declared.names.DirtyPage.{DirtyPage}
use Rattle.page_pool.specs.declared.names.PageName.{PageName}
use Rattle.page_pool.specs.Pages.{AreClean, DirtyList, PoolState, comes_before, entered, entry_place, is_dirty, is_name, is_named, without}
use Rattle.page_pool.specs.Changes.{HasNamed, changed_again, made_dirty}
use Rattle.page_pool.proofs.Cleans.{gone, lookup_other, same_name}
use Rattle.lru.proofs.CallerLemmas.{Contains-remove_entry}
use Rattle.page_pool.proofs.Entries.{any_stamped, length-stamped}
use Rattle.page_pool.proofs.Lists.{any_insert, any_removed, neither}

-- ---- a page that was dirty

pub dirty_still : (name other : PageName) (lsn : ℕ) (c : Change) (list : DirtyList) → is_dirty other (changed_again name lsn c list) ≡ is_dirty other list
dirty_still name other lsn c list = any_stamped (is_named other) (λ d n. refl) name lsn list.entries

pub clean_again : (name : PageName) (lsn : ℕ) (c : Change) (list : DirtyList) (clean : List (PageName × PlainPage)) → AreClean list clean → AreClean (changed_again name lsn c list) clean
clean_again name lsn c list clean are e there = dirty_still name e.0 lsn c list ∙ are e there

pub named_again : (name : PageName) (lsn : ℕ) (c : Change) (s : PoolState) → is_dirty name s.dirty ≡ true → HasNamed name s (record { dirty = changed_again name lsn c s.dirty; clean = s.clean })
named_again name lsn c s dirty = record {
  dirty = λ other. dirty_still name other lsn c s.dirty ∙ each other (is_name name other) refl;
  held = λ other. ap (λ (b : Bool). b || is_some (lookup (is_name other) s.clean)) (dirty_still name other lsn c s.dirty) ∙ each_held other (is_name name other) refl;
  count = length-stamped name lsn s.dirty.entries ∙ sym (ap (λ (b : Bool). length s.dirty.entries + (if b then 0 else 1)) dirty ∙ none (length s.dirty.entries));
}
  where
    none : (n : ℕ) → n + 0 ≡ n
    none n = omega arith

    each : (other : PageName) (b : Bool) → is_name name other ≡ b → is_dirty other s.dirty ≡ (b || is_dirty other s.dirty)
    each other true is = subst (λ (x : PageName). is_dirty x s.dirty ≡ true) (same_name name other is) dirty
    each other false is = refl

    each_held : (other : PageName) (b : Bool) → is_name name other ≡ b → (is_dirty other s.dirty || is_some (lookup (is_name other) s.clean)) ≡ (b || (is_dirty other s.dirty || is_some (lookup (is_name other) s.clean)))
    each_held other true is = ap (λ (b : Bool). b || is_some (lookup (is_name other) s.clean)) (subst (λ (x : PageName). is_dirty x s.dirty ≡ true) (same_name name other is) dirty)
    each_held other false is = refl

-- ---- a page that wasn't

dirty_more : (d : DirtyPage) (page : PlainPage) (list : DirtyList) (other : PageName) → is_dirty other (entered d page list) ≡ (is_named other d || is_dirty other list)
dirty_more d page list other = any_insert (is_named other) list.entries (entry_place d list.entries) d

pub clean_others : (name : PageName) (lsn first : ℕ) (page : PlainPage) (list : DirtyList) (clean : List (PageName × PlainPage)) → AreClean list clean → IsDistinct is_name (keys_of clean)
    → AreClean (made_dirty name lsn first page list) (remove_entry (is_name name) clean)
clean_others name lsn first page list clean are distinct e there =
    dirty_more (record { space = name.space; page = name.page; first = first; lsn = lsn }) page list e.0
    ∙ neither (is_name name e.0) (is_dirty e.0 list) (gone name clean distinct e there) (are e (Contains-remove_entry (is_name name) clean e there))

pub named_first : (name : PageName) (lsn first : ℕ) (page : PlainPage) (s : PoolState) → is_dirty name s.dirty ≡ false
    → HasNamed name s (record { dirty = made_dirty name lsn first page s.dirty; clean = remove_entry (is_name name) s.clean })
named_first name lsn first page s fresh = record {
  dirty = λ other. dirty_more d page s.dirty other;
  held = λ other. ap (λ (b : Bool). b || is_some (lookup (is_name other) (remove_entry (is_name name) s.clean))) (dirty_more d page s.dirty other) ∙ each other (is_name name other) refl;
  count = length-insert s.dirty.entries (entry_place d s.dirty.entries) d (prefix_len-le-length (λ (e : DirtyPage). comes_before e d) s.dirty.entries)
      ∙ sym (ap (λ (b : Bool). length s.dirty.entries + (if b then 0 else 1)) fresh);
}
  where
    d : DirtyPage
    d = record { space = name.space; page = name.page; first = first; lsn = lsn }

    each : (other : PageName) (b : Bool) → is_name name other ≡ b
        → ((b || is_dirty other s.dirty) || is_some (lookup (is_name other) (remove_entry (is_name name) s.clean))) ≡ (b || (is_dirty other s.dirty || is_some (lookup (is_name other) s.clean)))
    each other true is = refl
    each other false is = ap (λ (o : Option PlainPage). is_dirty other s.dirty || is_some o) (lookup_other name other s.clean is)

-- ---- a page that is taken out

pub clean_without : (list : DirtyList) (i : ℕ) (clean : List (PageName × PlainPage)) → AreClean list clean → AreClean (without i list) clean
clean_without list i clean are e there = any_removed (is_named e.0) list.entries i (are e there)

-- the same of values that are equal
pub named_moved : (n m : PageName) (s t u v : PoolState) → n ≡ m → s ≡ t → u ≡ v → HasNamed n s u → HasNamed m t v
named_moved n m s t u v names olds news named = subst (HasNamed m t) news (subst (λ (x : PoolState). HasNamed m x u) olds (subst (λ (x : PageName). HasNamed x s u) names named))

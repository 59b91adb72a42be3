-- Clean pages that are found, put and taken out.
use Rattle.std.proofs.Common.{◌≡◌, inl, inr, Bool, true, false, cond, List, [], ◌∷◌, take, Contains, Option, Some, None, is_some, refl, sym, ◌∙◌, ap, subst, arith}
use Rattle.std.specs.List.{IsDistinct}
use Rattle.std.specs.Option.{option_map, option_map_or}
use Rattle.std.specs.Map.{keys_of, lookup, lookup_entry, remove_entry}
use Rattle.std.proofs.lemmas.Bool.Decides.{nat_tests}
use Rattle.lru.specs.LruCache.{promoted}
use Rattle.lru.proofs.CallerLemmas.{Contains-lookup, Contains-lookup_entry, Contains-promoted, Contains-take}
use Rattle.lru.proofs.Pairs.{lookup-lookup_entry}
use Rattle.lru.proofs.Splits.{Contains-cons, Contains-nil, all_at, all_unmap}
use Rattle.store_model.specs.declared.contents.PlainPage.{PlainPage}
use Rattle.page_pool.specs.declared.names.PageName.{PageName}
use Rattle.page_pool.specs.Pages.{AreClean, DirtyList, is_dirty, is_name}
use Rattle.page_pool.specs.Changes.{admitted}

pub same_name : (one other : PageName) → is_name one other ≡ true → one ≡ other
same_name one other is =
    let space : one.space ≡ other.space = grind (arith, nat_tests) in
    let page : one.page ≡ other.page = grind (arith, nat_tests) in
    λ i. record { space = space i; page = page i }

name_itself : (name : PageName) → is_name name name ≡ true
name_itself name = grind (arith, nat_tests)

name_back : (one other : PageName) → is_name one other ≡ false → is_name other one ≡ false
name_back one other h = grind (arith, nat_tests)

-- a page that is found first
pub clean_promoted : (list : DirtyList) (clean : List (PageName × PlainPage)) (name : PageName) → AreClean list clean → AreClean list (promoted (is_name name) clean)
clean_promoted list clean name are e there = are e (Contains-promoted (is_name name) clean e there)

lookup_found : (name : PageName) (clean : List (PageName × PlainPage)) (o : Option (PageName × PlainPage)) → lookup_entry (is_name name) clean ≡ o
    → lookup (is_name name) (option_map_or (λ e. e ∷ remove_entry (is_name name) clean) o clean) ≡ lookup (is_name name) clean
lookup_found name clean None is = refl
lookup_found name clean (Some e) is =
    let value : option_map (λ (x : PageName × PlainPage). x.1) (Some e) ≡ lookup (is_name name) clean = ap (λ (o : Option (PageName × PlainPage)). option_map (λ (x : PageName × PlainPage). x.1) o) (sym is) ∙ lookup-lookup_entry (is_name name) clean in
    let passes : is_name name e.0 ≡ true = passing (is_name name) clean e is in
    ap (λ (b : Bool). cond b (Some e.1) (lookup (is_name name) (remove_entry (is_name name) clean))) passes ∙ value
  where
    passing : (test : PageName → Bool) (es : List (PageName × PlainPage)) (x : PageName × PlainPage) → lookup_entry test es ≡ Some x → test x.0 ≡ true
    passing test es x at = (Contains-lookup_entry test es x at).1

pub lookup_promoted : (name : PageName) (clean : List (PageName × PlainPage)) → lookup (is_name name) (promoted (is_name name) clean) ≡ lookup (is_name name) clean
lookup_promoted name clean = lookup_found name clean (lookup_entry (is_name name) clean) refl

-- a page that isn't there
pub absent_entry : (o : Option (PageName × PlainPage)) → option_map (λ (x : PageName × PlainPage). x.1) o ≡ None → o ≡ None
absent_entry None is = refl
absent_entry (Some e) is = cc

pub absent_lookup : (o : Option PlainPage) → is_some o ≡ false → o ≡ None
absent_lookup None is = refl
absent_lookup (Some p) is = cc

pub clean_admitted : (list : DirtyList) (clean : List (PageName × PlainPage)) (name : PageName) (page : PlainPage) → AreClean list clean → is_dirty name list ≡ false → AreClean list (admitted name page clean)
clean_admitted list clean name page are not_dirty e there = elim (Contains-cons (name, page) (take 63 clean) e there) [
  | inl same ↦ subst (λ (x : PageName × PlainPage). is_dirty x.0 list ≡ false) same not_dirty
  | inr behind ↦ are e (Contains-take 63 clean e behind)
]

-- a dirty page isn't among the clean ones
pub dirty_absent : (list : DirtyList) (clean : List (PageName × PlainPage)) (name : PageName) → AreClean list clean → is_dirty name list ≡ true → is_some (lookup (is_name name) clean) ≡ false
dirty_absent list clean name are dirty = by (lookup (is_name name) clean) refl
  where
    by : (o : Option PlainPage) → lookup (is_name name) clean ≡ o → is_some o ≡ false
    by None is = refl
    by (Some page) is =
        let at = Contains-lookup (is_name name) clean page is in
        let other : is_dirty at.0 list ≡ false = are (at.0, page) at.1 in
        let here : is_dirty at.0 list ≡ true = subst (λ (x : PageName). is_dirty x list ≡ true) (same_name name at.0 at.2) dirty in
        absurd cc

-- a page that is taken out
pub lookup_other : (name other : PageName) (es : List (PageName × PlainPage)) → is_name name other ≡ false → lookup (is_name other) (remove_entry (is_name name) es) ≡ lookup (is_name other) es
lookup_other name other [] apart = refl
lookup_other name other (e ∷ es) apart = by (is_name name e.0) refl (lookup_other name other es apart)
  where
    by : (b : Bool) → is_name name e.0 ≡ b → lookup (is_name other) (remove_entry (is_name name) es) ≡ lookup (is_name other) es
        → lookup (is_name other) (cond b es (e ∷ remove_entry (is_name name) es)) ≡ cond (is_name other e.0) (Some e.1) (lookup (is_name other) es)
    by true is later =
        let differs : is_name other e.0 ≡ false = subst (λ (x : PageName). is_name other x ≡ false) (same_name name e.0 is) (name_back name other apart) in
        sym (ap (λ (b : Bool). cond b (Some e.1) (lookup (is_name other) es)) differs)
    by false is later = ap (λ (o : Option PlainPage). cond (is_name other e.0) (Some e.1) o) later

pub gone : (name : PageName) (es : List (PageName × PlainPage)) → IsDistinct is_name (keys_of es) → (e : PageName × PlainPage) → Contains (remove_entry (is_name name) es) e → is_name name e.0 ≡ false
unfolding IsDistinct
gone name [] distinct e there = absurd (Contains-nil e there)
gone name (f ∷ fs) distinct e there = by (is_name name f.0) refl there (gone name fs distinct.1 e)
  where
    by : (b : Bool) → is_name name f.0 ≡ b → Contains (cond b fs (f ∷ remove_entry (is_name name) fs)) e → (Contains (remove_entry (is_name name) fs) e → is_name name e.0 ≡ false) → is_name name e.0 ≡ false
    by true is at later = subst (λ (x : PageName). is_name x e.0 ≡ false) (sym (same_name name f.0 is)) (all_at (λ (x : PageName × PlainPage). is_name f.0 x.0 ≡ false) fs e (all_unmap (λ (x : PageName × PlainPage). x.0) (λ (x : PageName). is_name f.0 x ≡ false) fs distinct.0) at)
    by false is at later = elim (Contains-cons f (remove_entry (is_name name) fs) e at) [
      | inl same ↦ subst (λ (x : PageName × PlainPage). is_name name x.0 ≡ false) same is
      | inr behind ↦ later behind
    ]

-- A law for the layers above: what each page holds once a change was made.
use Rattle.std.proofs.Common.{◌≡◌, ℕ, zero, suc, ◌+◌, ◌≤◌, Bool, true, false, not, cond, ◌||◌, if◌then◌else◌, List, [], ◌∷◌, length, Option, Some, None, is_some, refl, sym, ◌∙◌, ap, subst, arith}
use Rattle.std.specs.Prelude.{slice_get}
use Rattle.std.specs.List.{insert, list_any}
use Rattle.std.specs.Map.{lookup, remove_entry}
use Rattle.std.specs.Option.{option_map}
use Rattle.std.proofs.lemmas.Bool.Decides.{nat_tests}
use Rattle.std.proofs.lemmas.List.Sums.{prefix_len-le-length}
use Rattle.redo_text.specs.declared.change.Change.{Change}
use Rattle.store_model.specs.Fold.{used}
use Rattle.store_model.specs.declared.contents.PlainPage.{PlainPage}
use Rattle.page_pool.specs.declared.names.DirtyPage.{DirtyPage}
use Rattle.page_pool.specs.declared.names.PageName.{PageName}
use Rattle.page_pool.specs.Pages.{DirtyList, PoolState, comes_before, entered, entry_place, held_page, is_dirty, is_name, is_named, place_of}
use Rattle.page_pool.specs.Changes.{changed_again, changed_at, held_after, made_dirty, page_changed_by, page_of_change, pool_after, pool_changed, stamped}
use Rattle.page_pool.proofs.Cleans.{lookup_other, same_name}
use Rattle.std.proofs.lemmas.List.Edits.{length-insert}
use Rattle.page_pool.proofs.Entries.{length-changed_at, length-stamped}
use Rattle.page_pool.proofs.Lists.{any_insert, both_false}
use Rattle.page_pool.proofs.Named.{dirty_still}

-- the page of a name, by going along both lists
looked : PageName → List DirtyPage → List PlainPage → Option PlainPage
looked name [] ps = None
looked name (d ∷ ds) [] = None
looked name (d ∷ ds) (p ∷ ps) = if is_named name d then Some p else looked name ds ps

looked_at : (name : PageName) (ds : List DirtyPage) (ps : List PlainPage) → length ps ≡ length ds → slice_get ps (place_of name ds) ≡ looked name ds ps
unfolding looked
looked_at name [] [] same = refl
looked_at name [] (p ∷ ps) same = absurd (omega arith)
looked_at name (d ∷ ds) [] same = absurd (omega arith)
looked_at name (d ∷ ds) (p ∷ ps) same = by (is_named name d) (looked_at name ds ps (omega arith))
  where
    by : (b : Bool) → slice_get ps (place_of name ds) ≡ looked name ds ps → slice_get (p ∷ ps) (cond (not b) (1 + place_of name ds) 0) ≡ (if b then Some p else looked name ds ps)
    by true later = refl
    by false later = let one : 1 + place_of name ds ≡ suc (place_of name ds) = omega arith in ap (λ (k : ℕ). slice_get (p ∷ ps) k) one ∙ later

-- a name that stands nowhere among the entries but at the new one
looked_entered : (name : PageName) (d : DirtyPage) (p : PlainPage) (ds : List DirtyPage) (ps : List PlainPage) (k : ℕ) → length ps ≡ length ds → k ≤ length ds
    → (is_named name d ≡ true → list_any (is_named name) ds ≡ false) → looked name (insert ds k d) (insert ps k p) ≡ (if is_named name d then Some p else looked name ds ps)
unfolding looked
looked_entered name d p ds ps zero same within once = refl
looked_entered name d p [] ps (suc k) same within once = absurd (omega arith)
looked_entered name d p (e ∷ ds) [] (suc k) same within once = absurd (omega arith)
looked_entered name d p (e ∷ ds) (q ∷ ps) (suc k) same within once = by (is_named name e) refl (looked_entered name d p ds ps k (omega arith) (omega arith))
  where
    here : is_named name e ≡ true → (x : Bool) → is_named name d ≡ x → Some q ≡ (if x then Some p else Some q)
    here is true holds = let not_here : is_named name e ≡ false = (both_false (is_named name e) (list_any (is_named name) ds) (once holds)).0 in cc
    here is false differs = refl

    by : (b : Bool) → is_named name e ≡ b
        → ((is_named name d ≡ true → list_any (is_named name) ds ≡ false) → looked name (insert ds k d) (insert ps k p) ≡ (if is_named name d then Some p else looked name ds ps))
        → (if b then Some q else looked name (insert ds k d) (insert ps k p)) ≡ (if is_named name d then Some p else (if b then Some q else looked name ds ps))
    by true is later = here is (is_named name d) refl
    by false is later = later (λ holds. (both_false (is_named name e) (list_any (is_named name) ds) (once holds)).1)

nothing : Option PlainPage
nothing = None

named_apart : (n name : PageName) (d : DirtyPage) → is_named n d ≡ true → is_name n name ≡ false → is_named name d ≡ false
named_apart n name d here differs = grind (arith, nat_tests)

-- a page that is changed at its place
looked_changed : (n name : PageName) (lsn : ℕ) (f : PlainPage → PlainPage) (ds : List DirtyPage) (ps : List PlainPage)
    → looked name (stamped n lsn ds) (changed_at (place_of n ds) f ps) ≡ (if is_name n name then option_map f (looked name ds ps) else looked name ds ps)
unfolding looked nothing
looked_changed n name lsn f [] ps = none (is_name n name)
  where
    none : (b : Bool) → nothing ≡ (if b then nothing else nothing)
    none true = refl
    none false = refl
looked_changed n name lsn f (d ∷ ds) [] = each (is_named n d) (is_name n name)
  where
    each : (b x : Bool) → looked name (if b then (record { space = d.space; page = d.page; first = d.first; lsn = lsn }) ∷ ds else d ∷ stamped n lsn ds) [] ≡ (if x then nothing else nothing)
    each true true = refl
    each true false = refl
    each false true = refl
    each false false = refl
looked_changed n name lsn f (d ∷ ds) (p ∷ ps) = by (is_named n d) refl (is_name n name) refl (looked_changed n name lsn f ds ps)
  where
    same_named : is_name n name ≡ true → is_named name d ≡ is_named n d
    same_named is = sym (ap (λ (x : PageName). is_named x d) (same_name n name is))

    by : (b : Bool) → is_named n d ≡ b → (x : Bool) → is_name n name ≡ x
        → looked name (stamped n lsn ds) (changed_at (place_of n ds) f ps) ≡ (if x then option_map f (looked name ds ps) else looked name ds ps)
        → looked name (if b then (record { space = d.space; page = d.page; first = d.first; lsn = lsn }) ∷ ds else d ∷ stamped n lsn ds) (changed_at (cond (not b) (1 + place_of n ds) 0) f (p ∷ ps))
        ≡ (if x then option_map f (if is_named name d then Some p else looked name ds ps) else (if is_named name d then Some p else looked name ds ps))
    by true here true is later =
        let nd : is_named name d ≡ true = same_named is ∙ here in
        ap (λ (b : Bool). if b then Some (f p) else looked name ds ps) nd ∙ sym (ap (λ (b : Bool). option_map f (if b then Some p else looked name ds ps)) nd)
    by true here false is later =
        let nd : is_named name d ≡ false = named_apart n name d here is in
        ap (λ (b : Bool). if b then Some (f p) else looked name ds ps) nd ∙ sym (ap (λ (b : Bool). if b then Some p else looked name ds ps) nd)
    by false here true is later =
        let nd : is_named name d ≡ false = same_named is ∙ here in
        let one : 1 + place_of n ds ≡ suc (place_of n ds) = omega arith in
        ap (λ (j : ℕ). looked name (d ∷ stamped n lsn ds) (changed_at j f (p ∷ ps))) one
        ∙ ap (λ (b : Bool). if b then Some p else looked name (stamped n lsn ds) (changed_at (place_of n ds) f ps)) nd ∙ later
        ∙ sym (ap (λ (b : Bool). option_map f (if b then Some p else looked name ds ps)) nd)
    by false here false is later =
        let one : 1 + place_of n ds ≡ suc (place_of n ds) = omega arith in
        ap (λ (j : ℕ). looked name (d ∷ stamped n lsn ds) (changed_at j f (p ∷ ps))) one
        ∙ ap (λ (o : Option PlainPage). if is_named name d then Some p else o) later

looked_some : (name : PageName) (ds : List DirtyPage) (ps : List PlainPage) → length ps ≡ length ds → list_any (is_named name) ds ≡ true → is_some (looked name ds ps) ≡ true
unfolding looked
looked_some name [] ps same any = cc
looked_some name (d ∷ ds) [] same any = absurd (omega arith)
looked_some name (d ∷ ds) (p ∷ ps) same any = by (is_named name d) any (looked_some name ds ps (omega arith))
  where
    by : (b : Bool) → (b || list_any (is_named name) ds) ≡ true → (list_any (is_named name) ds ≡ true → is_some (looked name ds ps) ≡ true) → is_some (if b then Some p else looked name ds ps) ≡ true
    by true either later = refl
    by false either later = later either

mapped : (f : PlainPage → PlainPage) (o : Option PlainPage) → is_some o ≡ true → option_map f o ≡ Some (f (used o))
mapped f None some = cc
mapped f (Some p) some = refl

-- each dirty page holds one
abbrev pub IsWhole : DirtyList → Type 0
IsWhole list = length list.pages ≡ length list.entries

held_here : (name : PageName) (s : PoolState) → IsWhole s.dirty → held_page name s ≡ (if is_dirty name s.dirty then looked name s.dirty.entries s.dirty.pages else lookup (is_name name) s.clean)
held_here name s is = ap (λ (o : Option PlainPage). if is_dirty name s.dirty then o else lookup (is_name name) s.clean) (looked_at name s.dirty.entries s.dirty.pages is)

held_again : (n : PageName) (lsn : ℕ) (c : Change) (s : PoolState) (name : PageName) → IsWhole s.dirty → is_dirty n s.dirty ≡ true → IsWhole (changed_again n lsn c s.dirty)
    → held_page name (record { dirty = changed_again n lsn c s.dirty; clean = s.clean }) ≡ (if is_name n name then Some (page_changed_by c (used (held_page name s))) else held_page name s)
held_again n lsn c s name is dirty new =
    held_here name (record { dirty = changed_again n lsn c s.dirty; clean = s.clean }) new
    ∙ ap (λ (b : Bool). if b then looked name (stamped n lsn s.dirty.entries) (changed_at (place_of n s.dirty.entries) (page_changed_by c) s.dirty.pages) else lookup (is_name name) s.clean) (dirty_still n name lsn c s.dirty)
    ∙ ap (λ (o : Option PlainPage). if is_dirty name s.dirty then o else lookup (is_name name) s.clean) (looked_changed n name lsn (page_changed_by c) s.dirty.entries s.dirty.pages)
    ∙ by (is_name n name) refl
  where
    by : (x : Bool) → is_name n name ≡ x
        → (if is_dirty name s.dirty then (if x then option_map (page_changed_by c) (looked name s.dirty.entries s.dirty.pages) else looked name s.dirty.entries s.dirty.pages) else lookup (is_name name) s.clean)
        ≡ (if x then Some (page_changed_by c (used (held_page name s))) else held_page name s)
    by true here =
        let dirty_here : is_dirty name s.dirty ≡ true = subst (λ (y : PageName). is_dirty y s.dirty ≡ true) (same_name n name here) dirty in
        let held : held_page name s ≡ looked name s.dirty.entries s.dirty.pages = held_here name s is ∙ ap (λ (b : Bool). if b then looked name s.dirty.entries s.dirty.pages else lookup (is_name name) s.clean) dirty_here in
        ap (λ (b : Bool). if b then option_map (page_changed_by c) (looked name s.dirty.entries s.dirty.pages) else lookup (is_name name) s.clean) dirty_here
        ∙ mapped (page_changed_by c) (looked name s.dirty.entries s.dirty.pages) (looked_some name s.dirty.entries s.dirty.pages is dirty_here)
        ∙ sym (ap (λ (o : Option PlainPage). Some (page_changed_by c (used o))) held)
    by false differs = sym (held_here name s is)

held_first : (n : PageName) (lsn first : ℕ) (f : PlainPage → PlainPage) (s : PoolState) (name : PageName) → IsWhole s.dirty → is_dirty n s.dirty ≡ false
    → IsWhole (made_dirty n lsn first (f (used (lookup (is_name n) s.clean))) s.dirty)
    → held_page name (record { dirty = made_dirty n lsn first (f (used (lookup (is_name n) s.clean))) s.dirty; clean = remove_entry (is_name n) s.clean }) ≡ (if is_name n name then Some (f (used (held_page name s))) else held_page name s)
held_first n lsn first f s name is fresh new =
    held_here name (record { dirty = made_dirty n lsn first p s.dirty; clean = remove_entry (is_name n) s.clean }) new
    ∙ ap (λ (b : Bool). if b then looked name (insert s.dirty.entries k d) (insert s.dirty.pages k p) else lookup (is_name name) (remove_entry (is_name n) s.clean)) (any_insert (is_named name) s.dirty.entries k d)
    ∙ ap (λ (o : Option PlainPage). if is_name n name || is_dirty name s.dirty then o else lookup (is_name name) (remove_entry (is_name n) s.clean))
    (looked_entered name d p s.dirty.entries s.dirty.pages k is (prefix_len-le-length (λ (e : DirtyPage). comes_before e d) s.dirty.entries) (λ here. subst (λ (y : PageName). is_dirty y s.dirty ≡ false) (same_name n name here) fresh))
    ∙ by (is_name n name) refl
  where
    d : DirtyPage
    d = record { space = n.space; page = n.page; first = first; lsn = lsn }

    p : PlainPage
    p = f (used (lookup (is_name n) s.clean))

    k : ℕ
    k = entry_place d s.dirty.entries

    by : (x : Bool) → is_name n name ≡ x
        → (if x || is_dirty name s.dirty then (if x then Some p else looked name s.dirty.entries s.dirty.pages) else lookup (is_name name) (remove_entry (is_name n) s.clean))
        ≡ (if x then Some (f (used (held_page name s))) else held_page name s)
    by true here =
        let not_dirty : is_dirty name s.dirty ≡ false = subst (λ (y : PageName). is_dirty y s.dirty ≡ false) (same_name n name here) fresh in
        let held : held_page name s ≡ lookup (is_name name) s.clean = held_here name s is ∙ ap (λ (b : Bool). if b then looked name s.dirty.entries s.dirty.pages else lookup (is_name name) s.clean) not_dirty in
        ap (λ (y : PageName). Some (f (used (lookup (is_name y) s.clean)))) (same_name n name here) ∙ sym (ap (λ (o : Option PlainPage). Some (f (used o))) held)
    by false differs = ap (λ (o : Option PlainPage). if is_dirty name s.dirty then looked name s.dirty.entries s.dirty.pages else o) (lookup_other n name s.clean differs) ∙ sym (held_here name s is)

whole_again : (n : PageName) (lsn : ℕ) (c : Change) (list : DirtyList) → IsWhole list → IsWhole (changed_again n lsn c list)
whole_again n lsn c list is = length-changed_at (page_changed_by c) (place_of n list.entries) list.pages ∙ is ∙ sym (length-stamped n lsn list.entries)

whole_entered : (d : DirtyPage) (p : PlainPage) (list : DirtyList) → IsWhole list → IsWhole (entered d p list)
whole_entered d p list is =
    let place : entry_place d list.entries ≤ length list.entries = prefix_len-le-length (λ (e : DirtyPage). comes_before e d) list.entries in
    length-insert list.pages (entry_place d list.entries) p (subst (λ (m : ℕ). entry_place d list.entries ≤ m) (sym is) place) ∙ ap (λ (m : ℕ). m + 1) is ∙ sym (length-insert list.entries (entry_place d list.entries) d place)

pub whole_changed : (lsn first : ℕ) (c : Change) (s : PoolState) → IsWhole s.dirty → IsWhole (pool_changed lsn first c s).dirty
whole_changed lsn first c s is = by (is_dirty (page_of_change c) s.dirty)
  where
    d : DirtyPage
    d = record { space = (page_of_change c).space; page = (page_of_change c).page; first = first; lsn = lsn }

    p : PlainPage
    p = page_changed_by c (used (lookup (is_name (page_of_change c)) s.clean))

    again : PoolState
    again = record { dirty = changed_again (page_of_change c) lsn c s.dirty; clean = s.clean }

    fresh : PoolState
    fresh = record { dirty = entered d p s.dirty; clean = remove_entry (is_name (page_of_change c)) s.clean }

    by : (b : Bool) → IsWhole (if b then again else fresh).dirty
    by true = whole_again (page_of_change c) lsn c s.dirty is
    by false = whole_entered d p s.dirty is

-- Each page that a change names holds what the change makes of it, and every other page what it held.
pub held_changed : (lsn first : ℕ) (c : Change) (s : PoolState) (name : PageName) → IsWhole s.dirty
    → held_page name (pool_changed lsn first c s) ≡ (if is_name (page_of_change c) name then Some (page_changed_by c (used (held_page name s))) else held_page name s)
held_changed lsn first c s name is = by (is_dirty (page_of_change c) s.dirty) refl (whole_changed lsn first c s is)
  where
    again : PoolState
    again = record { dirty = changed_again (page_of_change c) lsn c s.dirty; clean = s.clean }

    fresh : PoolState
    fresh = record { dirty = made_dirty (page_of_change c) lsn first (page_changed_by c (used (lookup (is_name (page_of_change c)) s.clean))) s.dirty; clean = remove_entry (is_name (page_of_change c)) s.clean }

    by : (b : Bool) → is_dirty (page_of_change c) s.dirty ≡ b → IsWhole (if b then again else fresh).dirty
        → held_page name (if b then again else fresh) ≡ (if is_name (page_of_change c) name then Some (page_changed_by c (used (held_page name s))) else held_page name s)
    by true dirty after = held_again (page_of_change c) lsn c s name is dirty after
    by false clean after = held_first (page_of_change c) lsn first (page_changed_by c) s name is clean after

-- So does a mini-transaction.
pub held_behind : (lsn first : ℕ) (cs : List Change) (s : PoolState) (name : PageName) → IsWhole s.dirty → held_page name (pool_after lsn first cs s) ≡ held_after cs name (held_page name s)
held_behind lsn first [] s name is = refl
held_behind lsn first (c ∷ cs) s name is = held_behind lsn first cs (pool_changed lsn first c s) name (whole_changed lsn first c s is) ∙ ap (held_after cs name) (held_changed lsn first c s name is)

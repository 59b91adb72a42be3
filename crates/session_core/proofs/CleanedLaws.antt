-- What is left in a pool once pages of it are clean: each page that is held was held so, and each that is dirty was dirty.
use Rattle.std.proofs.Common.{◌≡◌, ℕ, zero, suc, ◌+◌, ◌-◌, ◌<◌, ◌≤◌, Bool, true, false, true≢false, eq-eqb, cond, not, if◌then◌else◌, nat_eq, nat_lt, ◌&&◌, ◌||◌, List, [], ◌∷◌, length, take, get_or, slice_get, Option, Some, None, refl, sym, ap, ◌∙◌, subst, arith}
use Rattle.std.specs.List.{All, list_any, remove}
use Rattle.std.specs.Map.{lookup}
use Rattle.std.proofs.lemmas.Bool.Decides.{nat_tests}
use Rattle.std.proofs.lemmas.List.Edits.{get_or-remove_above, get_or-remove_below, length-remove}
use Rattle.std.proofs.lemmas.Option.{same_Some, slice_get-get_or}
use Rattle.page_pool.proofs.Cleans.{same_name}
use Rattle.page_pool.proofs.Entries.{name_removed}
use Rattle.page_pool.proofs.Lists.{any_removed, found_below}
use Rattle.page_pool.specs.Changes.{admitted, cleaned, is_dirty_at}
use Rattle.page_pool.specs.Pages.{IsPool, PoolState, held_page, is_dirty, is_name, is_named, place_of, without}
use Rattle.page_pool.specs.declared.names.DirtyPage.{DirtyPage}
use Rattle.page_pool.specs.declared.names.PageName.{PageName}
use Rattle.redo_log.specs.State.{LogState}
use Rattle.store_model.specs.Fold.{used}
use Rattle.store_model.specs.declared.contents.PlainPage.{PlainPage}
use Rattle.session_core.specs.Dirty.{IsInRun}
use Rattle.session_core.proofs.CurrentLaws.{dirty_at}
use Rattle.session_core.proofs.HeldPages.{in_front, name_back}

-- ---- one page out of a list

name_apart : (name other : PageName) (d : DirtyPage) → is_name name other ≡ false → is_named name d ≡ true → is_named other d ≡ false
name_apart name other d apart is = grind (arith, nat_tests)

-- each other page is there as before
pub other_dirty : (name other : PageName) (ds : List DirtyPage) → is_name name other ≡ false → place_of name ds < length ds → list_any (is_named other) (remove ds (place_of name ds)) ≡ list_any (is_named other) ds
other_dirty name other [] apart lt = absurd (omega arith)
other_dirty name other (d ∷ ds) apart lt = by (is_named name d) refl lt (other_dirty name other ds apart)
  where
    by : (b : Bool) → is_named name d ≡ b → cond (not b) (1 + place_of name ds) 0 < suc (length ds) → (place_of name ds < length ds → list_any (is_named other) (remove ds (place_of name ds)) ≡ list_any (is_named other) ds)
        → list_any (is_named other) (remove (d ∷ ds) (cond (not b) (1 + place_of name ds) 0)) ≡ list_any (is_named other) (d ∷ ds)
    by true is below later = ap (λ (b : Bool). b || list_any (is_named other) ds) (sym (name_apart name other d apart is))
    by false is below later =
        let one : suc (place_of name ds) ≡ 1 + place_of name ds = omega arith in
        subst (λ (k : ℕ). list_any (is_named other) (remove (d ∷ ds) k) ≡ list_any (is_named other) (d ∷ ds)) one (ap (λ (b : Bool). is_named other d || b) (later (omega arith)))

-- at the LSN that it had
pub other_dirty_at : (name other : PageName) (lsn : ℕ) (ds : List DirtyPage) → is_name name other ≡ false → place_of name ds < length ds → is_dirty_at other lsn (remove ds (place_of name ds)) ≡ is_dirty_at other lsn ds
other_dirty_at name other lsn [] apart lt = absurd (omega arith)
other_dirty_at name other lsn (d ∷ ds) apart lt = by (is_named name d) refl lt (other_dirty_at name other lsn ds apart)
  where
    by : (b : Bool) → is_named name d ≡ b → cond (not b) (1 + place_of name ds) 0 < suc (length ds) → (place_of name ds < length ds → is_dirty_at other lsn (remove ds (place_of name ds)) ≡ is_dirty_at other lsn ds)
        → is_dirty_at other lsn (remove (d ∷ ds) (cond (not b) (1 + place_of name ds) 0)) ≡ is_dirty_at other lsn (d ∷ ds)
    by true is below later = ap (λ (b : Bool). if b then nat_eq d.lsn lsn else is_dirty_at other lsn ds) (sym (name_apart name other d apart is))
    by false is below later =
        let one : suc (place_of name ds) ≡ 1 + place_of name ds = omega arith in
        subst (λ (k : ℕ). is_dirty_at other lsn (remove (d ∷ ds) k) ≡ is_dirty_at other lsn (d ∷ ds)) one (ap (λ (b : Bool). if is_named other d then nat_eq d.lsn lsn else b) (later (omega arith)))

-- a page that is listed has a place
pub place_below : (name : PageName) (lsn : ℕ) (ds : List DirtyPage) → is_dirty_at name lsn ds ≡ true → place_of name ds < length ds
place_below name lsn ds at = let found : nat_lt (place_of name ds) (length ds) ≡ true = found_below (is_named name) ds ∙ dirty_at name lsn ds at in grind (arith, nat_tests)

-- and what stands at its place
other_there : (name other : PageName) (ds : List DirtyPage) (ps : List PlainPage) → is_name name other ≡ false → length ps ≡ length ds → place_of name ds < length ds
    → slice_get (remove ps (place_of name ds)) (place_of other (remove ds (place_of name ds))) ≡ slice_get ps (place_of other ds)
other_there name other [] ps apart long lt = absurd (omega arith)
other_there name other (d ∷ ds) [] apart long lt = absurd (omega (arith, long))
other_there name other (d ∷ ds) (p ∷ ps) apart long lt = by (is_named name d) refl lt (other_there name other ds ps apart (omega (arith, long)))
  where
    rest : List DirtyPage
    rest = remove ds (place_of name ds)

    at : (c : Bool) → slice_get (remove ps (place_of name ds)) (place_of other rest) ≡ slice_get ps (place_of other ds)
        → slice_get (p ∷ remove ps (place_of name ds)) (cond (not c) (1 + place_of other rest) 0) ≡ slice_get (p ∷ ps) (cond (not c) (1 + place_of other ds) 0)
    at true later = refl
    at false later =
        let left : suc (place_of other rest) ≡ 1 + place_of other rest = omega arith in
        let right : suc (place_of other ds) ≡ 1 + place_of other ds = omega arith in
        sym (ap (slice_get (p ∷ remove ps (place_of name ds))) left) ∙ later ∙ ap (slice_get (p ∷ ps)) right

    by : (b : Bool) → is_named name d ≡ b → cond (not b) (1 + place_of name ds) 0 < suc (length ds) → (place_of name ds < length ds → slice_get (remove ps (place_of name ds)) (place_of other rest) ≡ slice_get ps (place_of other ds))
        → slice_get (remove (p ∷ ps) (cond (not b) (1 + place_of name ds) 0)) (place_of other (remove (d ∷ ds) (cond (not b) (1 + place_of name ds) 0))) ≡ slice_get (p ∷ ps) (place_of other (d ∷ ds))
    by true is below later =
        let one : suc (place_of other ds) ≡ 1 + place_of other ds = omega arith in
        ap (slice_get (p ∷ ps)) one ∙ ap (λ (b : Bool). slice_get (p ∷ ps) (cond (not b) (1 + place_of other ds) 0)) (sym (name_apart name other d apart is))
    by false is below later =
        let one : suc (place_of name ds) ≡ 1 + place_of name ds = omega arith in
        subst (λ (k : ℕ). slice_get (remove (p ∷ ps) k) (place_of other (remove (d ∷ ds) k)) ≡ slice_get (p ∷ ps) (place_of other (d ∷ ds))) one (at (is_named other d) (later (omega arith)))

all_removed : (P : DirtyPage → Type 0) (ds : List DirtyPage) (i : ℕ) → i < length ds → All P ds → All P (remove ds i)
all_removed P ds i lt all = λ k d below. by k d below (nat_lt k i) refl
  where
    by : (k : ℕ) (d : DirtyPage) → k < length (remove ds i) → (b : Bool) → nat_lt k i ≡ b → P (get_or (remove ds i) k d)
    by k d below true is =
        let ahead : k < i = grind (arith, nat_tests) in
        subst P (sym (get_or-remove_below ds i d k ahead lt)) (all k d (omega (arith, ahead, lt)))
    by k d below false is =
        let behind : i ≤ k = grind (arith, nat_tests) in
        let shorter = length-remove ds i lt in
        subst P (sym (get_or-remove_above ds i d k behind lt)) (all (k + 1) d (omega (arith, shorter, below)))

-- ---- one page clean

self_name : (name : PageName) → is_name name name ≡ true
self_name name = ap (λ (b : Bool). b && nat_eq name.page name.page) (eq-eqb name.space name.space refl) ∙ eq-eqb name.page name.page refl

module _ (name : PageName) (lsn : ℕ) (pool : PoolState) (kept : IsPool pool) where
  abbrev ds : List DirtyPage
  ds = pool.dirty.entries

  abbrev i : ℕ
  i = place_of name ds

  -- the pool with the page clean
  abbrev after : PoolState
  after = record { dirty = without i pool.dirty; clean = admitted name (used (held_page name pool)) pool.clean }

  module _ (yes : is_dirty_at name lsn ds ≡ true) where
    dirty : is_dirty name pool.dirty ≡ true
    dirty = dirty_at name lsn ds yes

    below : i < length ds
    below = let found : nat_lt i (length ds) ≡ true = found_below (is_named name) ds ∙ dirty in grind (arith, nat_tests)

    own_page : held_page name pool ≡ Some (used (held_page name pool))
    own_page =
        let one_each = kept.dirty.one_each in
        let z : PlainPage = used None in
        let is : held_page name pool ≡ Some (get_or pool.dirty.pages i z) = ap (λ (b : Bool). if b then slice_get pool.dirty.pages i else lookup (is_name name) pool.clean) dirty ∙ slice_get-get_or pool.dirty.pages i z (omega (arith, one_each, below)) in
        is ∙ ap (λ (o : Option PlainPage). Some (used o)) (sym is)

    -- of the page itself
    own_held : (page : PlainPage) → held_page name after ≡ Some page → held_page name pool ≡ Some page
    own_held page is =
        let gone : is_dirty name (without i pool.dirty) ≡ false = name_removed name ds kept.dirty.apart below in
        let here : held_page name after ≡ Some (used (held_page name pool)) =
        ap (λ (b : Bool). if b then slice_get (without i pool.dirty).pages (place_of name (without i pool.dirty).entries) else lookup (is_name name) after.clean) gone
        ∙ ap (λ (b : Bool). cond b (Some (used (held_page name pool))) (lookup (is_name name) (take 63 pool.clean))) (self_name name) in
        own_page ∙ sym here ∙ is

    -- and of another one
    other_held : (other : PageName) (page : PlainPage) → is_name name other ≡ false → held_page other after ≡ Some page → held_page other pool ≡ Some page
    other_held other page apart is = by (is_dirty other pool.dirty) (sym moved ∙ is)
      where
        stays : is_dirty other (without i pool.dirty) ≡ is_dirty other pool.dirty
        stays = other_dirty name other ds apart below

        moved : held_page other after ≡ (if is_dirty other pool.dirty then slice_get pool.dirty.pages (place_of other ds) else lookup (is_name other) after.clean)
        moved =
            ap (λ (b : Bool). if b then slice_get (without i pool.dirty).pages (place_of other (without i pool.dirty).entries) else lookup (is_name other) after.clean) stays
            ∙ ap (λ (o : Option PlainPage). if is_dirty other pool.dirty then o else lookup (is_name other) after.clean) (other_there name other ds pool.dirty.pages apart kept.dirty.one_each below)

        by : (b : Bool) → (if b then slice_get pool.dirty.pages (place_of other ds) else lookup (is_name other) after.clean) ≡ Some page → (if b then slice_get pool.dirty.pages (place_of other ds) else lookup (is_name other) pool.clean) ≡ Some page
        by true at = at
        by false at =
            in_front other 63 pool.clean page
            (sym (ap (λ (b : Bool). cond b (Some (used (held_page name pool))) (lookup (is_name other) (take 63 pool.clean))) (name_back name other apart)) ∙ at)

    all_held : (other : PageName) (page : PlainPage) → held_page other after ≡ Some page → held_page other pool ≡ Some page
    all_held other page is = by (is_name name other) refl
      where
        by : (b : Bool) → is_name name other ≡ b → held_page other pool ≡ Some page
        by true same =
            let here : name ≡ other = same_name name other same in
            subst (λ (n : PageName). held_page n pool ≡ Some page) here (own_held page (subst (λ (n : PageName). held_page n after ≡ Some page) (sym here) is))
        by false apart = other_held other page apart is

  -- What is held of a page behind it was held of it before.
  pub cleaned_held : (other : PageName) (page : PlainPage) → held_page other (cleaned name lsn pool) ≡ Some page → held_page other pool ≡ Some page
  cleaned_held other page is = by (is_dirty_at name lsn ds) refl is
    where
      by : (b : Bool) → is_dirty_at name lsn ds ≡ b → held_page other (if b then after else pool) ≡ Some page → held_page other pool ≡ Some page
      by true at_lsn at = all_held at_lsn other page at
      by false not_at at = at

  -- each page that is dirty behind it was dirty
  pub cleaned_dirty : (other : PageName) → is_dirty other (cleaned name lsn pool).dirty ≡ true → is_dirty other pool.dirty ≡ true
  cleaned_dirty other is = by (is_dirty_at name lsn ds) is
    where
      was : (b : Bool) → list_any (is_named other) ds ≡ b → list_any (is_named other) (remove ds i) ≡ true → b ≡ true
      was true same at = refl
      was false none at = absurd (true≢false (sym at ∙ any_removed (is_named other) ds i none))

      by : (b : Bool) → is_dirty other (if b then after else pool).dirty ≡ true → is_dirty other pool.dirty ≡ true
      by true at = was (list_any (is_named other) ds) refl at
      by false at = at

  -- and it became dirty in the same run of the log
  pub cleaned_within : (log : LogState) → All (IsInRun log) ds → All (IsInRun log) (cleaned name lsn pool).dirty.entries
  cleaned_within log all = by (is_dirty_at name lsn ds) refl
    where
      by : (b : Bool) → is_dirty_at name lsn ds ≡ b → All (IsInRun log) (if b then after else pool).dirty.entries
      by true at_lsn = all_removed (IsInRun log) ds i (below at_lsn) all
      by false not_at = all

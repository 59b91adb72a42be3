-- Which pages are dirty, since when and up to which LSN, once changes were made in a pool.
use Rattle.std.proofs.Common.{◌≡◌, ℕ, zero, suc, ◌+◌, Bool, true, false, true≢false, nat_eq, ◌&&◌, ◌||◌, if◌then◌else◌, List, [], ◌∷◌, Option, Some, None, refl, sym, ap, subst, ◌∙◌, arith}
use Rattle.std.specs.List.{insert, list_any}
use Rattle.std.proofs.lemmas.Bool.Decides.{nat_tests}
use Rattle.page_places.proofs.Sums.{and_left, and_right}
use Rattle.std.specs.Map.{lookup, remove_entry}
use Rattle.std.proofs.lemmas.Option.{none-some}
use Rattle.page_pool.specs.Changes.{changed_again, made_dirty, page_changed_by, page_of_change, pool_after, pool_changed, stamped}
use Rattle.page_pool.specs.Pages.{PoolState, entry_place, is_dirty, is_name, is_named}
use Rattle.page_pool.specs.declared.names.DirtyPage.{DirtyPage}
use Rattle.page_pool.specs.declared.names.PageName.{PageName}
use Rattle.page_pool.proofs.Cleans.{same_name}
use Rattle.redo_text.specs.declared.change.Change.{Change}
use Rattle.redo_text.specs.declared.change.Change.TheVariants.{Encrypt, Floor, Kind, Put, Touch}
use Rattle.session_core.specs.Dirty.{name_of_page}
use Rattle.store_files.specs.Pages.{change_names, mtr_names}
use Rattle.store_image.specs.Recovers.{Theory}
use Rattle.store_image.specs.Session.{Dirty}
use Rattle.store_image.specs.SessionPhases.{first_of}
use Rattle.store_model.specs.Fold.{used}
use Rattle.store_model.specs.declared.contents.PlainPage.{PlainPage}
use Rattle.engine_core.specs.Kept.{dirt_among}
use Rattle.engine_core.proofs.Pages.{none_among}

-- ---- names

own : (name : PageName) → is_name name name ≡ true
own name = both (nat_eq name.space name.space) (nat_eq name.page name.page) one two
  where
    both : (a b : Bool) → a ≡ true → b ≡ true → (a && b) ≡ true
    both a b x y = ap (λ (c : Bool). c && b) x ∙ y

    one : nat_eq name.space name.space ≡ true
    one = grind (arith, nat_tests)

    two : nat_eq name.page name.page ≡ true
    two = grind (arith, nat_tests)

-- a dirty page has one name
named_is : (name : PageName) (d : DirtyPage) → is_named name d ≡ true → name ≡ name_of_page d.space d.page
named_is name d is =
    let space : nat_eq d.space name.space ≡ true = and_left _ _ is in
    let page : nat_eq d.page name.page ≡ true = and_right (nat_eq d.space name.space) _ is in
    let a : name.space ≡ d.space = grind (arith, nat_tests) in
    let b : name.page ≡ d.page = grind (arith, nat_tests) in
    λ i. record { space = a i; page = b i }

-- what is known of a page, with this LSN where it is the one that is named
abbrev restamped : Bool → ℕ → Option Dirty → Option Dirty
restamped false lsn o = o
restamped true lsn None = None
restamped true lsn (Some d) = Some (record { first = d.first; lsn = lsn })

restamped_none : (b : Bool) (lsn : ℕ) → restamped b lsn None ≡ None
restamped_none true lsn = refl
restamped_none false lsn = refl

dirt_stamped : (name : PageName) (lsn : ℕ) (ds : List DirtyPage) (s p : ℕ) → dirt_among (stamped name lsn ds) s p ≡ restamped (is_name name (name_of_page s p)) lsn (dirt_among ds s p)
dirt_stamped name lsn [] s p = sym (restamped_none (is_name name (name_of_page s p)) lsn)
dirt_stamped name lsn (d ∷ ds) s p = by (is_named name d) (is_named (name_of_page s p) d) refl refl (dirt_stamped name lsn ds s p)
  where
    again : DirtyPage
    again = record { space = d.space; page = d.page; first = d.first; lsn = lsn }

    by : (a b : Bool) → is_named name d ≡ a → is_named (name_of_page s p) d ≡ b → dirt_among (stamped name lsn ds) s p ≡ restamped (is_name name (name_of_page s p)) lsn (dirt_among ds s p)
        → dirt_among (if a then again ∷ ds else d ∷ stamped name lsn ds) s p ≡ restamped (is_name name (name_of_page s p)) lsn (if b then Some (record { first = d.first; lsn = d.lsn }) else dirt_among ds s p)
    by true true first second behind =
        let same : name ≡ name_of_page s p = named_is name d first ∙ sym (named_is (name_of_page s p) d second) in
        let test : is_name name (name_of_page s p) ≡ true = subst (λ (n : PageName). is_name name n ≡ true) same (own name) in
        ap (λ (b : Bool). if b then Some (record { first = d.first; lsn = lsn }) else dirt_among ds s p) second ∙ sym (ap (λ (b : Bool). restamped b lsn (Some (record { first = d.first; lsn = d.lsn }))) test)
    by true false first second behind =
        let other : is_name name (name_of_page s p) ≡ false = apart (is_name name (name_of_page s p)) refl first second in
        ap (λ (b : Bool). if b then Some (record { first = d.first; lsn = lsn }) else dirt_among ds s p) second ∙ sym (ap (λ (b : Bool). restamped b lsn (dirt_among ds s p)) other)
      where
        apart : (b : Bool) → is_name name (name_of_page s p) ≡ b → is_named name d ≡ true → is_named (name_of_page s p) d ≡ false → b ≡ false
        apart false test one two = refl
        apart true test one two = absurd (true≢false (sym one ∙ ap (λ (n : PageName). is_named n d) (same_name name (name_of_page s p) test) ∙ two))
    by false true first second behind =
        let other : is_name name (name_of_page s p) ≡ false = apart (is_name name (name_of_page s p)) refl first second in
        ap (λ (b : Bool). if b then Some (record { first = d.first; lsn = d.lsn }) else dirt_among (stamped name lsn ds) s p) second ∙ sym (ap (λ (b : Bool). restamped b lsn (Some (record { first = d.first; lsn = d.lsn }))) other)
      where
        apart : (b : Bool) → is_name name (name_of_page s p) ≡ b → is_named name d ≡ false → is_named (name_of_page s p) d ≡ true → b ≡ false
        apart false test one two = refl
        apart true test one two = absurd (true≢false (sym two ∙ sym (ap (λ (n : PageName). is_named n d) (same_name name (name_of_page s p) test)) ∙ one))
    by false false first second behind = ap (λ (b : Bool). if b then Some (record { first = d.first; lsn = d.lsn }) else dirt_among (stamped name lsn ds) s p) second ∙ behind

-- one page more, which wasn't dirty
dirt_entered : (new : DirtyPage) (ds : List DirtyPage) (i : ℕ) (s p : ℕ) → list_any (is_named (name_of_page new.space new.page)) ds ≡ false
    → dirt_among (insert ds i new) s p ≡ (if is_named (name_of_page s p) new then Some (record { first = new.first; lsn = new.lsn }) else dirt_among ds s p)
dirt_entered new ds zero s p none = refl
dirt_entered new [] (suc i) s p none = refl
dirt_entered new (d ∷ ds) (suc i) s p none = by (is_named (name_of_page s p) d) (is_named (name_of_page s p) new) refl refl (dirt_entered new ds i s p (rest (is_named (name_of_page new.space new.page) d) none))
  where
    rest : (b : Bool) → (b || list_any (is_named (name_of_page new.space new.page)) ds) ≡ false → list_any (is_named (name_of_page new.space new.page)) ds ≡ false
    rest true is = absurd (true≢false is)
    rest false is = is

    first : (b : Bool) → (b || list_any (is_named (name_of_page new.space new.page)) ds) ≡ false → b ≡ false
    first true is = absurd (true≢false is)
    first false is = refl

    by : (a b : Bool) → is_named (name_of_page s p) d ≡ a → is_named (name_of_page s p) new ≡ b
        → dirt_among (insert ds i new) s p ≡ (if is_named (name_of_page s p) new then Some (record { first = new.first; lsn = new.lsn }) else dirt_among ds s p)
        → (if a then Some (record { first = d.first; lsn = d.lsn }) else dirt_among (insert ds i new) s p)
        ≡ (if b then Some (record { first = new.first; lsn = new.lsn }) else (if a then Some (record { first = d.first; lsn = d.lsn }) else dirt_among ds s p))
    by true true at here behind = absurd (true≢false (sym at ∙ ap (λ (n : PageName). is_named n d) (named_is (name_of_page s p) new here) ∙ first (is_named (name_of_page new.space new.page) d) none))
    by true false at here behind = refl
    by false true at here behind = behind ∙ ap (λ (b : Bool). if b then Some (record { first = new.first; lsn = new.lsn }) else dirt_among ds s p) here
    by false false at here behind = behind ∙ ap (λ (b : Bool). if b then Some (record { first = new.first; lsn = new.lsn }) else dirt_among ds s p) here

some_among : (ds : List DirtyPage) (s p : ℕ) → list_any (is_named (name_of_page s p)) ds ≡ true → dirt_among ds s p ≡ None → ⊥
some_among [] s p is none = true≢false (sym is)
some_among (d ∷ ds) s p is none = by (is_named (name_of_page s p) d) is none (some_among ds s p)
  where
    by : (b : Bool) → (b || list_any (is_named (name_of_page s p)) ds) ≡ true → (if b then Some (record { first = d.first; lsn = d.lsn }) else dirt_among ds s p) ≡ None → (list_any (is_named (name_of_page s p)) ds ≡ true → dirt_among ds s p ≡ None → ⊥) → ⊥
    by true at none behind = none-some _ (sym none)
    by false at none behind = behind at none

-- ---- changes

-- a page that is named is dirty, since the first block unless it was so before
module _ (T : Theory) (lsn first : ℕ) where
  abbrev marked : Bool → Option Dirty → Option Dirty
  marked false o = o
  marked true o = Some (record { first = first_of T o first; lsn = lsn })

  changed_dirt : (c : Change) (pool : PoolState) (s p : ℕ) → dirt_among (pool_changed lsn first c pool).dirty.entries s p ≡ marked (is_name (page_of_change c) (name_of_page s p)) (dirt_among pool.dirty.entries s p)
  changed_dirt c pool s p = by (is_dirty (page_of_change c) pool.dirty) refl
    where
      again : is_dirty (page_of_change c) pool.dirty ≡ true → (b : Bool) → is_name (page_of_change c) (name_of_page s p) ≡ b → (o : Option Dirty) → dirt_among pool.dirty.entries s p ≡ o → restamped b lsn o ≡ marked b o
      again dirty false test o known = refl
      again dirty true test None known =
          let same : page_of_change c ≡ name_of_page s p = same_name (page_of_change c) (name_of_page s p) test in
          absurd (some_among pool.dirty.entries s p (ap (λ (n : PageName). is_dirty n pool.dirty) (sym same) ∙ dirty) known)
      again dirty true test (Some d) known = refl

      fresh : is_dirty (page_of_change c) pool.dirty ≡ false → (b : Bool) → is_name (page_of_change c) (name_of_page s p) ≡ b → (if b then Some (record { first = first; lsn = lsn }) else dirt_among pool.dirty.entries s p) ≡ marked b (dirt_among pool.dirty.entries s p)
      fresh clean false test = refl
      fresh clean true test =
          let same : page_of_change c ≡ name_of_page s p = same_name (page_of_change c) (name_of_page s p) test in
          let none : dirt_among pool.dirty.entries s p ≡ None = none_among pool.dirty.entries s p (ap (λ (n : PageName). is_dirty n pool.dirty) (sym same) ∙ clean) in
          sym (ap (λ (o : Option Dirty). Some (record { first = first_of T o first; lsn = lsn })) none)

      by : (b : Bool) → is_dirty (page_of_change c) pool.dirty ≡ b
          → dirt_among (if◌then◌else◌ {A = PoolState} b (record { dirty = changed_again (page_of_change c) lsn c pool.dirty; clean = pool.clean }) (record { dirty = made_dirty (page_of_change c) lsn first (page_changed_by c (used (lookup (is_name (page_of_change c)) pool.clean))) pool.dirty; clean = remove_entry (is_name (page_of_change c)) pool.clean })).dirty.entries s p
          ≡ marked (is_name (page_of_change c) (name_of_page s p)) (dirt_among pool.dirty.entries s p)
      by true dirty = dirt_stamped (page_of_change c) lsn pool.dirty.entries s p ∙ again dirty (is_name (page_of_change c) (name_of_page s p)) refl (dirt_among pool.dirty.entries s p) refl
      by false clean =
          let d : DirtyPage = record { space = (page_of_change c).space; page = (page_of_change c).page; first = first; lsn = lsn } in
          dirt_entered d pool.dirty.entries (entry_place d pool.dirty.entries) s p clean ∙ fresh clean (is_name (page_of_change c) (name_of_page s p)) refl

  -- a change names the page that it is of
  names_is : (c : Change) (s p : ℕ) → change_names c s p ≡ is_name (page_of_change c) (name_of_page s p)
  names_is (Put z q at bytes) s p = refl
  names_is (Kind z q kind) s p = refl
  names_is (Touch z q) s p = refl
  names_is (Floor z version) s p = refl
  names_is (Encrypt z) s p = refl

  marked_twice : (b c : Bool) (o : Option Dirty) → marked c (marked b o) ≡ marked (b || c) o
  marked_twice true true o = refl
  marked_twice true false o = refl
  marked_twice false c o = refl

  dirt_after : (cs : List Change) (pool : PoolState) (s p : ℕ) → dirt_among (pool_after lsn first cs pool).dirty.entries s p ≡ marked (mtr_names cs s p) (dirt_among pool.dirty.entries s p)
  dirt_after [] pool s p = refl
  dirt_after (c ∷ cs) pool s p =
      dirt_after cs (pool_changed lsn first c pool) s p
      ∙ ap (marked (mtr_names cs s p)) (changed_dirt c pool s p ∙ sym (ap (λ (b : Bool). marked b (dirt_among pool.dirty.entries s p)) (names_is c s p)))
      ∙ marked_twice (change_names c s p) (mtr_names cs s p) (dirt_among pool.dirty.entries s p)

  -- The pages that changes name are dirty behind them, and no other is but those that were.
  pub dirt_named : (cs : List Change) (pool : PoolState) (s p : ℕ) → mtr_names cs s p ≡ true → dirt_among (pool_after lsn first cs pool).dirty.entries s p ≡ Some (record { first = first_of T (dirt_among pool.dirty.entries s p) first; lsn = lsn })
  dirt_named cs pool s p named = dirt_after cs pool s p ∙ ap (λ (b : Bool). marked b (dirt_among pool.dirty.entries s p)) named

  pub dirt_other : (cs : List Change) (pool : PoolState) (s p : ℕ) → mtr_names cs s p ≡ false → dirt_among (pool_after lsn first cs pool).dirty.entries s p ≡ dirt_among pool.dirty.entries s p
  dirt_other cs pool s p aside = dirt_after cs pool s p ∙ ap (λ (b : Bool). marked b (dirt_among pool.dirty.entries s p)) aside

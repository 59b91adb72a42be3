-- Pages that are looked for one after another: each is held or unused once all were looked for, since none of the first 64 clean pages is dropped.
use Rattle.std.proofs.Common.{◌≡◌, ◌≢◌, ◌⊎◌, ℕ, zero, suc, ◌+◌, ◌<◌, ◌≤◌, Bool, true, false, true≢false, cond, ◌||◌, if◌then◌else◌, is_some, List, [], ◌∷◌, ◌++◌, get_or, length, take, Option, Some, None, Result, Ok, Err, OnOk, refl, sym, ap, ◌∙◌, subst, inl, inr, arith}
use Rattle.std.specs.Prelude.{IfErr}
use Rattle.std.specs.Map.{lookup, lookup_entry, remove_entry}
use Rattle.std.specs.Option.{option_map, option_map_or}
use Rattle.std.proofs.lemmas.Bool.Decides.{nat_tests}
use Rattle.std.proofs.lemmas.List.{take_all}
use Rattle.std.proofs.lemmas.Option.{none-some, same_Some}
use Rattle.byte_list.specs.Fields.{be16_at}
use Rattle.counted_disk.specs.declared.counted.Counted.{Counted}
use Rattle.disk_model.specs.Past.{Past}
use Rattle.key_ring.specs.Ring.{RingEntry}
use Rattle.lru.proofs.Pairs.{lookup-lookup_entry}
use Rattle.lru.specs.LruCache.{promoted}
use Rattle.page_places.specs.Texts.{page_type_at}
use Rattle.page_pool.proofs.Cleans.{absent_entry, absent_lookup, same_name}
use Rattle.page_pool.specs.Changes.{admitted, found_page, name_page, page_of_change}
use Rattle.page_pool.specs.Pages.{DirtyList, PoolState, held_page, is_dirty, is_held, is_name, plain_page}
use Rattle.page_pool.specs.declared.names.PageName.{PageName}
use Rattle.page_text.specs.declared.fault.OpenFault.TheVariants.{WrongKind}
use Rattle.redo_text.specs.declared.change.Change.{Change}
use Rattle.space_head.specs.declared.space.Home.{Home}
use Rattle.space_head.specs.declared.space.Home.TheVariants.{Unused}
use Rattle.space_head.specs.declared.space.SpaceInfo.{SpaceInfo}
use Rattle.store_model.specs.declared.contents.PlainPage.{PlainPage}
use Rattle.session_core.specs.Holding.{AreAtHand, HoldsNamed, IsAtHand, IsHomeInUse, IsTakeFault, IsTakenFromHome, LooksForPages, MeetsPage, NoHead, NotUsed, Taken, Was}
use Rattle.session_core.specs.Reading.{IsHomeRead}
use Rattle.session_core.specs.Spaces.{StoreSpaces, home_in, space_with_id}
use Rattle.session_core.specs.declared.fault.EngineFault.{EngineFault}
use Rattle.session_core.specs.declared.fault.EngineFault.TheVariants.{Damaged}
use Rattle.session_core.proofs.HeldPages.{admitted_held, found_clean, held_found_all}

-- the page of a name is among the first so many clean ones
abbrev pub is_front : PageName → ℕ → List (PageName × PlainPage) → Bool
is_front name b clean = is_some (lookup (is_name name) (take b clean))

name_itself : (name : PageName) → is_name name name ≡ true
name_itself name = grind (arith, nat_tests)

-- the page that is found has the name
found_named : (name : PageName) (es : List (PageName × PlainPage)) (x : PageName × PlainPage) → lookup_entry (is_name name) es ≡ Some x → is_name name x.0 ≡ true
found_named name [] x at = absurd (none-some x at)
found_named name (e ∷ es) x at = step (is_name name e.0) refl at (found_named name es x)
  where
    step : (t : Bool) → is_name name e.0 ≡ t → cond t (Some e) (lookup_entry (is_name name) es) ≡ Some x → (lookup_entry (is_name name) es ≡ Some x → is_name name x.0 ≡ true) → is_name name x.0 ≡ true
    step true is here later = subst (λ (y : PageName × PlainPage). is_name name y.0 ≡ true) (same_Some e x here) is
    step false is here later = later here

-- one more of them
front_longer : (name : PageName) (k : ℕ) (es : List (PageName × PlainPage)) → is_front name k es ≡ true → is_front name (suc k) es ≡ true
front_longer name zero es at = absurd (true≢false (sym at))
front_longer name (suc k) [] at = absurd (true≢false (sym at))
front_longer name (suc k) (x ∷ es) at = step (is_name name x.0) at (front_longer name k es)
  where
    step : (t : Bool) → is_some (cond t (Some x.1) (lookup (is_name name) (take k es))) ≡ true → (is_front name k es ≡ true → is_front name (suc k) es ≡ true) → is_some (cond t (Some x.1) (lookup (is_name name) (take (suc k) es))) ≡ true
    step true here later = refl
    step false here later = later here

-- a page before them
front_more : (name : PageName) (b : ℕ) (e : PageName × PlainPage) (clean : List (PageName × PlainPage)) → is_front name b clean ≡ true → is_front name (suc b) (e ∷ clean) ≡ true
front_more name b e clean front = by (is_name name e.0)
  where
    by : (t : Bool) → is_some (cond t (Some e.1) (lookup (is_name name) (take b clean))) ≡ true
    by true = refl
    by false = front

-- one of them taken out
front_without : (name other : PageName) (b : ℕ) (clean : List (PageName × PlainPage)) → is_name name other ≡ false → is_front other b clean ≡ true → is_front other b (remove_entry (is_name name) clean) ≡ true
front_without name other zero clean apart front = absurd (true≢false (sym front))
front_without name other (suc b) [] apart front = absurd (true≢false (sym front))
front_without name other (suc b) (e ∷ clean) apart front = by (is_name name e.0) refl (front_without name other b clean apart)
  where
    behind : (t : Bool) → is_name other e.0 ≡ t → is_some (cond t (Some e.1) (lookup (is_name other) (take b clean))) ≡ true → t ≡ false → is_front other b clean ≡ true
    behind true here at other_one = absurd (true≢false other_one)
    behind false here at other_one = at

    differs : is_name name e.0 ≡ true → is_name other e.0 ≡ false
    differs same = let n : name ≡ e.0 = same_name name e.0 same in subst (λ (x : PageName). is_name other x ≡ false) n (flip apart)
      where
        flip : is_name name other ≡ false → is_name other name ≡ false
        flip h = grind (arith, nat_tests)

    kept : (t : Bool) → is_some (cond t (Some e.1) (lookup (is_name other) (take b clean))) ≡ true → (is_front other b clean ≡ true → is_front other b (remove_entry (is_name name) clean) ≡ true)
        → is_some (cond t (Some e.1) (lookup (is_name other) (take b (remove_entry (is_name name) clean)))) ≡ true
    kept true at later = refl
    kept false at later = later at

    by : (t : Bool) → is_name name e.0 ≡ t → (is_front other b clean ≡ true → is_front other b (remove_entry (is_name name) clean) ≡ true) → is_front other (suc b) (cond t clean (e ∷ remove_entry (is_name name) clean)) ≡ true
    by true same later = front_longer other b clean (behind (is_name other e.0) refl front (differs same))
    by false same later = kept (is_name other e.0) front later

-- a page that is found comes first, and each other is at most one place behind where it was
front_found : (name other : PageName) (b : ℕ) (clean : List (PageName × PlainPage)) → is_front other b clean ≡ true → is_front other (suc b) (promoted (is_name name) clean) ≡ true
front_found name other b clean front = by (lookup_entry (is_name name) clean) refl
  where
    by : (o : Option (PageName × PlainPage)) → lookup_entry (is_name name) clean ≡ o → is_front other (suc b) (option_map_or (λ e. e ∷ remove_entry (is_name name) clean) o clean) ≡ true
    by None is = front_longer other b clean front
    by (Some e) is = at (is_name name other) refl
      where
        at : (t : Bool) → is_name name other ≡ t → is_front other (suc b) (e ∷ remove_entry (is_name name) clean) ≡ true
        at false apart = front_more other b e (remove_entry (is_name name) clean) (front_without name other b clean apart front)
        at true same =
            let n : name ≡ other = same_name name other same in
            let here : is_name other e.0 ≡ true = subst (λ (x : PageName). is_name x e.0 ≡ true) n (found_named name clean e is) in
            ap (λ (t : Bool). is_some (cond t (Some e.1) (lookup (is_name other) (take b (remove_entry (is_name name) clean))))) here

-- the page that was found is the first one
first_found : (name : PageName) (b : ℕ) (clean : List (PageName × PlainPage)) → is_some (lookup (is_name name) clean) ≡ true → is_front name (suc b) (promoted (is_name name) clean) ≡ true
first_found name b clean there = by (lookup_entry (is_name name) clean) refl
  where
    by : (o : Option (PageName × PlainPage)) → lookup_entry (is_name name) clean ≡ o → is_front name (suc b) (option_map_or (λ e. e ∷ remove_entry (is_name name) clean) o clean) ≡ true
    by None is =
        let none : lookup (is_name name) clean ≡ None = sym (lookup-lookup_entry (is_name name) clean) ∙ ap (λ (o : Option (PageName × PlainPage)). option_map (λ (x : PageName × PlainPage). x.1) o) is in
        absurd (true≢false (sym there ∙ ap is_some none))
    by (Some e) is = ap (λ (t : Bool). is_some (cond t (Some e.1) (lookup (is_name name) (take b (remove_entry (is_name name) clean))))) (found_named name clean e is)

-- fewer than 64 of them stay where one is held more
front_kept : (name : PageName) (b n : ℕ) (clean : List (PageName × PlainPage)) → b ≤ n → is_front name b clean ≡ true → is_front name b (take n clean) ≡ true
front_kept name zero n clean few front = absurd (true≢false (sym front))
front_kept name (suc b) zero clean few front = absurd (omega (arith, few))
front_kept name (suc b) (suc n) [] few front = front
front_kept name (suc b) (suc n) (e ∷ clean) few front = by (is_name name e.0) front (front_kept name b n clean (omega (arith, few)))
  where
    by : (t : Bool) → is_some (cond t (Some e.1) (lookup (is_name name) (take b clean))) ≡ true → (is_front name b clean ≡ true → is_front name b (take n clean) ≡ true) → is_some (cond t (Some e.1) (lookup (is_name name) (take b (take n clean)))) ≡ true
    by true at later = refl
    by false at later = later at

-- a page among the first ones is there
front_there : (name : PageName) (b : ℕ) (clean : List (PageName × PlainPage)) → is_front name b clean ≡ true → is_some (lookup (is_name name) clean) ≡ true
front_there name zero clean front = absurd (true≢false (sym front))
front_there name (suc b) [] front = front
front_there name (suc b) (e ∷ clean) front = by (is_name name e.0) front (front_there name b clean)
  where
    by : (t : Bool) → is_some (cond t (Some e.1) (lookup (is_name name) (take b clean))) ≡ true → (is_front name b clean ≡ true → is_some (lookup (is_name name) clean) ≡ true) → is_some (cond t (Some e.1) (lookup (is_name name) clean)) ≡ true
    by true at later = refl
    by false at later = later at

not_dirty : (a b : Bool) → (a || b) ≡ false → a ≡ false
not_dirty true b h = h
not_dirty false b h = refl

either : (a b : Bool) → (a || b) ≡ true → (a ≡ true) ⊎ (b ≡ true)
either true b h = inl refl
either false b h = inr h

first_of_two : (a b : Bool) → a ≡ true → (a || b) ≡ true
first_of_two true b h = refl
first_of_two false b h = absurd (true≢false (sym h))

second_of_two : (a b : Bool) → b ≡ true → (a || b) ≡ true
second_of_two true b h = refl
second_of_two false b h = h

-- a page is dirty, or among the first so many clean ones, or isn't page 0 and is unused
abbrev pub IsNear : StoreSpaces → ℕ → PageName → PoolState → Type 0
IsNear store b name pool = (is_dirty name pool.dirty ≡ true) ⊎ ((is_front name b pool.clean ≡ true) ⊎ ((name.page ≢ 0) × (home_in store name.space name.page ≡ Unused)))

module _ (ring : List RingEntry) (store : StoreSpaces) (past : Past) where
  pub near_at_hand : (b : ℕ) (name : PageName) (pool : PoolState) → IsNear store b name pool → IsAtHand store name pool
  near_at_hand b name pool (inl dirty) = inl (first_of_two (is_dirty name pool.dirty) (is_some (lookup (is_name name) pool.clean)) dirty)
  near_at_hand b name pool (inr (inl front)) = inl (second_of_two (is_dirty name pool.dirty) (is_some (lookup (is_name name) pool.clean)) (front_there name b pool.clean front))
  near_at_hand b name pool (inr (inr unused)) = inr unused

  pub meets_dirty : (name : PageName) (old new : PoolState) → MeetsPage ring store past name old new → new.dirty ≡ old.dirty
  meets_dirty name old new (Was held is) = ap (λ (s : PoolState). s.dirty) is
  meets_dirty name old new (NotUsed apart some unused is) = ap (λ (s : PoolState). s.dirty) is
  meets_dirty name old new (Taken page apart far taken is) = ap (λ (s : PoolState). s.dirty) is

  pub looks_none : (cs : List Change) (pool : PoolState) → LooksForPages ring store past cs pool pool
  looks_none cs pool = record { dirty = refl; pages = λ name page is. inl is }

  -- one page more is looked for
  pub looks_meets : (cs : List Change) (name : PageName) (old mid new : PoolState) → name_page cs name ≡ true → LooksForPages ring store past cs old mid → MeetsPage ring store past name mid new → LooksForPages ring store past cs old new
  looks_meets cs name old mid new named looks meets = record {
    dirty = meets_dirty name mid new meets ∙ looks.dirty;
    pages = λ other page is. by other page meets is;
  }
    where
      was_found : (other : PageName) (page : PlainPage) → new ≡ found_page name mid → held_page other new ≡ Some page → (held_page other old ≡ Some page) ⊎ ((name_page cs other ≡ true) × (is_dirty other old.dirty ≡ false) × IsTakenFromHome ring store past other page × IsHomeInUse store other)
      was_found other page same is = looks.pages other page (sym (held_found_all name other mid) ∙ ap (λ (s : PoolState). held_page other s) (sym same) ∙ is)

      by : (other : PageName) (page : PlainPage) → MeetsPage ring store past name mid new → held_page other new ≡ Some page → (held_page other old ≡ Some page) ⊎ ((name_page cs other ≡ true) × (is_dirty other old.dirty ≡ false) × IsTakenFromHome ring store past other page × IsHomeInUse store other)
      by other page (Was held same) is = was_found other page same is
      by other page (NotUsed apart some unused same) is = was_found other page same is
      by other page (Taken read apart far taken same) is = at (admitted_held name other read page mid (ap (λ (s : PoolState). held_page other s) (sym same) ∙ is))
        where
          clean : is_dirty name old.dirty ≡ false
          clean = ap (is_dirty name) (sym looks.dirty) ∙ not_dirty (is_dirty name mid.dirty) (is_some (lookup (is_name name) mid.clean)) apart

          at : (held_page other mid ≡ Some page) ⊎ ((name ≡ other) × (read ≡ page)) → (held_page other old ≡ Some page) ⊎ ((name_page cs other ≡ true) × (is_dirty other old.dirty ≡ false) × IsTakenFromHome ring store past other page × IsHomeInUse store other)
          at (inl before) = looks.pages other page before
          at (inr (n, e)) =
              inr (subst (λ (x : PageName). name_page cs x ≡ true) n named, subst (λ (x : PageName). is_dirty x old.dirty ≡ false) n clean, subst (λ (x : PageName). IsTakenFromHome ring store past x page) n (subst (λ (x : PlainPage). IsTakenFromHome ring store past name x) e taken), subst (IsHomeInUse store) n (λ some unused. far (inr (some, unused))))

  -- the page that is looked for is near
  pub near_met : (b : ℕ) (name : PageName) (old new : PoolState) → MeetsPage ring store past name old new → IsNear store (suc b) name new
  near_met b name old new (Was held same) = subst (IsNear store (suc b) name) (sym same) (by (either (is_dirty name old.dirty) (is_some (lookup (is_name name) old.clean)) held))
    where
      by : (is_dirty name old.dirty ≡ true) ⊎ (is_some (lookup (is_name name) old.clean) ≡ true) → IsNear store (suc b) name (found_page name old)
      by (inl dirty) = inl dirty
      by (inr clean) = inr (inl (first_found name b old.clean clean))
  near_met b name old new (NotUsed apart some unused same) = inr (inr (some, unused))
  near_met b name old new (Taken page apart far taken same) =
      subst (IsNear store (suc b) name) (sym same) (inr (inl (ap (λ (t : Bool). is_some (cond t (Some page) (lookup (is_name name) (take b (take 63 (found_page name old).clean))))) (name_itself name))))

  -- and each other that was near is near still
  pub near_kept : (b : ℕ) (name other : PageName) (old new : PoolState) → b ≤ 63 → MeetsPage ring store past name old new → IsNear store b other old → IsNear store (suc b) other new
  near_kept b name other old new few meets (inl dirty) = inl (ap (is_dirty other) (meets_dirty name old new meets) ∙ dirty)
  near_kept b name other old new few meets (inr (inr unused)) = inr (inr unused)
  near_kept b name other old new few (Was held same) (inr (inl front)) = inr (inl (ap (λ (s : PoolState). is_front other (suc b) s.clean) same ∙ front_found name other b old.clean front))
  near_kept b name other old new few (NotUsed apart some unused same) (inr (inl front)) = inr (inl (ap (λ (s : PoolState). is_front other (suc b) s.clean) same ∙ front_found name other b old.clean front))
  near_kept b name other old new few (Taken page apart far taken same) (inr (inl front)) =
      let none : lookup (is_name name) old.clean ≡ None = absent_lookup (lookup (is_name name) old.clean) (behind (is_dirty name old.dirty) (is_some (lookup (is_name name) old.clean)) apart) in
      let entry : lookup_entry (is_name name) old.clean ≡ None = absent_entry (lookup_entry (is_name name) old.clean) (lookup-lookup_entry (is_name name) old.clean ∙ none) in
      let stays : (found_page name old).clean ≡ old.clean = ap (λ (o : Option (PageName × PlainPage)). option_map_or (λ e. e ∷ remove_entry (is_name name) old.clean) o old.clean) entry in
      inr (inl (ap (λ (s : PoolState). is_front other (suc b) s.clean) same ∙ ap (λ (l : List (PageName × PlainPage)). is_front other (suc b) ((name, page) ∷ take 63 l)) stays
      ∙ front_more other b (name, page) (take 63 old.clean) (front_kept other b 63 old.clean few front)))
    where
      behind : (a b : Bool) → (a || b) ≡ false → b ≡ false
      behind true b h = absurd (true≢false h)
      behind false b h = h

-- a page that changes and one more name
pub named_more : (cs : List Change) (c : Change) (name : PageName) → name_page (cs ++ c ∷ []) name ≡ (name_page cs name || is_name name (page_of_change c))
named_more [] c name = by (is_name name (page_of_change c))
  where
    by : (a : Bool) → (a || false) ≡ a
    by true = refl
    by false = refl
named_more (d ∷ cs) c name = by (is_name name (page_of_change d)) (named_more cs c name)
  where
    by : (a : Bool) → name_page (cs ++ c ∷ []) name ≡ (name_page cs name || is_name name (page_of_change c)) → (a || name_page (cs ++ c ∷ []) name) ≡ ((a || name_page cs name) || is_name name (page_of_change c))
    by true later = refl
    by false later = later

-- a page that was read from its home is taken from it, once page 0 has its type
module _ (ring : List RingEntry) (store : StoreSpaces) (past : Past) (name : PageName) (info : SpaceInfo) (left : List ℕ) (was : Home) (result : Result (Unit {0}) EngineFault) where
  pub taken_home : space_with_id store.spaces name.space ≡ Some info → IsHomeRead ring store.header.algorithm info name.page past left (Ok was) → OnOk result (name.page ≡ 0 → be16_at left page_type_at ≡ 8)
      → OnOk result (IsTakenFromHome ring store past name (plain_page left))
  unfolding plain_page
  taken_home found read head = by result head
    where
      kind : (name.page ≡ 0 → be16_at left page_type_at ≡ 8) → name.page ≡ 0 → (plain_page left).kind ≡ 8
      kind h first = h first

      by : (r : Result (Unit {0}) EngineFault) → OnOk r (name.page ≡ 0 → be16_at left page_type_at ≡ 8) → OnOk r (IsTakenFromHome ring store past name (plain_page left))
      by (Ok done) h = record { info = info; left = left; was = was; is = found; read = read; gives = refl; head = kind h }
      by (Err e) h = tt

  pub head_refused : {D : Type 0} (disk : Counted D) → disk.stop ≡ None → space_with_id store.spaces name.space ≡ Some info → IsHomeRead ring store.header.algorithm info name.page past left (Ok was)
      → IfErr result (λ e. (name.page ≡ 0) × (be16_at left page_type_at ≢ 8) × (e ≡ Damaged name.space 0 (WrongKind (be16_at left page_type_at) 0))) → IfErr result (IsTakeFault ring store past name disk)
  head_refused {D} disk up found read refused = by result refused
    where
      by : (r : Result (Unit {0}) EngineFault) → IfErr r (λ e. (name.page ≡ 0) × (be16_at left page_type_at ≢ 8) × (e ≡ Damaged name.space 0 (WrongKind (be16_at left page_type_at) 0))) → IfErr r (IsTakeFault ring store past name disk)
      by (Ok done) h = tt
      by (Err e) (first, other, same) = subst (IsTakeFault ring store past name disk) (sym same) (NoHead info left was up first found read other)

-- a page that changes name, by its place
pub named_at : (cs : List Change) (i : ℕ) (c : Change) → i < length cs → c ≡ get_or cs i c → name_page cs (page_of_change c) ≡ true
named_at [] i c lt is = absurd (omega (arith, lt))
named_at (d ∷ cs) zero c lt is = first_of_two (is_name (page_of_change c) (page_of_change d)) (name_page cs (page_of_change c)) (ap (λ (x : Change). is_name (page_of_change c) (page_of_change x)) (sym is) ∙ name_itself (page_of_change c))
named_at (d ∷ cs) (suc i) c lt is = second_of_two (is_name (page_of_change c) (page_of_change d)) (name_page cs (page_of_change c)) (named_at cs i c (omega (arith, lt)) is)

module _ (ring : List RingEntry) (store : StoreSpaces) (past : Past) where
  -- a page that was only found changes nothing of what was looked for
  pub looks_found : (cs : List Change) (name : PageName) (old mid new : PoolState) → new ≡ found_page name mid → LooksForPages ring store past cs old mid → LooksForPages ring store past cs old new
  looks_found cs name old mid new same looks = record {
    dirty = ap (λ (s : PoolState). s.dirty) same ∙ looks.dirty;
    pages = λ other page is. looks.pages other page (sym (held_found_all name other mid) ∙ ap (λ (s : PoolState). held_page other s) (sym same) ∙ is);
  }

  -- once all are near they are held, or unused
  pub all_held : (cs : List Change) (i : ℕ) (old new : PoolState) → length cs ≤ i → LooksForPages ring store past cs old new → ((name : PageName) → name_page (take i cs) name ≡ true → IsNear store i name new) → HoldsNamed ring store past cs old new
  all_held cs i old new end looks near = record {
    looks = looks;
    named = λ name named. near_at_hand ring store past i name new (near name (ap (λ (l : List Change). name_page l name) (take_all i cs end) ∙ named));
  }

-- the changes up to one place more
take_next : (cs : List Change) (i : ℕ) (c : Change) → i < length cs → c ≡ get_or cs i c → take (suc i) cs ≡ take i cs ++ c ∷ []
take_next [] i c lt is = absurd (omega (arith, lt))
take_next (d ∷ cs) zero c lt is = ap (λ (x : Change). x ∷ []) (sym is)
take_next (d ∷ cs) (suc i) c lt is = ap (λ (l : List Change). d ∷ l) (take_next cs i c (omega (arith, lt)) is)

held_same : (name other : PageName) (s : PoolState) → is_held other (found_page name s) ≡ is_held other s
held_same name other s = ap (λ (o : Option PlainPage). is_dirty other s.dirty || is_some o) (found_clean name other s)

pub hand_same : (store : StoreSpaces) (name : PageName) (a b : PoolState) → is_held name a ≡ is_held name b → IsAtHand store name b → IsAtHand store name a
hand_same store name a b same (inl held) = inl (same ∙ held)
hand_same store name a b same (inr unused) = inr unused

module _ (ring : List RingEntry) (store : StoreSpaces) (past : Past) where
  -- where a page is at hand, the same pages are held behind it
  pub held_met : (name other : PageName) (old new : PoolState) → IsAtHand store name old → MeetsPage ring store past name old new → is_held other new ≡ is_held other old
  held_met name other old new hand (Was held same) = ap (is_held other) same ∙ held_same name other old
  held_met name other old new hand (NotUsed apart some unused same) = ap (is_held other) same ∙ held_same name other old
  held_met name other old new hand (Taken page apart far taken same) = absurd (far hand)

  -- the pages up to the next one are near
  pub near_next : (cs : List Change) (i : ℕ) (c : Change) (name : PageName) (old new : PoolState) → i < length cs → length cs ≤ 64 → c ≡ get_or cs i c → name ≡ page_of_change c → MeetsPage ring store past name old new
      → ((other : PageName) → name_page (take i cs) other ≡ true → IsNear store i other old) → (other : PageName) → name_page (take (i + 1) cs) other ≡ true → IsNear store (i + 1) other new
  near_next cs i c name old new lt few is own meets near other named =
      let one : suc i ≡ i + 1 = omega arith in
      let split : name_page (take (i + 1) cs) other ≡ (name_page (take i cs) other || is_name other (page_of_change c)) =
      ap (λ (k : ℕ). name_page (take k cs) other) (sym one) ∙ ap (λ (l : List Change). name_page l other) (take_next cs i c lt is) ∙ named_more (take i cs) c other in
      subst (λ (k : ℕ). IsNear store k other new) one (by (either (name_page (take i cs) other) (is_name other (page_of_change c)) (sym split ∙ named)))
    where
      by : (name_page (take i cs) other ≡ true) ⊎ (is_name other (page_of_change c) ≡ true) → IsNear store (suc i) other new
      by (inl before) = near_kept ring store past i name other old new (omega (arith, lt, few)) meets (near other before)
      by (inr here) =
          let same : name ≡ other = own ∙ sym (same_name other (page_of_change c) here) in
          subst (λ (n : PageName). IsNear store (suc i) n new) same (near_met ring store past i name old new meets)

-- a page that isn't held, and isn't a new one, isn't at hand
pub far_away : (store : StoreSpaces) (name : PageName) (pool : PoolState) (new : Bool) → is_held name pool ≡ false → new ≡ false → (name.page ≢ 0 → home_in store name.space name.page ≡ Unused → new ≡ true) → IsAtHand store name pool → ⊥
far_away store name pool new apart not_new tells (inl held) = true≢false (sym held ∙ apart)
far_away store name pool new apart not_new tells (inr (some, unused)) = true≢false (sym (tells some unused) ∙ not_new)

-- How many pages are named that haven't a property, when one of them gets it.
use Rattle.std.proofs.Common.{◌≡◌, ℕ, ◌+◌, ◌≤◌, Bool, true, false, ◌||◌, if◌then◌else◌, List, [], ◌∷◌, refl, sym, ◌∙◌, ap, subst, arith}
use Rattle.redo_text.specs.declared.change.Change.{Change}
use Rattle.page_pool.specs.declared.names.PageName.{PageName}
use Rattle.page_pool.specs.Pages.{PoolState, is_dirty, is_held, is_name}
use Rattle.page_pool.specs.Changes.{HasNamed, HasPoolRoom, count_without, fresh_pages, name_page, page_of_change, unused_pages}
use Rattle.page_pool.proofs.Cleans.{same_name}

-- a property that is the same of each page
pub count_same : (f g : PageName → Bool) → ((m : PageName) → f m ≡ g m) → (cs : List Change) → count_without f cs ≡ count_without g cs
count_same f g same [] = refl
count_same f g same (c ∷ cs) =
    ap (λ (b : Bool). (if b || name_page cs (page_of_change c) then 0 else 1) + count_without f cs) (same (page_of_change c))
    ∙ ap (λ (n : ℕ). (if g (page_of_change c) || name_page cs (page_of_change c) then 0 else 1) + n) (count_same f g same cs)

module _ (has : PageName → Bool) (n : PageName) where
  abbrev with_page : PageName → Bool
  with_page m = is_name n m || has m

  flip : Bool → ℕ
  flip b = if b then 1 else 0

  -- a page that hasn't the property counts where it is named
  absorbed : has n ≡ false → (cs : List Change) → count_without has cs ≡ (if name_page cs n then 1 else 0) + count_without with_page cs
  absorbed lacks [] = refl
  absorbed lacks (d ∷ ds) = by (is_name n (page_of_change d)) refl (absorbed lacks ds)
    where
      m : PageName
      m = page_of_change d

      one : (x y : Bool) (k l : ℕ) → x ≡ false → k ≡ (if y then 1 else 0) + l → (if x || y then 0 else 1) + k ≡ 1 + (0 + l)
      one x true k l lacking is = let sum : k ≡ 1 + l = is in ap (λ (b : Bool). (if b || true then 0 else 1) + k) lacking ∙ omega (arith, sum)
      one x false k l lacking is = let sum : k ≡ 0 + l = is in ap (λ (b : Bool). (if b || false then 0 else 1) + k) lacking ∙ omega (arith, sum)

      by : (b : Bool) → is_name n m ≡ b → count_without has ds ≡ (if name_page ds n then 1 else 0) + count_without with_page ds
          → (if has m || name_page ds m then 0 else 1) + count_without has ds
          ≡ (if b || name_page ds n then 1 else 0) + ((if (b || has m) || name_page ds m then 0 else 1) + count_without with_page ds)
      by true is later =
          let here : n ≡ m = same_name n m is in
          one (has m) (name_page ds m) (count_without has ds) (count_without with_page ds) (subst (λ (x : PageName). has x ≡ false) here lacks)
          (subst (λ (x : PageName). count_without has ds ≡ (if name_page ds x then 1 else 0) + count_without with_page ds) here later)
      by false is later = omega (arith, later)

  -- and the first change that names it takes it away
  pub counted : (c : Change) (cs : List Change) → page_of_change c ≡ n → count_without has (c ∷ cs) ≡ (if has n then 0 else 1) + count_without with_page cs
  counted c cs is =
      ap (λ (m : PageName). (if has m || name_page cs m then 0 else 1) + count_without has cs) is ∙ by (has n) refl
    where
      split : (y : Bool) (k l : ℕ) → k ≡ (if y then 1 else 0) + l → (if y then 0 else 1) + k ≡ 1 + l
      split true k l is = omega (arith, is)
      split false k l is = omega (arith, is)

      each : has n ≡ true → (m : PageName) → has m ≡ with_page m
      each has_it m = by_name (is_name n m) refl
        where
          by_name : (b : Bool) → is_name n m ≡ b → has m ≡ (b || has m)
          by_name true same = subst (λ (x : PageName). has x ≡ true) (same_name n m same) has_it
          by_name false same = refl

      by : (b : Bool) → has n ≡ b → (if b || name_page cs n then 0 else 1) + count_without has cs ≡ (if b then 0 else 1) + count_without with_page cs
      by true is = ap (λ (k : ℕ). 0 + k) (count_same has with_page (each is) cs)
      by false is = split (name_page cs n) (count_without has cs) (count_without with_page cs) (absorbed is cs)

-- what is left to be counted behind a change
pub fresh_left : (c : Change) (cs : List Change) (old new : PoolState) → HasNamed (page_of_change c) old new
    → fresh_pages (c ∷ cs) old.dirty ≡ (if is_dirty (page_of_change c) old.dirty then 0 else 1) + fresh_pages cs new.dirty
fresh_left c cs old new named =
    counted (λ m. is_dirty m old.dirty) (page_of_change c) c cs refl
    ∙ ap (λ (k : ℕ). (if is_dirty (page_of_change c) old.dirty then 0 else 1) + k)
    (count_same (λ m. is_name (page_of_change c) m || is_dirty m old.dirty) (λ m. is_dirty m new.dirty) (λ m. sym (named.dirty m)) cs)

pub unused_left : (c : Change) (cs : List Change) (old new : PoolState) → HasNamed (page_of_change c) old new
    → unused_pages (c ∷ cs) old ≡ (if is_held (page_of_change c) old then 0 else 1) + unused_pages cs new
unused_left c cs old new named =
    counted (λ m. is_held m old) (page_of_change c) c cs refl
    ∙ ap (λ (k : ℕ). (if is_held (page_of_change c) old then 0 else 1) + k)
    (count_same (λ m. is_name (page_of_change c) m || is_held m old) (λ m. is_held m new) (λ m. sym (named.held m)) cs)

-- room for changes is room for the first of them
first_only : (has : PageName → Bool) (c : Change) (cs : List Change) → count_without has (c ∷ []) ≤ count_without has (c ∷ cs)
first_only has c cs = let one = counted has (page_of_change c) c [] refl in let all = counted has (page_of_change c) c cs refl in omega (arith, one, all)

pub room_first : (c : Change) (cs : List Change) (s : PoolState) (spare : ℕ) → HasPoolRoom (c ∷ cs) s spare → HasPoolRoom (c ∷ []) s spare
room_first c cs s spare room = record {
  dirty = (let less : fresh_pages (c ∷ []) s.dirty ≤ fresh_pages (c ∷ cs) s.dirty = first_only (λ m. is_dirty m s.dirty) c cs in omega (arith, less, room.dirty));
  spares = (let less : unused_pages (c ∷ []) s ≤ unused_pages (c ∷ cs) s = first_only (λ m. is_held m s) c cs in omega (arith, less, room.spares));
}

-- and behind it there is room for the others
pub room_left : (c : Change) (cs : List Change) (old new : PoolState) (spare left : ℕ) → HasPoolRoom (c ∷ cs) old spare → HasNamed (page_of_change c) old new → left + unused_pages (c ∷ []) old ≡ spare → HasPoolRoom cs new left
room_left c cs old new spare left room named took =
    let fresh = fresh_left c cs old new named in
    let unused = unused_left c cs old new named in
    let one = unused_left c [] old new named in
    record { dirty = omega (arith, fresh, room.dirty, named.count); spares = omega (arith, unused, one, took, room.spares) }

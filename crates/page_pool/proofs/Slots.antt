-- Slots whose pages are found, brought to the front, taken out and put.
use Rattle.std.proofs.Common.{◌≡◌, ℕ, zero, suc, ◌-◌, ◌≤◌, nat_eq, Bool, true, false, cond, if◌then◌else◌, List, [], ◌∷◌, ◌++◌, length, take, Option, Some, None, refl, sym, ◌∙◌, ap, subst, arith}
use Rattle.std.specs.Prelude.{slice_get}
use Rattle.std.specs.List.{AllByRecursion, IsDistinct}
use Rattle.std.specs.Option.{option_map_or}
use Rattle.std.specs.Map.{keys_of, lookup, lookup_entry, remove_entry}
use Rattle.std.proofs.lemmas.Bool.Decides.{nat_tests}
use Rattle.lru.specs.LruCache.{LruCache, demoted, last_entry, promoted, put_entries}
use Rattle.lru.proofs.Splits.{all_at, all_unmap}
use Rattle.lru.proofs.CallerLemmas.{Contains-lookup_entry}
use Rattle.lru.proofs.Pairs.{lookup-lookup_entry}
use Rattle.store_model.specs.declared.contents.PlainPage.{PlainPage}
use Rattle.page_pool.specs.declared.names.PageName.{PageName}
use Rattle.page_pool.specs.Pages.{is_name}
use Rattle.page_pool.specs.Changes.{admitted}
use Rattle.page_pool.specs.Slots.{AreSlots, SlotContents, emptied, HoldFirst, empty_slots, held_in, holds, slot_holding, with_held}
use Rattle.page_pool.proofs.Cleans.{absent_entry}

nat_itself : (n : ℕ) → nat_eq n n ≡ true
nat_itself n = grind (arith, nat_tests)

nat_back : (n m : ℕ) → nat_eq n m ≡ false → nat_eq m n ≡ false
nat_back n m h = grind (arith, nat_tests)

-- ---- the slot of a page

-- page stands in slot k, and is the page of this name
pub record IsAt (k : ℕ) (name : PageName) (page : PageName × PlainPage) (es : List (ℕ × SlotContents)) : Type 0 where
  pub entry : lookup_entry (nat_eq k) es ≡ Some (k, Some page)
  pub held : lookup_entry (is_name name) (held_in es) ≡ Some page
  pub rest : held_in (remove_entry (nat_eq k) es) ≡ remove_entry (is_name name) (held_in es)

-- a slot of another number
differs : (es : List (ℕ × SlotContents)) (j k : ℕ) (h : SlotContents) → AllByRecursion (λ y. nat_eq j y ≡ false) (keys_of es) → lookup_entry (nat_eq k) es ≡ Some (k, h) → nat_eq k j ≡ false
differs es j k h apart is =
    nat_back j k (all_at (λ (x : ℕ × SlotContents). nat_eq j x.0 ≡ false) es (k, h) (all_unmap (λ (x : ℕ × SlotContents). x.0) (λ (y : ℕ). nat_eq j y ≡ false) es apart) (Contains-lookup_entry (nat_eq k) es (k, h) is).0)

-- a slot stands before
behind : (j : ℕ) (h : SlotContents) (es : List (ℕ × SlotContents)) (k : ℕ) (name : PageName) (page : PageName × PlainPage) → nat_eq k j ≡ false → holds name h ≡ false → IsAt k name page es → IsAt k name page ((j, h) ∷ es)
behind j None es k name page other aside is = record {
  entry = ap (λ (b : Bool). cond b (Some (j, None)) (lookup_entry (nat_eq k) es)) other ∙ is.entry;
  held = is.held;
  rest = ap (λ (b : Bool). held_in (cond b es ((j, None) ∷ remove_entry (nat_eq k) es))) other ∙ is.rest;
}
behind j (Some q) es k name page other aside is = record {
  entry = ap (λ (b : Bool). cond b (Some (j, Some q)) (lookup_entry (nat_eq k) es)) other ∙ is.entry;
  held = ap (λ (b : Bool). cond b (Some q) (lookup_entry (is_name name) (held_in es))) aside ∙ is.held;
  rest = ap (λ (b : Bool). held_in (cond b es ((j, Some q) ∷ remove_entry (nat_eq k) es))) other
      ∙ ap (λ (l : List (PageName × PlainPage)). q ∷ l) is.rest
      ∙ sym (ap (λ (b : Bool). cond b (held_in es) (q ∷ remove_entry (is_name name) (held_in es))) aside);
}

first_at : (j : ℕ) (q : PageName × PlainPage) (es : List (ℕ × SlotContents)) (name : PageName) → is_name name q.0 ≡ true → IsAt j name q ((j, Some q) ∷ es)
first_at j q es name here = record {
  entry = ap (λ (b : Bool). cond b (Some (j, Some q)) (lookup_entry (nat_eq j) es)) (nat_itself j);
  held = ap (λ (b : Bool). cond b (Some q) (lookup_entry (is_name name) (held_in es))) here;
  rest = ap (λ (b : Bool). held_in (cond b es ((j, Some q) ∷ remove_entry (nat_eq j) es))) (nat_itself j)
      ∙ sym (ap (λ (b : Bool). cond b (held_in es) (q ∷ remove_entry (is_name name) (held_in es))) here);
}

pub found : (name : PageName) (es : List (ℕ × SlotContents)) (k : ℕ) → IsDistinct nat_eq (keys_of es) → slot_holding name es ≡ Some k → (page : PageName × PlainPage) × IsAt k name page es
unfolding IsDistinct
found name [] k apart is = cc
found name ((j, None) ∷ es) k apart is =
    let later = found name es k apart.1 is in
    (later.0, behind j None es k name later.0 (differs es j k (Some later.0) apart.0 later.1.entry) refl later.1)
found name ((j, Some q) ∷ es) k apart is = by (is_name name q.0) refl is (found name es k apart.1)
  where
    by : (b : Bool) → is_name name q.0 ≡ b → (if b then Some j else slot_holding name es) ≡ Some k → (slot_holding name es ≡ Some k → (page : PageName × PlainPage) × IsAt k name page es)
        → (page : PageName × PlainPage) × IsAt k name page ((j, Some q) ∷ es)
    by true here at later = let same : j ≡ k = cc in (q, subst (λ (n : ℕ). IsAt n name q ((j, Some q) ∷ es)) same (first_at j q es name here))
    by false aside at later =
        let found = later at in
        (found.0, behind j (Some q) es k name found.0 (differs es j k (Some found.0) apart.0 found.1.entry) aside found.1)

-- a page that has no slot isn't held
pub not_found : (name : PageName) (es : List (ℕ × SlotContents)) → slot_holding name es ≡ None → lookup (is_name name) (held_in es) ≡ None
not_found name [] is = refl
not_found name ((k, None) ∷ es) is = not_found name es is
not_found name ((k, Some page) ∷ es) is = by (is_name name page.0) refl is (not_found name es)
  where
    by : (b : Bool) → is_name name page.0 ≡ b → (if b then Some k else slot_holding name es) ≡ None → (slot_holding name es ≡ None → lookup (is_name name) (held_in es) ≡ None)
        → cond b (Some page.1) (lookup (is_name name) (held_in es)) ≡ None
    by true here is later = cc
    by false aside is later = later is

-- ---- slots with a page come first

none_removed : (test : ℕ → Bool) (es : List (ℕ × SlotContents)) → held_in es ≡ [] → held_in (remove_entry test es) ≡ []
none_removed test [] none = refl
none_removed test ((k, Some p) ∷ es) none = cc
none_removed test ((k, None) ∷ es) none = by (test k) (none_removed test es none)
  where
    by : (b : Bool) → held_in (remove_entry test es) ≡ [] → held_in (cond b es ((k, None) ∷ remove_entry test es)) ≡ []
    by true later = none
    by false later = later

none_first : (es : List (ℕ × SlotContents)) → held_in es ≡ [] → HoldFirst es
none_first [] none = tt
none_first ((k, Some p) ∷ es) none = cc
none_first ((k, None) ∷ es) none = none

none_taken : (n : ℕ) (es : List (ℕ × SlotContents)) → held_in es ≡ [] → held_in (take n es) ≡ []
none_taken zero es none = refl
none_taken (suc n) [] none = refl
none_taken (suc n) ((k, Some p) ∷ es) none = cc
none_taken (suc n) ((k, None) ∷ es) none = none_taken n es none

first_removed : (test : ℕ → Bool) (es : List (ℕ × SlotContents)) → HoldFirst es → HoldFirst (remove_entry test es)
first_removed test [] first = tt
first_removed test ((k, None) ∷ es) none = by (test k)
  where
    by : (b : Bool) → HoldFirst (cond b es ((k, None) ∷ remove_entry test es))
    by true = none_first es none
    by false = none_removed test es none
first_removed test ((k, Some p) ∷ es) first = by (test k) (first_removed test es first)
  where
    by : (b : Bool) → HoldFirst (remove_entry test es) → HoldFirst (cond b es ((k, Some p) ∷ remove_entry test es))
    by true later = first
    by false later = later

first_taken : (n : ℕ) (es : List (ℕ × SlotContents)) → HoldFirst es → HoldFirst (take n es)
first_taken zero es first = tt
first_taken (suc n) [] first = tt
first_taken (suc n) ((k, None) ∷ es) none = none_taken n es none
first_taken (suc n) ((k, Some p) ∷ es) first = first_taken n es first

held_back : (es : List (ℕ × SlotContents)) (k : ℕ) → held_in (es ++ (k, None) ∷ []) ≡ held_in es
held_back [] k = refl
held_back (e ∷ es) k = ap (with_held e.1) (held_back es k)

first_back : (es : List (ℕ × SlotContents)) (k : ℕ) → HoldFirst es → HoldFirst (es ++ (k, None) ∷ [])
first_back [] k first = refl
first_back ((j, None) ∷ es) k none = held_back es k ∙ none
first_back ((j, Some p) ∷ es) k first = first_back es k first

length_back : (es : List (ℕ × SlotContents)) (k : ℕ) → length (es ++ (k, None) ∷ []) ≡ suc (length es)
length_back [] k = refl
length_back (e ∷ es) k = ap suc (length_back es k)

length_removed : (k : ℕ) (e : ℕ × SlotContents) (es : List (ℕ × SlotContents)) → lookup_entry (nat_eq k) es ≡ Some e → suc (length (remove_entry (nat_eq k) es)) ≡ length es
length_removed k e [] at = cc
length_removed k e (f ∷ es) at = by (nat_eq k f.0) at (length_removed k e es)
  where
    by : (b : Bool) → cond b (Some f) (lookup_entry (nat_eq k) es) ≡ Some e → (lookup_entry (nat_eq k) es ≡ Some e → suc (length (remove_entry (nat_eq k) es)) ≡ length es)
        → suc (length (cond b es (f ∷ remove_entry (nat_eq k) es))) ≡ suc (length es)
    by true at later = refl
    by false at later = ap suc (later at)

-- each page has a slot
pub held_most : (es : List (ℕ × SlotContents)) → length (held_in es) ≤ length es
held_most [] = omega arith
held_most ((k, None) ∷ es) = let later = held_most es in omega (arith, later)
held_most ((k, Some p) ∷ es) = let later = held_most es in omega (arith, later)

-- ---- a page is brought to the front

-- the slot of a page, and none
front : (k : ℕ) (name : PageName) (page : PageName × PlainPage) (es : List (ℕ × SlotContents)) → IsAt k name page es → promoted (nat_eq k) es ≡ (k, Some page) ∷ remove_entry (nat_eq k) es
front k name page es at = ap (λ (o : Option (ℕ × SlotContents)). option_map_or (λ e. e ∷ remove_entry (nat_eq k) es) o es) at.entry

pub brought : (k : ℕ) (name : PageName) (page : PageName × PlainPage) (es : List (ℕ × SlotContents)) → IsAt k name page es → held_in (promoted (nat_eq k) es) ≡ promoted (is_name name) (held_in es)
brought k name page es at =
    ap held_in (front k name page es at)
    ∙ ap (λ (l : List (PageName × PlainPage)). page ∷ l) at.rest
    ∙ sym (ap (λ (o : Option (PageName × PlainPage)). option_map_or (λ e. e ∷ remove_entry (is_name name) (held_in es)) o (held_in es)) at.held)

pub brought_slots : (k : ℕ) (name : PageName) (page : PageName × PlainPage) (es : List (ℕ × SlotContents)) → IsAt k name page es → AreSlots es → AreSlots (promoted (nat_eq k) es)
brought_slots k name page es at slots = subst AreSlots (sym (front k name page es at)) (record {
  all = length_removed k (k, Some page) es at.entry ∙ slots.all;
  first = first_removed (nat_eq k) es slots.first;
})

pub not_brought : (name : PageName) (pages : List (PageName × PlainPage)) → lookup (is_name name) pages ≡ None → promoted (is_name name) pages ≡ pages
not_brought name pages none =
    ap (λ (o : Option (PageName × PlainPage)). option_map_or (λ e. e ∷ remove_entry (is_name name) pages) o pages)
    (absent_entry (lookup_entry (is_name name) pages) (lookup-lookup_entry (is_name name) pages ∙ none))

-- ---- a page is taken out

-- its slot comes to the front without a page, and then behind all others
pub put_behind : (k : ℕ) (es : List (ℕ × SlotContents)) → demoted (nat_eq k) ((k, None) ∷ remove_entry (nat_eq k) es) ≡ emptied k es
put_behind k es =
    ap (λ (b : Bool). option_map_or (λ e. cond b (remove_entry (nat_eq k) es) ((k, None) ∷ remove_entry (nat_eq k) (remove_entry (nat_eq k) es)) ++ e ∷ [])
    (cond b (Some (k, None)) (lookup_entry (nat_eq k) (remove_entry (nat_eq k) es))) ((k, None) ∷ remove_entry (nat_eq k) es)) (nat_itself k)

pub taken_held : (k : ℕ) (name : PageName) (page : PageName × PlainPage) (es : List (ℕ × SlotContents)) → IsAt k name page es
    → held_in (emptied k es) ≡ remove_entry (is_name name) (held_in es)
taken_held k name page es at = held_back (remove_entry (nat_eq k) es) k ∙ at.rest

pub taken_slots : (k : ℕ) (name : PageName) (page : PageName × PlainPage) (es : List (ℕ × SlotContents)) → IsAt k name page es → AreSlots es → AreSlots (emptied k es)
taken_slots k name page es at slots = record {
  all = length_back (remove_entry (nat_eq k) es) k ∙ length_removed k (k, Some page) es at.entry ∙ slots.all;
  first = first_back (remove_entry (nat_eq k) es) k (first_removed (nat_eq k) es slots.first);
}

-- a value put under a number that is there
pub put_there : (cache : LruCache ℕ SlotContents) (k : ℕ) (h : SlotContents) (e : ℕ × SlotContents) → lookup_entry (nat_eq k) cache.entries ≡ Some e → put_entries nat_eq cache k h ≡ (k, h) ∷ remove_entry (nat_eq k) cache.entries
put_there cache k h e at =
    let same : e.0 ≡ k = let test : nat_eq k e.0 ≡ true = (Contains-lookup_entry (nat_eq k) cache.entries e at).1 in grind (arith, nat_tests) in
    ap (λ (o : Option (ℕ × SlotContents)). option_map_or (λ x. (x.0, h) ∷ remove_entry (nat_eq k) cache.entries) o ((k, h) ∷ take (cache.cap - 1) cache.entries)) at
    ∙ ap (λ (n : ℕ). (n, h) ∷ remove_entry (nat_eq k) cache.entries) same

-- ---- a page is put into the last slot

pub last_slot : (es : List (ℕ × SlotContents)) (n : ℕ) (e : ℕ × SlotContents) → length es ≡ suc n → IsDistinct nat_eq (keys_of es) → slice_get es n ≡ Some e
    → (lookup_entry (nat_eq e.0) es ≡ Some e) × (remove_entry (nat_eq e.0) es ≡ take n es)
unfolding IsDistinct
last_slot [] n e long apart at = cc
last_slot (f ∷ []) zero e long apart at =
    let same : f ≡ e = cc in
    subst (λ (x : ℕ × SlotContents). (lookup_entry (nat_eq x.0) (f ∷ []) ≡ Some x) × (remove_entry (nat_eq x.0) (f ∷ []) ≡ [])) same
    (ap (λ (b : Bool). cond b (Some f) None) (nat_itself f.0), ap (λ (b : Bool). cond b [] (f ∷ [])) (nat_itself f.0))
last_slot (f ∷ []) (suc n) e long apart at = absurd (omega arith)
last_slot (f ∷ g ∷ es) zero e long apart at = absurd (omega arith)
last_slot (f ∷ g ∷ es) (suc n) e long apart at =
    let later = last_slot (g ∷ es) n e (omega arith) apart.1 at in
    let other : nat_eq e.0 f.0 ≡ false = differs (g ∷ es) f.0 e.0 e.1 apart.0 later.0 in (
      ap (λ (b : Bool). cond b (Some f) (lookup_entry (nat_eq e.0) (g ∷ es))) other ∙ later.0,
      ap (λ (b : Bool). cond b (g ∷ es) (f ∷ remove_entry (nat_eq e.0) (g ∷ es))) other ∙ ap (λ (l : List (ℕ × SlotContents)). f ∷ l) later.1,
    )

pub last_of : (es : List (ℕ × SlotContents)) (e : ℕ × SlotContents) → AreSlots es → IsDistinct nat_eq (keys_of es) → last_entry es ≡ Some e → (lookup_entry (nat_eq e.0) es ≡ Some e) × (remove_entry (nat_eq e.0) es ≡ take 63 es)
last_of es e slots apart at = last_slot es 63 e slots.all apart (sym (ap (λ (n : ℕ). slice_get es (n - 1)) slots.all) ∙ at)

held_taken : (n : ℕ) (es : List (ℕ × SlotContents)) → HoldFirst es → length es ≡ suc n → held_in (take n es) ≡ take n (held_in es)
held_taken n [] first long = absurd (omega arith)
held_taken zero (e ∷ es) first long = refl
held_taken (suc n) ((k, None) ∷ es) none long = none_taken n es none ∙ sym (ap (take (suc n)) none)
held_taken (suc n) ((k, Some p) ∷ es) first long = ap (λ (l : List (PageName × PlainPage)). p ∷ l) (held_taken n es first (omega arith))

length_taken : (n : ℕ) (es : List (ℕ × SlotContents)) → length es ≡ suc n → length (take n es) ≡ n
length_taken zero es long = refl
length_taken (suc n) [] long = absurd (omega arith)
length_taken (suc n) (e ∷ es) long = ap suc (length_taken n es (omega arith))

pub put_last : (k : ℕ) (name : PageName) (page : PlainPage) (es : List (ℕ × SlotContents)) → AreSlots es → held_in ((k, Some (name, page)) ∷ take 63 es) ≡ admitted name page (held_in es)
put_last k name page es slots = ap (λ (l : List (PageName × PlainPage)). (name, page) ∷ l) (held_taken 63 es slots.first slots.all)

pub put_slots : (k : ℕ) (h : PageName × PlainPage) (es : List (ℕ × SlotContents)) → AreSlots es → AreSlots ((k, Some h) ∷ take 63 es)
put_slots k h es slots = record { all = ap suc (length_taken 63 es slots.all); first = first_taken 63 es slots.first }

-- ---- slots without a page

pub length_empty : (n : ℕ) → length (empty_slots n) ≡ n
length_empty zero = refl
length_empty (suc n) = ap suc (length_empty n)

pub held_empty : (n : ℕ) → held_in (empty_slots n) ≡ []
held_empty zero = refl
held_empty (suc n) = held_empty n

pub empty_first : (n : ℕ) → HoldFirst (empty_slots n)
empty_first n = none_first (empty_slots n) (held_empty n)

-- a number that no slot has
pub no_slot : (k n : ℕ) → n ≤ k → lookup_entry (nat_eq k) (empty_slots n) ≡ None
no_slot k zero le = refl
no_slot k (suc n) le =
    let other : nat_eq k n ≡ false = grind (arith, nat_tests) in
    ap (λ (b : Bool). cond b (Some (n, None)) (lookup_entry (nat_eq k) (empty_slots n))) other ∙ no_slot k n (omega arith)

pub all_empty : AreSlots (empty_slots 64)
all_empty = record { all = length_empty 64; first = empty_first 64 }

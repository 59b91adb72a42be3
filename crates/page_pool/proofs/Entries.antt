-- Dirty pages that are entered, stamped anew and taken out.
use Rattle.std.proofs.Common.{◌≡◌, ℕ, zero, suc, ◌+◌, ◌<◌, ◌≤◌, Bool, true, false, nat_eq, not, cond, ◌||◌, if◌then◌else◌, List, [], ◌∷◌, length, get_or, set, refl, sym, ◌∙◌, ap, subst, arith}
use Rattle.std.specs.List.{insert, remove, list_any}
use Rattle.std.proofs.lemmas.Bool.Decides.{nat_tests}
use Rattle.page_pool.specs.declared.names.DirtyPage.{DirtyPage}
use Rattle.page_pool.specs.declared.names.PageName.{PageName}
use Rattle.std.proofs.lemmas.List.Edits.{length-insert, length-remove}
use Rattle.std.proofs.lemmas.List.Sums.{prefix_len-le-length}
use Rattle.redo_text.specs.declared.change.Change.{Change}
use Rattle.store_model.specs.declared.contents.PlainPage.{PlainPage}
use Rattle.page_pool.specs.Pages.{AreInOrder, AreNamedOnce, DirtyList, IsDirtyList, comes_before, entered, entry_place, is_dirty, is_named, name_of_dirty, place_of, without}
use Rattle.page_pool.specs.Changes.{changed_again, changed_at, is_dirty_at, page_changed_by, stamped}
use Rattle.page_pool.proofs.Lists.{both_false, neither, any_insert, any_weaker, any_removed}

-- ---- the order

comes_once : (d e : DirtyPage) → comes_before d e ≡ true → comes_before e d ≡ false
comes_once d e h = grind (arith, nat_tests)

comes_after : (x e d : DirtyPage) → comes_before x e ≡ false → comes_before e d ≡ false → comes_before x d ≡ false
comes_after x e d h k = grind (arith, nat_tests)

pub in_order_entered : (d : DirtyPage) (ds : List DirtyPage) → AreInOrder ds → AreInOrder (insert ds (entry_place d ds) d)
in_order_entered d [] o = (refl, tt)
in_order_entered d (e ∷ ds) o = by (comes_before e d) refl (in_order_entered d ds o.1)
  where
    by : (b : Bool) → comes_before e d ≡ b → AreInOrder (insert ds (entry_place d ds) d) → AreInOrder (insert (e ∷ ds) (cond b (1 + entry_place d ds) 0) d)
    by true is later =
        let one : suc (entry_place d ds) ≡ 1 + entry_place d ds = omega arith in
        subst (λ (k : ℕ). AreInOrder (insert (e ∷ ds) k d)) one
        (any_insert (λ (x : DirtyPage). comes_before x e) ds (entry_place d ds) d ∙ neither (comes_before d e) (list_any (λ (x : DirtyPage). comes_before x e) ds) (comes_once e d is) o.0, later)
    by false is later = (
      neither (comes_before e d) (list_any (λ (x : DirtyPage). comes_before x d) ds) is
          (any_weaker (λ (x : DirtyPage). comes_before x e) (λ (x : DirtyPage). comes_before x d) (λ x h. comes_after x e d h is) ds o.0),
      o,
    )

pub in_order_removed : (ds : List DirtyPage) (i : ℕ) → AreInOrder ds → AreInOrder (remove ds i)
in_order_removed [] zero o = tt
in_order_removed [] (suc i) o = tt
in_order_removed (d ∷ ds) zero o = o.1
in_order_removed (d ∷ ds) (suc i) o = (any_removed (λ (x : DirtyPage). comes_before x d) ds i o.0, in_order_removed ds i o.1)

-- the first block of the first is the least
pub first_least : (d : DirtyPage) (ds : List DirtyPage) → list_any (λ (e : DirtyPage). comes_before e d) ds ≡ false → (k : ℕ) (x : DirtyPage) → k < length ds → d.first ≤ (get_or ds k x).first
first_least d [] none k x lt = absurd (omega arith)
first_least d (e ∷ ds) none zero x lt = let not_before : comes_before e d ≡ false = (both_false (comes_before e d) (list_any (λ (y : DirtyPage). comes_before y d) ds) none).0 in grind (arith, nat_tests)
first_least d (e ∷ ds) none (suc k) x lt = first_least d ds (both_false (comes_before e d) (list_any (λ (y : DirtyPage). comes_before y d) ds) none).1 k x (omega arith)

-- ---- names

named_back : (d e : DirtyPage) → is_named (name_of_dirty d) e ≡ false → is_named (name_of_dirty e) d ≡ false
named_back d e h = grind (arith, nat_tests)

named_same : (name : PageName) (d e : DirtyPage) → is_named name d ≡ true → is_named (name_of_dirty d) e ≡ false → is_named name e ≡ false
named_same name d e is h = grind (arith, nat_tests)

pub once_entered : (d : DirtyPage) (ds : List DirtyPage) (i : ℕ) → list_any (is_named (name_of_dirty d)) ds ≡ false → AreNamedOnce ds → AreNamedOnce (insert ds i d)
once_entered d ds zero none o = (none, o)
once_entered d [] (suc i) none o = (refl, tt)
once_entered d (e ∷ ds) (suc i) none o =
    let each = both_false (is_named (name_of_dirty d) e) (list_any (is_named (name_of_dirty d)) ds) none in
    (any_insert (is_named (name_of_dirty e)) ds i d ∙ neither (is_named (name_of_dirty e) d) (list_any (is_named (name_of_dirty e)) ds) (named_back d e each.0) o.0, once_entered d ds i each.1 o.1)

pub once_removed : (ds : List DirtyPage) (i : ℕ) → AreNamedOnce ds → AreNamedOnce (remove ds i)
once_removed [] zero o = tt
once_removed [] (suc i) o = tt
once_removed (d ∷ ds) zero o = o.1
once_removed (d ∷ ds) (suc i) o = (any_removed (is_named (name_of_dirty d)) ds i o.0, once_removed ds i o.1)

-- the page that is taken out is there no more
pub name_removed : (name : PageName) (ds : List DirtyPage) → AreNamedOnce ds → place_of name ds < length ds → list_any (is_named name) (remove ds (place_of name ds)) ≡ false
name_removed name [] o lt = absurd (omega arith)
name_removed name (d ∷ ds) o lt = by (is_named name d) refl lt (name_removed name ds o.1)
  where
    by : (b : Bool) → is_named name d ≡ b → cond (not b) (1 + place_of name ds) 0 < suc (length ds) → (place_of name ds < length ds → list_any (is_named name) (remove ds (place_of name ds)) ≡ false)
        → list_any (is_named name) (remove (d ∷ ds) (cond (not b) (1 + place_of name ds) 0)) ≡ false
    by true is below later = any_weaker (is_named (name_of_dirty d)) (is_named name) (λ e h. named_same name d e is h) ds o.0
    by false is below later =
        let one : suc (place_of name ds) ≡ 1 + place_of name ds = omega arith in
        subst (λ (k : ℕ). list_any (is_named name) (remove (d ∷ ds) k) ≡ false) one (neither (is_named name d) (list_any (is_named name) (remove ds (place_of name ds))) is (later (omega arith)))

-- ---- stamps

with_lsn : ℕ → DirtyPage → DirtyPage
with_lsn lsn d = record { space = d.space; page = d.page; first = d.first; lsn = lsn }

-- a test that doesn't look at LSNs
pub any_stamped : (p : DirtyPage → Bool) → ((d : DirtyPage) (lsn : ℕ) → p (record { space = d.space; page = d.page; first = d.first; lsn = lsn }) ≡ p d) → (name : PageName) (lsn : ℕ) (ds : List DirtyPage) → list_any p (stamped name lsn ds) ≡ list_any p ds
any_stamped p same name lsn [] = refl
any_stamped p same name lsn (d ∷ ds) = by (is_named name d) (any_stamped p same name lsn ds)
  where
    by : (b : Bool) → list_any p (stamped name lsn ds) ≡ list_any p ds → list_any p (if b then (record { space = d.space; page = d.page; first = d.first; lsn = lsn }) ∷ ds else d ∷ stamped name lsn ds) ≡ (p d || list_any p ds)
    by true later = ap (λ (b : Bool). b || list_any p ds) (same d lsn)
    by false later = ap (λ (b : Bool). p d || b) later

pub length-stamped : (name : PageName) (lsn : ℕ) (ds : List DirtyPage) → length (stamped name lsn ds) ≡ length ds
length-stamped name lsn [] = refl
length-stamped name lsn (d ∷ ds) = by (is_named name d) (length-stamped name lsn ds)
  where
    by : (b : Bool) → length (stamped name lsn ds) ≡ length ds → length (if b then (record { space = d.space; page = d.page; first = d.first; lsn = lsn }) ∷ ds else d ∷ stamped name lsn ds) ≡ suc (length ds)
    by true later = refl
    by false later = ap (λ (n : ℕ). suc n) later

pub in_order_stamped : (name : PageName) (lsn : ℕ) (ds : List DirtyPage) → AreInOrder ds → AreInOrder (stamped name lsn ds)
in_order_stamped name lsn [] o = tt
in_order_stamped name lsn (d ∷ ds) o = by (is_named name d) (in_order_stamped name lsn ds o.1)
  where
    by : (b : Bool) → AreInOrder (stamped name lsn ds) → AreInOrder (if b then (record { space = d.space; page = d.page; first = d.first; lsn = lsn }) ∷ ds else d ∷ stamped name lsn ds)
    by true later = o
    by false later = (any_stamped (λ (e : DirtyPage). comes_before e d) (λ e n. refl) name lsn ds ∙ o.0, later)

pub once_stamped : (name : PageName) (lsn : ℕ) (ds : List DirtyPage) → AreNamedOnce ds → AreNamedOnce (stamped name lsn ds)
once_stamped name lsn [] o = tt
once_stamped name lsn (d ∷ ds) o = by (is_named name d) (once_stamped name lsn ds o.1)
  where
    by : (b : Bool) → AreNamedOnce (stamped name lsn ds) → AreNamedOnce (if b then (record { space = d.space; page = d.page; first = d.first; lsn = lsn }) ∷ ds else d ∷ stamped name lsn ds)
    by true later = o
    by false later = (any_stamped (is_named (name_of_dirty d)) (λ e n. refl) name lsn ds ∙ o.0, later)

-- an LSN is written at the place of a page
pub stamped_at : (name : PageName) (lsn : ℕ) (ds : List DirtyPage) (x : DirtyPage) → place_of name ds < length ds → x ≡ get_or ds (place_of name ds) x
    → set ds (place_of name ds) (record { space = x.space; page = x.page; first = x.first; lsn = lsn }) ≡ stamped name lsn ds
stamped_at name lsn [] x lt is = absurd (omega arith)
stamped_at name lsn (d ∷ ds) x lt is = by (is_named name d) lt is (stamped_at name lsn ds x)
  where
    by : (b : Bool) → cond (not b) (1 + place_of name ds) 0 < suc (length ds) → x ≡ get_or (d ∷ ds) (cond (not b) (1 + place_of name ds) 0) x
        → (place_of name ds < length ds → x ≡ get_or ds (place_of name ds) x → set ds (place_of name ds) (record { space = x.space; page = x.page; first = x.first; lsn = lsn }) ≡ stamped name lsn ds)
        → set (d ∷ ds) (cond (not b) (1 + place_of name ds) 0) (record { space = x.space; page = x.page; first = x.first; lsn = lsn })
        ≡ (if b then (record { space = d.space; page = d.page; first = d.first; lsn = lsn }) ∷ ds else d ∷ stamped name lsn ds)
    by true below here later = ap (λ (y : DirtyPage). (record { space = y.space; page = y.page; first = y.first; lsn = lsn }) ∷ ds) here
    by false below here later =
        let one : 1 + place_of name ds ≡ suc (place_of name ds) = omega arith in
        let found : x ≡ get_or (d ∷ ds) (suc (place_of name ds)) x = subst (λ (k : ℕ). x ≡ get_or (d ∷ ds) k x) one here in
        ap (λ (k : ℕ). set (d ∷ ds) k (record { space = x.space; page = x.page; first = x.first; lsn = lsn })) one
        ∙ ap (λ (l : List DirtyPage). d ∷ l) (later (omega arith) found)

-- the page at its place is dirty at its LSN
pub dirty_at_place : (name : PageName) (lsn : ℕ) (ds : List DirtyPage) (x : DirtyPage) → place_of name ds < length ds → x ≡ get_or ds (place_of name ds) x → is_dirty_at name lsn ds ≡ nat_eq x.lsn lsn
dirty_at_place name lsn [] x lt is = absurd (omega arith)
dirty_at_place name lsn (d ∷ ds) x lt is = by (is_named name d) lt is (dirty_at_place name lsn ds x)
  where
    by : (b : Bool) → cond (not b) (1 + place_of name ds) 0 < suc (length ds) → x ≡ get_or (d ∷ ds) (cond (not b) (1 + place_of name ds) 0) x
        → (place_of name ds < length ds → x ≡ get_or ds (place_of name ds) x → is_dirty_at name lsn ds ≡ nat_eq x.lsn lsn)
        → (if b then nat_eq d.lsn lsn else is_dirty_at name lsn ds) ≡ nat_eq x.lsn lsn
    by true below here later = ap (λ (y : DirtyPage). nat_eq y.lsn lsn) (sym here)
    by false below here later =
        let one : 1 + place_of name ds ≡ suc (place_of name ds) = omega arith in
        let found : x ≡ get_or (d ∷ ds) (suc (place_of name ds)) x = subst (λ (k : ℕ). x ≡ get_or (d ∷ ds) k x) one here in
        later (omega arith) found

pub not_dirty_at : (name : PageName) (lsn : ℕ) (ds : List DirtyPage) → list_any (is_named name) ds ≡ false → is_dirty_at name lsn ds ≡ false
not_dirty_at name lsn [] none = refl
not_dirty_at name lsn (d ∷ ds) none =
    let each = both_false (is_named name d) (list_any (is_named name) ds) none in
    ap (λ (b : Bool). if b then nat_eq d.lsn lsn else is_dirty_at name lsn ds) each.0 ∙ not_dirty_at name lsn ds each.1

-- ---- the whole list

pub changed_at_is : (f : PlainPage → PlainPage) (ps : List PlainPage) (i : ℕ) (x y : PlainPage) → i < length ps → x ≡ get_or ps i x → y ≡ f x → set ps i y ≡ changed_at i f ps
changed_at_is f [] i x y lt is new = absurd (omega arith)
changed_at_is f (p ∷ ps) zero x y lt is new = ap (λ (q : PlainPage). q ∷ ps) (new ∙ ap f is)
changed_at_is f (p ∷ ps) (suc i) x y lt is new = ap (λ (l : List PlainPage). p ∷ l) (changed_at_is f ps i x y (omega arith) is new)

pub length-changed_at : (f : PlainPage → PlainPage) (i : ℕ) (ps : List PlainPage) → length (changed_at i f ps) ≡ length ps
length-changed_at f zero [] = refl
length-changed_at f (suc i) [] = refl
length-changed_at f zero (p ∷ ps) = refl
length-changed_at f (suc i) (p ∷ ps) = ap (λ (n : ℕ). suc n) (length-changed_at f i ps)

pub same_list : (a b : DirtyList) → a.entries ≡ b.entries → a.pages ≡ b.pages → a ≡ b
same_list a b entries pages = λ i. record { entries = entries i; pages = pages i }

pub is_list_entered : (list : DirtyList) (d : DirtyPage) (page : PlainPage) → IsDirtyList list → length list.entries < 256 → is_dirty (name_of_dirty d) list ≡ false → IsDirtyList (entered d page list)
is_list_entered list d page is room none =
    let place : entry_place d list.entries ≤ length list.entries = prefix_len-le-length (λ (e : DirtyPage). comes_before e d) list.entries in
    let e : length (insert list.entries (entry_place d list.entries) d) ≡ length list.entries + 1 = length-insert list.entries (entry_place d list.entries) d place in
    let p : length (insert list.pages (entry_place d list.entries) page) ≡ length list.pages + 1 = length-insert list.pages (entry_place d list.entries) page (omega (arith, place, is.one_each)) in
    record {
      one_each = omega (arith, e, p, is.one_each);
      most = omega (arith, e);
      in_order = in_order_entered d list.entries is.in_order;
      apart = once_entered d list.entries (entry_place d list.entries) none is.apart;
    }

pub is_list_without : (list : DirtyList) (i : ℕ) → IsDirtyList list → i < length list.entries → IsDirtyList (without i list)
is_list_without list i is lt =
    let e : length (remove list.entries i) + 1 ≡ length list.entries = length-remove list.entries i lt in
    let p : length (remove list.pages i) + 1 ≡ length list.pages = length-remove list.pages i (omega (arith, lt, is.one_each)) in
    record {
      one_each = omega (arith, e, p, is.one_each);
      most = omega (arith, e, is.most);
      in_order = in_order_removed list.entries i is.in_order;
      apart = once_removed list.entries i is.apart;
    }

pub is_list_changed : (list : DirtyList) (name : PageName) (lsn : ℕ) (c : Change) → IsDirtyList list → IsDirtyList (changed_again name lsn c list)
is_list_changed list name lsn c is = record {
  one_each = length-changed_at (page_changed_by c) (place_of name list.entries) list.pages ∙ is.one_each ∙ sym (length-stamped name lsn list.entries);
  most = subst (λ (n : ℕ). n ≤ 256) (sym (length-stamped name lsn list.entries)) is.most;
  in_order = in_order_stamped name lsn list.entries is.in_order;
  apart = once_stamped name lsn list.entries is.apart;
}

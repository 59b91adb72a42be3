-- Copies of dirty pages, one by one.
use Rattle.std.proofs.Common.{◌≡◌, ◌≢◌, ℕ, zero, suc, ◌+◌, ◌-◌, ◌<◌, ◌≤◌, Bool, true, false, true≢false, eq-eqb, ne_eqb, if◌then◌else◌, nat_eq, ◌||◌, ◌&&◌, nat_lt, is_some, List, [], ◌∷◌, ◌++◌, length, map, take, drop, get_or, slice_get, Option, Some, None, refl, sym, ap, ◌∙◌, subst, arith, append_assoc, append-nil, length-append}
use Rattle.std.specs.List.{list_any}
use Rattle.std.specs.Map.{lookup}
use Rattle.std.proofs.lemmas.Bool.Decides.{nat_tests}
use Rattle.std.proofs.lemmas.List.{drop_all}
use Rattle.byte_list.proofs.RangeLaws.{drop_item}
use Rattle.byte_list.specs.Bytes.{range}
use Rattle.byte_list.specs.Fields.{be16_at}
use Rattle.page_batch.specs.Batch.{BatchState, CopiedPage, HasPageType}
use Rattle.page_pool.proofs.Cleans.{absent_lookup, dirty_absent}
use Rattle.page_pool.proofs.Slots.{not_brought}
use Rattle.page_pool.specs.Changes.{found_page}
use Rattle.page_pool.specs.Pages.{IsPool, PoolState, held_page, is_dirty, is_held, is_name, is_named, name_of_dirty, plain_page}
use Rattle.page_pool.specs.declared.names.DirtyPage.{DirtyPage}
use Rattle.page_pool.specs.declared.names.PageName.{PageName}
use Rattle.page_text.specs.Parts.{body}
use Rattle.page_text.specs.Text.{Plain, plain_of}
use Rattle.store_model.specs.Fold.{used}
use Rattle.store_model.specs.declared.contents.PlainPage.{PlainPage}
use Rattle.session_core.specs.Dirty.{AreTyped}
use Rattle.session_core.specs.Taking.{copied_of, dirty_of, plain_of_page, with_copy}

-- a dirty page is found where it is, and nothing of the pool changes
pub found_dirty : (name : PageName) (pool : PoolState) → IsPool pool → is_dirty name pool.dirty ≡ true → found_page name pool ≡ pool
found_dirty name pool kept dirty =
    let none : lookup (is_name name) pool.clean ≡ None = absent_lookup (lookup (is_name name) pool.clean) (dirty_absent pool.dirty pool.clean name kept.apart dirty) in
    ap (λ (clean : List (PageName × PlainPage)). record { dirty = pool.dirty; clean = clean }) (not_brought name pool.clean none)

-- and it is held
pub dirty_held : (name : PageName) (pool : PoolState) → is_dirty name pool.dirty ≡ true → is_held name pool ≡ true
dirty_held name pool dirty = ap (λ (b : Bool). b || is_some (lookup (is_name name) pool.clean)) dirty

-- the plain page in a page's bytes, in the words of both layers
pub plain_same : (bytes : List ℕ) → length bytes ≡ 16384 → plain_of bytes ≡ plain_of_page (plain_page bytes)
unfolding plain_page
plain_same bytes long = ap (λ (n : ℕ). record { kind = be16_at bytes 24; bytes = range 38 (n - 8 - 38) bytes }) long

pub copied_is : (pool : PoolState) (d : DirtyPage) (bytes : List ℕ) → length bytes ≡ 16384 → held_page (name_of_dirty d) pool ≡ Some (plain_page bytes) → record { page = d.page; lsn = d.lsn; plain = plain_of bytes } ≡ copied_of pool d
copied_is pool d bytes long held =
    ap (λ (p : Plain). record { page = d.page; lsn = d.lsn; plain = p }) (plain_same bytes long)
    ∙ ap (λ (o : Option PlainPage). record { page = d.page; lsn = d.lsn; plain = plain_of_page (used o) }) (sym held)

pub typed_copy : (pool : PoolState) (d : DirtyPage) (bytes : List ℕ) → AreTyped pool → held_page (name_of_dirty d) pool ≡ Some (plain_page bytes) → HasPageType d.page (be16_at bytes 24)
unfolding plain_page
typed_copy pool d bytes typed held = typed (name_of_dirty d) (plain_page bytes) held

-- each page that is listed is dirty
pub listed_dirty : (ds : List DirtyPage) (i : ℕ) (d : DirtyPage) → i < length ds → d ≡ get_or ds i d → list_any (is_named (name_of_dirty d)) ds ≡ true
listed_dirty [] i d lt is = absurd (omega (arith, lt))
listed_dirty (x ∷ ds) zero d lt is =
    let space : x.space ≡ d.space = ap (λ (e : DirtyPage). e.space) (sym is) in
    let page : x.page ≡ d.page = ap (λ (e : DirtyPage). e.page) (sym is) in
    ap (λ (b : Bool). b || list_any (is_named (name_of_dirty d)) ds) (ap (λ (b : Bool). b && nat_eq x.page d.page) (eq-eqb x.space d.space space) ∙ eq-eqb x.page d.page page)
listed_dirty (x ∷ ds) (suc i) d lt is = by (is_named (name_of_dirty d) x) (listed_dirty ds i d (omega (arith, lt)) is)
  where
    by : (b : Bool) → list_any (is_named (name_of_dirty d)) ds ≡ true → (b || list_any (is_named (name_of_dirty d)) ds) ≡ true
    by true later = refl
    by false later = later

and_no : (a : Bool) → (a && false) ≡ false
and_no true = refl
and_no false = refl

pub copy_other : (pool : PoolState) (d : DirtyPage) (b : BatchState) → d.space ≢ b.space → b ≡ with_copy pool d b
copy_other pool d b other = ap (λ (t : Bool). if t && nat_lt (length b.pages) b.room then record b { pages = b.pages ++ copied_of pool d ∷ [] } else b) (sym (ne_eqb d.space b.space other))

pub copy_full : (pool : PoolState) (d : DirtyPage) (b : BatchState) → b.room ≤ length b.pages → b ≡ with_copy pool d b
copy_full pool d b full =
    let none : nat_lt (length b.pages) b.room ≡ false = grind (arith, nat_tests) in
    ap (λ (t : Bool). if t then record b { pages = b.pages ++ copied_of pool d ∷ [] } else b) (sym (ap (λ (t : Bool). nat_eq d.space b.space && t) none ∙ and_no (nat_eq d.space b.space)))

pub copy_added : (pool : PoolState) (d : DirtyPage) (b : BatchState) → d.space ≡ b.space → length b.pages < b.room → record b { pages = b.pages ++ copied_of pool d ∷ [] } ≡ with_copy pool d b
copy_added pool d b same some =
    let here : nat_lt (length b.pages) b.room ≡ true = grind (arith, nat_tests) in
    ap (λ (t : Bool). if t then record b { pages = b.pages ++ copied_of pool d ∷ [] } else b) (sym (ap (λ (t : Bool). t && nat_lt (length b.pages) b.room) (eq-eqb d.space b.space same) ∙ here))

-- ---- those of a space, as many as there is room for

pub record IsCopied (pool : PoolState) (start now : BatchState) (i : ℕ) : Type 0 where
  pub same : now ≡ record start { pages = now.pages }
  pub all : now.pages ++ map (copied_of pool) (take (start.room - length now.pages) (dirty_of start.space (drop i pool.dirty.entries))) ≡ map (copied_of pool) (take start.room (dirty_of start.space pool.dirty.entries))

pub copied_none : (pool : PoolState) (start : BatchState) → start.pages ≡ [] → IsCopied pool start start 0
copied_none pool start none = record {
  same = refl;
  all =
      let whole : start.room - 0 ≡ start.room = omega arith in
      ap (λ (l : List CopiedPage). l ++ map (copied_of pool) (take (start.room - length l) (dirty_of start.space pool.dirty.entries))) none
      ∙ ap (λ (n : ℕ). map (copied_of pool) (take n (dirty_of start.space pool.dirty.entries))) whole;
}

listed : (s i : ℕ) (ds : List DirtyPage) (d : DirtyPage) → i < length ds → d ≡ get_or ds i d → dirty_of s (drop i ds) ≡ (if nat_eq d.space s then d ∷ dirty_of s (drop (i + 1) ds) else dirty_of s (drop (i + 1) ds))
listed s i ds d lt is = ap (dirty_of s) (drop_item ds i d lt is)

one_taken : (k : ℕ) (d : DirtyPage) (ds : List DirtyPage) → 0 < k → take k (d ∷ ds) ≡ d ∷ take (k - 1) ds
one_taken zero d ds some = absurd (omega (arith, some))
one_taken (suc k) d ds some = let e : suc k - 1 ≡ k = omega arith in ap (λ (n : ℕ). d ∷ take n ds) (sym e)

pub copied_more : (pool : PoolState) (start now : BatchState) (i : ℕ) (d : DirtyPage) → i < length pool.dirty.entries → d ≡ get_or pool.dirty.entries i d → d.space ≡ start.space → length now.pages < start.room → IsCopied pool start now i
    → IsCopied pool start (record now { pages = now.pages ++ copied_of pool d ∷ [] }) (i + 1)
copied_more pool start now i d lt is space room so = record {
  same = ap (λ (b : BatchState). record b { pages = now.pages ++ copied_of pool d ∷ [] }) so.same;
  all =
      let ds = pool.dirty.entries in
      let rest : List DirtyPage = dirty_of start.space (drop (i + 1) ds) in
      let here : dirty_of start.space (drop i ds) ≡ d ∷ rest = listed start.space i ds d lt is ∙ ap (λ (b : Bool). if b then d ∷ rest else rest) (eq-eqb d.space start.space space) in
      let left : ℕ = start.room - length now.pages in
      let long : length (now.pages ++ copied_of pool d ∷ []) ≡ length now.pages + 1 = length-append now.pages (copied_of pool d ∷ []) in
      let fewer : start.room - length (now.pages ++ copied_of pool d ∷ []) ≡ left - 1 = omega (arith, long, room) in
      let some : 0 < left = omega (arith, room) in
      append_assoc now.pages (copied_of pool d ∷ []) (map (copied_of pool) (take (start.room - length (now.pages ++ copied_of pool d ∷ [])) rest))
      ∙ ap (λ (n : ℕ). now.pages ++ (copied_of pool d ∷ map (copied_of pool) (take n rest))) fewer
      ∙ ap (λ (l : List DirtyPage). now.pages ++ map (copied_of pool) l) (sym (ap (take left) here ∙ one_taken left d rest some))
      ∙ so.all;
}

pub copied_other : (pool : PoolState) (start now : BatchState) (i : ℕ) (d : DirtyPage) → i < length pool.dirty.entries → d ≡ get_or pool.dirty.entries i d → d.space ≢ start.space → IsCopied pool start now i → IsCopied pool start now (i + 1)
copied_other pool start now i d lt is other so = record {
  same = so.same;
  all =
      let ds = pool.dirty.entries in
      let rest : List DirtyPage = dirty_of start.space (drop (i + 1) ds) in
      let here : dirty_of start.space (drop i ds) ≡ rest = listed start.space i ds d lt is ∙ ap (λ (b : Bool). if b then d ∷ rest else rest) (ne_eqb d.space start.space other) in
      ap (λ (l : List DirtyPage). now.pages ++ map (copied_of pool) (take (start.room - length now.pages) l)) (sym here) ∙ so.all;
}

pub copied_full : (pool : PoolState) (start now : BatchState) (i j : ℕ) → start.room ≤ length now.pages → IsCopied pool start now i → IsCopied pool start now j
copied_full pool start now i j full so = record {
  same = so.same;
  all =
      let none : start.room - length now.pages ≡ 0 = omega (arith, full) in
      let to : (k : ℕ) → now.pages ++ map (copied_of pool) (take (start.room - length now.pages) (dirty_of start.space (drop k pool.dirty.entries))) ≡ now.pages ++ [] = λ k. ap (λ (n : ℕ). now.pages ++ map (copied_of pool) (take n (dirty_of start.space (drop k pool.dirty.entries)))) none in
      to j ∙ sym (to i) ∙ so.all;
}

pub copied_all : (pool : PoolState) (start now : BatchState) (i : ℕ) → length pool.dirty.entries ≤ i → IsCopied pool start now i → now ≡ record start { pages = map (copied_of pool) (take start.room (dirty_of start.space pool.dirty.entries)) }
copied_all pool start now i past so =
    let none : drop i pool.dirty.entries ≡ [] = drop_all i pool.dirty.entries past in
    let rest : now.pages ++ map (copied_of pool) (take (start.room - length now.pages) (dirty_of start.space (drop i pool.dirty.entries))) ≡ now.pages =
    ap (λ (l : List DirtyPage). now.pages ++ map (copied_of pool) (take (start.room - length now.pages) (dirty_of start.space l))) none ∙ nothing (start.room - length now.pages) in
    so.same ∙ ap (λ (l : List CopiedPage). record start { pages = l }) (sym rest ∙ so.all)
  where
    nothing : (n : ℕ) → now.pages ++ map (copied_of pool) (take n []) ≡ now.pages
    nothing zero = append-nil now.pages
    nothing (suc n) = append-nil now.pages

-- one page more of the list
pub copied_next : (pool : PoolState) (start now : BatchState) (i : ℕ) (d : DirtyPage) → i < length pool.dirty.entries → d ≡ get_or pool.dirty.entries i d → IsCopied pool start now i → IsCopied pool start (with_copy pool d now) (i + 1)
copied_next pool start now i d lt is so = by (nat_eq d.space now.space) refl (nat_lt (length now.pages) now.room) refl
  where
    space_same : now.space ≡ start.space
    space_same = ap (λ (b : BatchState). b.space) so.same

    room_same : now.room ≡ start.room
    room_same = ap (λ (b : BatchState). b.room) so.same

    by : (s : Bool) → nat_eq d.space now.space ≡ s → (t : Bool) → nat_lt (length now.pages) now.room ≡ t → IsCopied pool start (if s && t then record now { pages = now.pages ++ copied_of pool d ∷ [] } else now) (i + 1)
    by true here true some =
        let own : d.space ≡ now.space = grind (arith, nat_tests) in
        let below : length now.pages < now.room = grind (arith, nat_tests) in
        copied_more pool start now i d lt is (own ∙ space_same) (omega (arith, below, room_same)) so
    by true here false full =
        let over : now.room ≤ length now.pages = grind (arith, nat_tests) in
        copied_full pool start now i (i + 1) (omega (arith, over, room_same)) so
    by false other t some =
        let apart : d.space ≢ now.space = λ same. grind (arith, nat_tests) in
        copied_other pool start now i d lt is (λ same. apart (same ∙ sym space_same)) so

-- an element is the same whatever stands in for one that isn't there
pub get_or_any : (ds : List DirtyPage) (i : ℕ) (y z : DirtyPage) → i < length ds → get_or ds i y ≡ get_or ds i z
get_or_any [] i y z lt = absurd (omega (arith, lt))
get_or_any (x ∷ ds) zero y z lt = refl
get_or_any (x ∷ ds) (suc i) y z lt = get_or_any ds i y z (omega (arith, lt))

-- one page more, where the list is read anew
pub copied_at : (pool now_pool : PoolState) (listed : List DirtyPage) (start now new : BatchState) (i : ℕ) (z : DirtyPage) → now_pool ≡ pool → listed ≡ now_pool.dirty.entries → i < length pool.dirty.entries → new ≡ with_copy now_pool (get_or listed i z) now → IsCopied pool start now i
    → IsCopied pool start new (i + 1)
copied_at pool now_pool listed start now new i z same_pool same lt new_is so =
    let entry : DirtyPage = get_or pool.dirty.entries i z in
    let list_is : listed ≡ pool.dirty.entries = same ∙ ap (λ (p : PoolState). p.dirty.entries) same_pool in
    let is : new ≡ with_copy pool entry now = new_is ∙ ap (λ (p : PoolState). with_copy p (get_or listed i z) now) same_pool ∙ ap (λ (l : List DirtyPage). with_copy pool (get_or l i z) now) list_is in
    subst (λ (b : BatchState). IsCopied pool start b (i + 1)) (sym is) (copied_next pool start now i entry lt (get_or_any pool.dirty.entries i z entry lt) so)

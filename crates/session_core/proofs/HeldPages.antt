-- What a pool holds of each page behind a read, and that it has the type that its number may have.
use Rattle.std.proofs.Common.{◌≡◌, ◌≢◌, ◌⊎◌, ℕ, zero, suc, Bool, true, false, true≢false, cond, if◌then◌else◌, nat_eq, ◌&&◌, ◌||◌, ◌-◌, is_some, List, [], ◌∷◌, length, take, slice_get, Option, Some, None, Result, Ok, refl, sym, ap, ◌∙◌, subst, inl, inr, arith}
use Rattle.std.specs.Prelude.{MatchBool}
use Rattle.std.specs.Int.{from_be_bytes, w16}
use Rattle.std.specs.Map.{lookup, lookup_entry, remove_entry}
use Rattle.std.specs.Option.{option_map_or}
use Rattle.std.proofs.lemmas.Bool.Decides.{nat_tests}
use Rattle.std.proofs.lemmas.Option.{none-some, same_Some}
use Rattle.byte_list.specs.Bytes.{zeros}
use Rattle.byte_list.specs.Fields.{be16_at}
use Rattle.byte_list.proofs.RangeLaws.{drop-zeros}
use Rattle.disk_model.specs.Past.{Past}
use Rattle.key_ring.specs.Ring.{RingEntry}
use Rattle.page_batch.specs.Batch.{HasPageType}
use Rattle.page_places.specs.Texts.{are_zero}
use Rattle.page_pool.proofs.Cleans.{lookup_other, lookup_promoted, same_name}
use Rattle.page_pool.specs.Changes.{admitted, found_page}
use Rattle.page_pool.specs.Pages.{PoolState, held_page, is_dirty, is_held, is_name, place_of, plain_page}
use Rattle.page_pool.specs.declared.names.PageName.{PageName}
use Rattle.page_text.specs.Text.{FitsPage, IsText, plain_of}
use Rattle.page_text.specs.declared.key.PageKey.{PageKey}
use Rattle.space_head.specs.declared.space.Home.{Home}
use Rattle.space_head.specs.declared.space.Home.TheVariants.{Clean, Dirty, Unused}
use Rattle.store_form.specs.PageRead.{IsHomeOpened, IsTextOpened}
use Rattle.store_form.specs.declared.fault.RestFault.{RestFault}
use Rattle.store_model.specs.declared.contents.PlainPage.{PlainPage}
use Rattle.session_core.specs.Dirty.{AreTyped, name_of_page}
use Rattle.session_core.specs.Reading.{FromHome, Held, IsPageOf, IsPoolAfter, NotUsed}
use Rattle.session_core.specs.Spaces.{StoreSpaces}

passing : (test : PageName → Bool) (es : List (PageName × PlainPage)) (x : PageName × PlainPage) → lookup_entry test es ≡ Some x → test x.0 ≡ true
passing test [] x at = absurd (none-some x at)
passing test (e ∷ es) x at = by (test e.0) refl (passing test es x)
  where
    by : (b : Bool) → test e.0 ≡ b → (lookup_entry test es ≡ Some x → test x.0 ≡ true) → test x.0 ≡ true
    by true is later =
        let same : e ≡ x = same_Some e x (ap (λ (b : Bool). cond b (Some e) (lookup_entry test es)) (sym is) ∙ at) in
        subst (λ (y : PageName × PlainPage). test y.0 ≡ true) same is
    by false is later = later (ap (λ (b : Bool). cond b (Some e) (lookup_entry test es)) (sym is) ∙ at)

pub name_back : (one other : PageName) → is_name one other ≡ false → is_name other one ≡ false
name_back one other h = grind (arith, nat_tests)

-- one page comes first, and each other is found as before
found_apart : (name other : PageName) (s : PoolState) → is_name name other ≡ false → lookup (is_name other) (found_page name s).clean ≡ lookup (is_name other) s.clean
found_apart name other s apart = by (lookup_entry (is_name name) s.clean) refl
  where
    by : (o : Option (PageName × PlainPage)) → lookup_entry (is_name name) s.clean ≡ o → lookup (is_name other) (option_map_or (λ e. e ∷ remove_entry (is_name name) s.clean) o s.clean) ≡ lookup (is_name other) s.clean
    by None is = refl
    by (Some e) is =
        let here : name ≡ e.0 = same_name name e.0 (passing (is_name name) s.clean e is) in
        let differs : is_name other e.0 ≡ false = subst (λ (x : PageName). is_name other x ≡ false) here (name_back name other apart) in
        ap (λ (b : Bool). cond b (Some e.1) (lookup (is_name other) (remove_entry (is_name name) s.clean))) differs ∙ lookup_other name other s.clean apart

pub found_clean : (name other : PageName) (s : PoolState) → lookup (is_name other) (found_page name s).clean ≡ lookup (is_name other) s.clean
found_clean name other s = by (is_name name other) refl
  where
    by : (b : Bool) → is_name name other ≡ b → lookup (is_name other) (found_page name s).clean ≡ lookup (is_name other) s.clean
    by true same = subst (λ (x : PageName). lookup (is_name x) (found_page name s).clean ≡ lookup (is_name x) s.clean) (same_name name other same) (lookup_promoted name s.clean)
    by false apart = found_apart name other s apart

-- looking for a page changes nothing of what is held of any
pub held_found_all : (name other : PageName) (s : PoolState) → held_page other (found_page name s) ≡ held_page other s
held_found_all name other s = ap (λ (o : Option PlainPage). if is_dirty other s.dirty then slice_get s.dirty.pages (place_of other s.dirty.entries) else o) (found_clean name other s)

pub in_front : (name : PageName) (n : ℕ) (es : List (PageName × PlainPage)) (page : PlainPage) → lookup (is_name name) (take n es) ≡ Some page → lookup (is_name name) es ≡ Some page
in_front name zero es page is = absurd (none-some page is)
in_front name (suc n) [] page is = absurd (none-some page is)
in_front name (suc n) (e ∷ es) page is = by (is_name name e.0) refl (in_front name n es page)
  where
    by : (b : Bool) → is_name name e.0 ≡ b → (lookup (is_name name) (take n es) ≡ Some page → lookup (is_name name) es ≡ Some page) → cond b (Some e.1) (lookup (is_name name) es) ≡ Some page
    by true test later = ap (λ (b : Bool). cond b (Some e.1) (lookup (is_name name) (take n es))) (sym test) ∙ is
    by false test later = later (ap (λ (b : Bool). cond b (Some e.1) (lookup (is_name name) (take n es))) (sym test) ∙ is)

-- a page that something is held of is held
is_held_by : (s : PoolState) (name : PageName) (page : PlainPage) → held_page name s ≡ Some page → is_held name s ≡ true
is_held_by s name page is = by (is_dirty name s.dirty) is
  where
    by : (b : Bool) → (if b then slice_get s.dirty.pages (place_of name s.dirty.entries) else lookup (is_name name) s.clean) ≡ Some page → (b || is_some (lookup (is_name name) s.clean)) ≡ true
    by true at = refl
    by false at = ap is_some at

-- a page more is held, and each other that is held was held
pub admitted_held : (name other : PageName) (page held : PlainPage) (old : PoolState)
    → held_page other (record { dirty = old.dirty; clean = admitted name page (found_page name old).clean }) ≡ Some held → (held_page other old ≡ Some held) ⊎ ((name ≡ other) × (page ≡ held))
admitted_held name other page held old is = by (is_dirty other old.dirty) is
  where
    clean : List (PageName × PlainPage)
    clean = (found_page name old).clean

    by : (b : Bool) → (if b then slice_get old.dirty.pages (place_of other old.dirty.entries) else lookup (is_name other) (admitted name page clean)) ≡ Some held
        → ((if b then slice_get old.dirty.pages (place_of other old.dirty.entries) else lookup (is_name other) old.clean) ≡ Some held) ⊎ ((name ≡ other) × (page ≡ held))
    by true at = inl at
    by false at = at_name (is_name other name) refl at
      where
        at_name : (b : Bool) → is_name other name ≡ b → cond b (Some page) (lookup (is_name other) (take 63 clean)) ≡ Some held → (lookup (is_name other) old.clean ≡ Some held) ⊎ ((name ≡ other) × (page ≡ held))
        at_name true same there = inr (sym (same_name other name same), same_Some page held there)
        at_name false apart there = inl (sym (found_clean name other old) ∙ in_front other 63 clean held there)

-- What is held behind a read was held, or is the page that was read.
pub held_behind : (ring : List RingEntry) (store : StoreSpaces) (past : Past) (s p : ℕ) (old new : PoolState) (other : PageName) (held : PlainPage) → IsPoolAfter ring store past s p old new → held_page other new ≡ Some held
    → (held_page other old ≡ Some held) ⊎ ((name_of_page s p ≡ other) × (is_held (name_of_page s p) old ≡ false) × IsPageOf ring store old past s p (Some held))
held_behind ring store past s p old new other held (inl found) is = inl (sym (held_found_all (name_of_page s p) other old) ∙ ap (λ (x : PoolState). held_page other x) (sym found) ∙ is)
held_behind ring store past s p old new other held (inr (page, apart, read, admits)) is =
    by (admitted_held (name_of_page s p) other page held old (ap (λ (x : PoolState). held_page other x) (sym admits) ∙ is))
  where
    by : (held_page other old ≡ Some held) ⊎ ((name_of_page s p ≡ other) × (page ≡ held)) → (held_page other old ≡ Some held) ⊎ ((name_of_page s p ≡ other) × (is_held (name_of_page s p) old ≡ false) × IsPageOf ring store old past s p (Some held))
    by (inl was) = inl was
    by (inr (name, same)) = inr (name, apart, subst (λ (x : PlainPage). IsPageOf ring store old past s p (Some x)) same read)

-- its dirty pages are the same ones
pub dirty_behind : (ring : List RingEntry) (store : StoreSpaces) (past : Past) (s p : ℕ) (old new : PoolState) → IsPoolAfter ring store past s p old new → new.dirty ≡ old.dirty
dirty_behind ring store past s p old new (inl found) = ap (λ (x : PoolState). x.dirty) found
dirty_behind ring store past s p old new (inr (page, apart, read, admits)) = ap (λ (x : PoolState). x.dirty) admits

-- ---- the type of a page that is read from its home

zeros_are : (x : List ℕ) → are_zero x ≡ true → x ≡ zeros (length x)
unfolding are_zero zeros
zeros_are [] is = refl
zeros_are (b ∷ bs) is = by (nat_eq b 0) refl is (zeros_are bs)
  where
    by : (t : Bool) → nat_eq b 0 ≡ t → (t && are_zero bs) ≡ true → (are_zero bs ≡ true → bs ≡ zeros (length bs)) → b ∷ bs ≡ 0 ∷ zeros (length bs)
    by true same rest later = let e : b ≡ 0 = grind (arith, nat_tests) in ap (λ (n : ℕ). n ∷ bs) e ∙ ap (λ (l : List ℕ). 0 ∷ l) (later rest)
    by false same rest later = absurd (true≢false (sym rest))

type_of_fit : (p kind version : ℕ) → FitsPage p kind version → HasPageType p kind
type_of_fit p kind version (inl (number, is, clear)) = inl (number, is)
type_of_fit p kind version (inr (number, first, second)) = inr (number, first, second)

type_of_text : (s p id : ℕ) (key : Option PageKey) (bytes left : List ℕ) (was : Home) → IsTextOpened s p id key bytes left (Ok was) → HasPageType p (be16_at left 24)
type_of_text s p id key bytes left Unused opened = absurd opened
type_of_text s p id key bytes left (Clean version) opened = type_of_fit p (be16_at left 24) version opened.1.fits
type_of_text s p id key bytes left Dirty opened = absurd opened

-- the type in zero bytes, however many there are
two_zeros : (n : ℕ) → from_be_bytes w16 (take 2 (zeros n)) ≡ 0
unfolding zeros
two_zeros zero = refl
two_zeros (suc zero) = refl
two_zeros (suc (suc n)) = refl

kind_of_zeros : (n : ℕ) → be16_at (zeros n) 24 ≡ 0
unfolding be16_at
kind_of_zeros n = ap (λ (l : List ℕ). from_be_bytes w16 (take 2 l)) (drop-zeros 24 n) ∙ two_zeros (n - 24)

-- a page that its home gives has the type that its number may have, page 0 where its home isn't zero bytes
pub type_of_home : (s p id : ℕ) (key : Option PageKey) (bytes left : List ℕ) (was : Home) → (are_zero bytes ≡ true → p ≢ 0) → IsHomeOpened s p id key bytes left (Ok was) → HasPageType p (plain_page left).kind
unfolding plain_page
type_of_home s p id key bytes left was some opened = by (are_zero bytes) refl opened
  where
    zero_kind : are_zero bytes ≡ true → left ≡ bytes → be16_at left 24 ≡ 0
    zero_kind none same = ap (λ (l : List ℕ). be16_at l 24) (same ∙ zeros_are bytes none) ∙ kind_of_zeros (length bytes)

    answer : Result Home RestFault
    answer = Ok was

    by : (b : Bool) → are_zero bytes ≡ b → MatchBool b ((answer ≡ Ok Unused) × (left ≡ bytes)) (IsTextOpened s p id key bytes left answer) → HasPageType p (be16_at left 24)
    by true test (is, same) =
        let none : be16_at left 24 ≡ 0 = zero_kind test same in
        inr (some test, (λ e. omega (arith, none, e)), (λ e. omega (arith, none, e)))
    by false other text = type_of_text s p id key bytes left was text

-- and so has the page that a session reads from page 1 on, where what it holds has
pub type_of_read : (ring : List RingEntry) (store : StoreSpaces) (past : Past) (s p : ℕ) (pool : PoolState) (page : PlainPage) → p ≢ 0 → is_held (name_of_page s p) pool ≡ false → IsPageOf ring store pool past s p (Some page) → HasPageType p page.kind
type_of_read ring store past s p pool page some apart (Held x held) = absurd (true≢false (sym (is_held_by pool (name_of_page s p) x held) ∙ apart))
type_of_read ring store past s p pool page some apart (FromHome info left was none in_use is read) = type_of_home info.space p info.key_id _ read.bytes left was (λ test. some) read.opened

pub typed_behind : (ring : List RingEntry) (store : StoreSpaces) (past : Past) (s p : ℕ) (old new : PoolState) → p ≢ 0 → IsPoolAfter ring store past s p old new → AreTyped old → AreTyped new
typed_behind ring store past s p old new some after typed other held is = by (held_behind ring store past s p old new other held after is)
  where
    by : (held_page other old ≡ Some held) ⊎ ((name_of_page s p ≡ other) × (is_held (name_of_page s p) old ≡ false) × IsPageOf ring store old past s p (Some held)) → HasPageType other.page held.kind
    by (inl was) = typed other held was
    by (inr (name, apart, read)) = subst (λ (x : PageName). HasPageType x.page held.kind) name (type_of_read ring store past s p old held some apart read)

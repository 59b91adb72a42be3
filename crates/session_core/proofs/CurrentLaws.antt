-- Pages of a sealed batch that are as they were copied, and what their texts leave of a pool.
use Rattle.std.proofs.Common.{◌≡◌, ◌≢◌, ℕ, zero, suc, ◌+◌, ◌-◌, ◌*◌, ◌<◌, ◌≤◌, Bool, true, false, eq-eqb, ne_eqb, if◌then◌else◌, nat_eq, nat_lt, ◌||◌, ◌&&◌, List, [], ◌∷◌, ◌++◌, length, map, take, drop, get_or, Option, Some, None, refl, sym, ap, ◌∙◌, subst, arith, append_assoc, append-nil}
use Rattle.std.specs.List.{list_any}
use Rattle.std.specs.Str.{bytes_eq}
use Rattle.std.proofs.lemmas.Bool.Decides.{nat_tests}
use Rattle.std.proofs.lemmas.Option.{same_Some}
use Rattle.byte_list.proofs.RangeLaws.{drop_item}
use Rattle.doublewrite.specs.Text.{page_number_of}
use Rattle.page_batch.specs.Batch.{TextOfPage, sealed_version}
use Rattle.page_pool.specs.Changes.{cleaned, is_dirty_at}
use Rattle.page_pool.specs.Pages.{PoolState, is_dirty, is_named, plain_page}
use Rattle.page_pool.specs.declared.names.DirtyPage.{DirtyPage}
use Rattle.page_pool.specs.declared.names.PageName.{PageName}
use Rattle.page_text.specs.Text.{Plain, plain_of}
use Rattle.space_head.specs.declared.space.Home.{Home}
use Rattle.space_head.specs.declared.space.Home.TheVariants.{Clean}
use Rattle.space_head.specs.declared.space.SpaceInfo.{SpaceInfo}
use Rattle.session_core.specs.Dirty.{name_of_page}
use Rattle.session_core.specs.Putting.{NameWithin, cleaned_all, current_pages, homes_after_put, is_same_page, lsn_of, need_log, texts_in}
use Rattle.session_core.specs.SpaceChanges.{with_home}
use Rattle.session_core.specs.Spaces.{StoreSpaces, space_with_id}
use Rattle.session_core.proofs.CopyLaws.{plain_same}

pub body_is : (page : List ℕ) → length page ≡ 16384 → take (length page - 8 - 38) (drop 38 page) ≡ (plain_page page).body
unfolding plain_page
body_is page long = ap (λ (n : ℕ). take (n - 8 - 38) (drop 38 page)) long

-- two pages are the same where their types and their bodies are
same_by : (held copied : List ℕ) → length copied ≡ 16384 → is_same_page (plain_page held) (plain_of copied) ≡ (nat_eq (plain_page held).kind (plain_page copied).kind && bytes_eq (plain_page held).body (plain_page copied).body)
same_by held copied long = ap (is_same_page (plain_page held)) (plain_same copied long)

pub same_kind : (held copied : List ℕ) (a b : ℕ) (x y : List ℕ) → length copied ≡ 16384 → a ≡ (plain_page held).kind → b ≡ (plain_page copied).kind → x ≡ (plain_page held).body → y ≡ (plain_page copied).body → a ≡ b → bytes_eq x y ≡ is_same_page (plain_page held) (plain_of copied)
same_kind held copied a b x y long a_is b_is x_is y_is same =
    let kinds : nat_eq (plain_page held).kind (plain_page copied).kind ≡ true = eq-eqb _ _ (sym a_is ∙ same ∙ b_is) in
    ap (λ (l : List ℕ). bytes_eq l y) x_is ∙ ap (bytes_eq (plain_page held).body) y_is ∙ sym (same_by held copied long ∙ ap (λ (t : Bool). t && bytes_eq (plain_page held).body (plain_page copied).body) kinds)

pub other_kind : (held copied : List ℕ) (a b : ℕ) → length copied ≡ 16384 → a ≡ (plain_page held).kind → b ≡ (plain_page copied).kind → a ≢ b → nat_eq a b ≡ is_same_page (plain_page held) (plain_of copied)
other_kind held copied a b long a_is b_is differ =
    let kinds : nat_eq (plain_page held).kind (plain_page copied).kind ≡ false = ne_eqb _ _ (λ (same : (plain_page held).kind ≡ (plain_page copied).kind). differ (a_is ∙ same ∙ sym b_is)) in
    ne_eqb a b differ ∙ sym (same_by held copied long ∙ ap (λ (t : Bool). t && bytes_eq (plain_page held).body (plain_page copied).body) kinds)

-- a page that is dirty at an LSN is dirty
pub dirty_at : (name : PageName) (lsn : ℕ) (ds : List DirtyPage) → is_dirty_at name lsn ds ≡ true → list_any (is_named name) ds ≡ true
dirty_at name lsn [] at = at
dirty_at name lsn (d ∷ ds) at = by (is_named name d) at (dirty_at name lsn ds)
  where
    by : (b : Bool) → (if b then nat_eq d.lsn lsn else is_dirty_at name lsn ds) ≡ true → (is_dirty_at name lsn ds ≡ true → list_any (is_named name) ds ≡ true) → (b || list_any (is_named name) ds) ≡ true
    by true here rest = refl
    by false later rest = rest later

-- as the pool lists its pages
pub dirty_listed : (name : PageName) (lsn : ℕ) (pool : PoolState) (listed : List DirtyPage) → listed ≡ pool.dirty.entries → true ≡ is_dirty_at name lsn listed → is_dirty name pool.dirty ≡ true
dirty_listed name lsn pool listed is at = dirty_at name lsn pool.dirty.entries (ap (is_dirty_at name lsn) (sym is) ∙ sym at)

-- ---- the texts

pub texts_one : (pool : PoolState) (s : ℕ) (p : TextOfPage) (ps : List TextOfPage) → texts_in (current_pages pool s (p ∷ ps)) ≡ texts_in (current_pages pool s (p ∷ [])) ++ texts_in (current_pages pool s ps)
texts_one pool s p ps = by _
  where
    by : (b : Bool) → texts_in (if b then p ∷ current_pages pool s ps else current_pages pool s ps) ≡ texts_in (if b then p ∷ [] else []) ++ texts_in (current_pages pool s ps)
    by true = refl
    by false = refl

-- one page more of those that are left
pub texts_more : (pool : PoolState) (s : ℕ) (p : TextOfPage) (left rest : List TextOfPage) (texts more all : List (List ℕ)) → left ≡ p ∷ rest → more ≡ texts ++ texts_in (current_pages pool s (p ∷ [])) → texts ++ texts_in (current_pages pool s left) ≡ all
    → more ++ texts_in (current_pages pool s rest) ≡ all
texts_more pool s p left rest texts more all left_is more_is so =
    ap (λ (l : List (List ℕ)). l ++ texts_in (current_pages pool s rest)) more_is
    ∙ append_assoc texts (texts_in (current_pages pool s (p ∷ []))) (texts_in (current_pages pool s rest))
    ∙ ap (λ (l : List (List ℕ)). texts ++ l) (sym (texts_one pool s p rest))
    ∙ ap (λ (l : List TextOfPage). texts ++ texts_in (current_pages pool s l)) (sym left_is)
    ∙ so

-- ---- by place in a list

pub text_first : (ts : List (List ℕ)) (i : ℕ) → i < length ts → drop i ts ≡ get_or ts i [] ∷ drop (i + 1) ts
text_first [] i lt = absurd (omega (arith, lt))
text_first (t ∷ ts) zero lt = refl
text_first (t ∷ ts) (suc i) lt = let next : suc i + 1 ≡ suc (i + 1) = omega arith in text_first ts i (omega (arith, lt)) ∙ ap (λ (n : ℕ). get_or ts i [] ∷ drop n (t ∷ ts)) (sym next)

pub cleaned_more : (s : ℕ) (ts : List (List ℕ)) (i page lsn : ℕ) (text : List ℕ) (pool new all : PoolState) → i < length ts → text ≡ get_or ts i [] → page ≡ page_number_of text → lsn ≡ lsn_of text → new ≡ cleaned (name_of_page s page) lsn pool
    → cleaned_all s (drop i ts) pool ≡ all → cleaned_all s (drop (i + 1) ts) new ≡ all
cleaned_more s ts i page lsn text pool new all lt is page_is lsn_is new_is so =
    let first : drop i ts ≡ text ∷ drop (i + 1) ts = text_first ts i lt ∙ ap (λ (t : List ℕ). t ∷ drop (i + 1) ts) (sym is) in
    let here : new ≡ cleaned (name_of_page s (page_number_of text)) (lsn_of text) pool = new_is ∙ ap (λ (p : ℕ). cleaned (name_of_page s p) lsn pool) page_is ∙ ap (λ (l : ℕ). cleaned (name_of_page s (page_number_of text)) l pool) lsn_is in
    ap (cleaned_all s (drop (i + 1) ts)) here ∙ ap (λ (l : List (List ℕ)). cleaned_all s l pool) (sym first) ∙ so

pub need_here : (number i lsn : ℕ) (ts : List (List ℕ)) (text : List ℕ) → i < length ts → text ≡ get_or ts i [] → lsn ≡ lsn_of text → number * 4096 < lsn → need_log number (drop i ts) ≡ true
need_here number i lsn ts text lt is lsn_is above =
    let first : drop i ts ≡ text ∷ drop (i + 1) ts = text_first ts i lt ∙ ap (λ (t : List ℕ). t ∷ drop (i + 1) ts) (sym is) in
    let test : nat_lt (number * 4096) (lsn_of text) ≡ true = subst (λ (l : ℕ). nat_lt (number * 4096) l ≡ true) lsn_is (grind (arith, nat_tests)) in
    ap (need_log number) first ∙ ap (λ (b : Bool). b || need_log number (drop (i + 1) ts)) test

pub need_later : (number i lsn : ℕ) (ts : List (List ℕ)) (text : List ℕ) → i < length ts → text ≡ get_or ts i [] → lsn ≡ lsn_of text → lsn ≤ number * 4096 → need_log number (drop (i + 1) ts) ≡ need_log number (drop i ts)
need_later number i lsn ts text lt is lsn_is below =
    let first : drop i ts ≡ text ∷ drop (i + 1) ts = text_first ts i lt ∙ ap (λ (t : List ℕ). t ∷ drop (i + 1) ts) (sym is) in
    let test : nat_lt (number * 4096) (lsn_of text) ≡ false = subst (λ (l : ℕ). nat_lt (number * 4096) l ≡ false) lsn_is (grind (arith, nat_tests)) in
    sym (ap (need_log number) first ∙ ap (λ (b : Bool). b || need_log number (drop (i + 1) ts)) test)

-- ---- what is known of homes

pub written_more : (s version : ℕ) (ts : List (List ℕ)) (i page : ℕ) (text : List ℕ) (home : Home) (store new all : StoreSpaces) → i < length ts → text ≡ get_or ts i [] → page ≡ page_number_of text → home ≡ Clean (sealed_version page version)
    → new ≡ record store { homes = with_home store.spaces store.homes s page home } → homes_after_put s version (drop i ts) store ≡ all → homes_after_put s version (drop (i + 1) ts) new ≡ all
written_more s version ts i page text home store new all lt is page_is home_is new_is so =
    let first : drop i ts ≡ text ∷ drop (i + 1) ts = text_first ts i lt ∙ ap (λ (t : List ℕ). t ∷ drop (i + 1) ts) (sym is) in
    let here : new ≡ record store { homes = with_home store.spaces store.homes s (page_number_of text) (Clean (sealed_version (page_number_of text) version)) } =
    new_is ∙ ap (λ (h : Home). record store { homes = with_home store.spaces store.homes s page h }) home_is ∙ ap (λ (p : ℕ). record store { homes = with_home store.spaces store.homes s p (Clean (sealed_version p version)) }) page_is in
    ap (homes_after_put s version (drop (i + 1) ts)) here ∙ ap (λ (l : List (List ℕ)). homes_after_put s version l store) (sym first) ∙ so

-- the page of a text is one of its space
pub number_within : (spaces : List SpaceInfo) (s : ℕ) (ts : List (List ℕ)) (i page : ℕ) (text : List ℕ) (now : List SpaceInfo) → ((info : SpaceInfo) × (space_with_id spaces s ≡ Some info) × NameWithin ts info.pages) → now ≡ spaces → i < length ts → text ≡ get_or ts i [] → page ≡ page_number_of text
    → (info : SpaceInfo) × (space_with_id now s ≡ Some info) × (page < info.pages)
number_within spaces s ts i page text now (info, found, within) same lt is page_is =
    (info, ap (λ (l : List SpaceInfo). space_with_id l s) same ∙ found, subst (λ (p : ℕ). p < info.pages) (sym (page_is ∙ ap page_number_of is)) (within i lt))

-- The pages that are marked as dirty are those that are, also once texts of some were written.
use Rattle.std.proofs.Common.{◌≡◌, ◌≢◌, ℕ, zero, suc, ◌+◌, ◌-◌, ◌*◌, ◌<◌, ◌≤◌, Bool, true, false, true≢false, nat_eq, nat_lt, ◌&&◌, ◌||◌, if◌then◌else◌, List, [], ◌∷◌, get_or, length, slice_index_or, Some, refl, sym, ap, ◌∙◌, subst, arith}
use Rattle.std.specs.List.{list_any, remove}
use Rattle.std.specs.Prelude.{Contains}
use Rattle.std.proofs.lemmas.List.Edits.{get_or-remove_above, get_or-remove_below, length-remove}
use Rattle.std.proofs.lemmas.Bool.Decides.{nat_tests}
use Rattle.doublewrite.specs.Text.{page_number_of}
use Rattle.page_batch.specs.Batch.{sealed_version}
use Rattle.page_pool.proofs.Entries.{dirty_at_place, name_removed, once_removed}
use Rattle.page_pool.proofs.Lists.{both_false}
use Rattle.page_pool.specs.Changes.{admitted, cleaned, is_dirty_at}
use Rattle.page_pool.specs.Pages.{AreNamedOnce, DirtyList, PoolState, held_page, is_dirty, is_name, is_named, place_of, without}
use Rattle.page_pool.specs.declared.names.DirtyPage.{DirtyPage}
use Rattle.page_pool.specs.declared.names.PageName.{PageName}
use Rattle.redo_log.specs.Log.{durable}
use Rattle.redo_log.specs.State.{LogState}
use Rattle.space_head.specs.declared.space.Home.{Home}
use Rattle.space_head.specs.declared.space.Home.TheVariants.{Clean, Dirty}
use Rattle.space_head.specs.declared.space.SpaceInfo.{SpaceInfo}
use Rattle.store_files.specs.Header.{HeldSpace}
use Rattle.store_model.specs.Fold.{used}
use Rattle.session_core.specs.Dirty.{AreMarked, HasPendingPage, name_of_page}
use Rattle.session_core.specs.Putting.{AreOfDirty, NameWithin, cleaned_all, homes_after_put, lsn_of, name_number, need_log}
use Rattle.session_core.specs.SpaceChanges.{with_home}
use Rattle.session_core.specs.Spaces.{HaveLists, StoreSpaces, home_in, space_with_id}
use Rattle.session_core.proofs.CleanedLaws.{other_dirty, other_dirty_at, place_below}
use Rattle.session_core.proofs.CopyLaws.{get_or_any}
use Rattle.session_core.proofs.HomeEdits.{home_with}
use Rattle.session_core.proofs.SpaceEdits.{have_home}

clean_dirty : (v : ℕ) → Clean v ≡ Dirty → ⊥
clean_dirty v is = absurd (cc)

-- ---- one page

module _ (hs : List HeldSpace) (s p v lsn : ℕ) (info : SpaceInfo) (store : StoreSpaces) (list : DirtyList) (have : HaveLists hs store.spaces store.homes) (is : space_with_id store.spaces s ≡ Some info) (within : p < info.pages)
    (once : AreNamedOnce list.entries) (at : is_dirty_at (name_of_page s p) lsn list.entries ≡ true) where
  abbrev noted : StoreSpaces
  noted = record store { homes = with_home store.spaces store.homes s p (Clean v) }

  abbrev place : ℕ
  place = place_of (name_of_page s p) list.entries

  told : (z q : ℕ) → home_in noted z q ≡ (if nat_eq s z && nat_eq p q then Clean v else home_in store z q)
  told z q = home_with hs store.spaces store.homes s p z q (Clean v) info have is within

  below : place < length list.entries
  below = place_below (name_of_page s p) lsn list.entries at

  same : (z q : ℕ) → is_name (name_of_page s p) (name_of_page z q) ≡ false → is_dirty (name_of_page z q) (without place list) ≡ is_dirty (name_of_page z q) list
  same z q apart = other_dirty (name_of_page s p) (name_of_page z q) list.entries apart below

  pub marked_one : AreMarked store list → AreMarked noted (without place list)
  marked_one marks = record { marked = λ z q dirty. marked z q (is_name (name_of_page s p) (name_of_page z q)) refl dirty; only = λ z q told_dirty. only z q (is_name (name_of_page s p) (name_of_page z q)) refl (sym (told z q) ∙ told_dirty) }
    where
      marked : (z q : ℕ) (b : Bool) → is_name (name_of_page s p) (name_of_page z q) ≡ b → is_dirty (name_of_page z q) (without place list) ≡ true → home_in noted z q ≡ Dirty
      marked z q true here dirty =
          let space : s ≡ z = grind (arith, nat_tests) in
          let page : p ≡ q = grind (arith, nat_tests) in
          let gone : is_dirty (name_of_page s p) (without place list) ≡ false = name_removed (name_of_page s p) list.entries once below in
          let other : is_dirty (name_of_page z q) (without place list) ≡ false = subst (λ (x : ℕ). is_dirty (name_of_page x q) (without place list) ≡ false) space (subst (λ (y : ℕ). is_dirty (name_of_page s y) (without place list) ≡ false) page gone) in
          absurd (true≢false (sym dirty ∙ other))
      marked z q false apart dirty = told z q ∙ ap (λ (b : Bool). if b then Clean v else home_in store z q) apart ∙ marks.marked z q (sym (same z q apart) ∙ dirty)

      only : (z q : ℕ) (b : Bool) → is_name (name_of_page s p) (name_of_page z q) ≡ b → (if nat_eq s z && nat_eq p q then Clean v else home_in store z q) ≡ Dirty → is_dirty (name_of_page z q) (without place list) ≡ true
      only z q true here dirty = absurd (clean_dirty v (sym (ap (λ (b : Bool). if b then Clean v else home_in store z q) here) ∙ dirty))
      only z q false apart dirty = same z q apart ∙ marks.only z q (sym (ap (λ (b : Bool). if b then Clean v else home_in store z q) apart) ∙ dirty)

-- ---- all of them

apart_pages : (s p q : ℕ) → nat_eq q p ≡ false → is_name (name_of_page s p) (name_of_page s q) ≡ false
apart_pages s p q other = grind (arith, nat_tests)

-- the texts behind one are of pages that are dirty still
of_dirty_left : (s p lsn : ℕ) (ts : List (List ℕ)) (ds : List DirtyPage) → is_dirty_at (name_of_page s p) lsn ds ≡ true → name_number p ts ≡ false → AreOfDirty s ts ds → AreOfDirty s ts (remove ds (place_of (name_of_page s p) ds))
of_dirty_left s p lsn [] ds at none all = tt
of_dirty_left s p lsn (t ∷ ts) ds at none (here, once, rest) =
    let each = both_false (nat_eq (page_number_of t) p) (name_number p ts) none in
    let apart = apart_pages s p (page_number_of t) each.0 in
    (other_dirty_at (name_of_page s p) (name_of_page s (page_number_of t)) (lsn_of t) ds apart (place_below (name_of_page s p) lsn ds at) ∙ here, once, of_dirty_left s p lsn ts ds at each.1 rest)

pub marked_all : (hs : List HeldSpace) (s v : ℕ) (info : SpaceInfo) (ts : List (List ℕ)) (store : StoreSpaces) (pool : PoolState) → HaveLists hs store.spaces store.homes → space_with_id store.spaces s ≡ Some info → NameWithin ts info.pages → AreNamedOnce pool.dirty.entries
    → AreOfDirty s ts pool.dirty.entries → AreMarked store pool.dirty → AreMarked (homes_after_put s v ts store) (cleaned_all s ts pool).dirty
marked_all hs s v info [] store pool have is within once all marks = marks
marked_all hs s v info (t ∷ ts) store pool have is within once (here, apart, rest) marks =
    let p : ℕ = page_number_of t in
    let name : PageName = name_of_page s p in
    let place : ℕ = place_of name pool.dirty.entries in
    let after : PoolState = record { dirty = without place pool.dirty; clean = admitted name (used (held_page name pool)) pool.clean } in
    let noted : StoreSpaces = record store { homes = with_home store.spaces store.homes s p (Clean (sealed_version p v)) } in
    let cleaned_is : cleaned name (lsn_of t) pool ≡ after = ap (λ (b : Bool). if b then after else pool) here in
    subst (λ (q : PoolState). AreMarked (homes_after_put s v ts noted) (cleaned_all s ts q).dirty) (sym cleaned_is)
    (marked_all hs s v info ts noted after (have_home hs store.spaces store.homes s p (Clean (sealed_version p v)) have) is (λ i lt. within (suc i) (omega (arith, lt))) (once_removed pool.dirty.entries place once)
    (of_dirty_left s p (lsn_of t) ts pool.dirty.entries here apart rest) (marked_one hs s p (sealed_version p v) (lsn_of t) info store pool.dirty have is (within 0 (omega arith)) once here marks))

-- ---- the page that needs the pending blocks

-- a page with another LSN than the one that is taken out is there still
still_there : (name : PageName) (lsn : ℕ) (ds : List DirtyPage) (page : DirtyPage) → is_dirty_at name lsn ds ≡ true → page.lsn ≢ lsn → Contains ds page → Contains (remove ds (place_of name ds)) page
still_there name lsn ds page at differs (k, lt, is) = by (nat_lt k i) refl
  where
    i : ℕ
    i = place_of name ds

    below : i < length ds
    below = place_below name lsn ds at

    taken : DirtyPage
    taken = get_or ds i page

    taken_lsn : taken.lsn ≡ lsn
    taken_lsn =
        let test : nat_eq taken.lsn lsn ≡ true = sym (dirty_at_place name lsn ds taken below (get_or_any ds i page taken below)) ∙ at in
        grind (arith, nat_tests)

    shorter : length (remove ds i) + 1 ≡ length ds
    shorter = let one = length-remove ds i below in omega (arith, one, below)

    by : (b : Bool) → nat_lt k i ≡ b → Contains (remove ds i) page
    by true test =
        let ahead : k < i = grind (arith, nat_tests) in
        (k, omega (arith, shorter, ahead, below), get_or-remove_below ds i page k ahead below ∙ is)
    by false test =
        let behind : i ≤ k = grind (arith, nat_tests) in
        let other : k ≢ i = λ (same : k ≡ i). differs (ap (λ (d : DirtyPage). d.lsn) (sym is) ∙ ap (λ (n : ℕ). (get_or ds n page).lsn) same ∙ taken_lsn) in
        let one : (k - 1) + 1 ≡ k = omega (arith, behind, other) in
        (k - 1, omega (arith, shorter, lt, one), get_or-remove_above ds i page (k - 1) (omega (arith, behind, other)) below ∙ ap (λ (n : ℕ). get_or ds n page) one ∙ is)

-- where no text has changes of blocks that aren't durable, the page that needs them stays dirty
pub pending_all : (s : ℕ) (log : LogState) (ts : List (List ℕ)) (pool : PoolState) → need_log (durable log) ts ≡ false → HasPendingPage log pool.dirty.entries → HasPendingPage log (cleaned_all s ts pool).dirty.entries
pending_all s log [] pool none need = need
pending_all s log (t ∷ ts) pool none need =
    let each = both_false (nat_lt (durable log * 4096) (lsn_of t)) (need_log (durable log) ts) none in
    pending_all s log ts (cleaned name (lsn_of t) pool) each.1 (by each.0 (is_dirty_at name (lsn_of t) pool.dirty.entries) refl)
  where
    name : PageName
    name = name_of_page s (page_number_of t)

    after : PoolState
    after = record { dirty = without (place_of name pool.dirty.entries) pool.dirty; clean = admitted name (used (held_page name pool)) pool.clean }

    by : nat_lt (durable log * 4096) (lsn_of t) ≡ false → (b : Bool) → is_dirty_at name (lsn_of t) pool.dirty.entries ≡ b → HasPendingPage log (if b then after else pool).dirty.entries
    by low true at =
        let most : lsn_of t ≤ durable log * 4096 = grind (arith, nat_tests) in
        let above : durable log * 4096 < need.page.lsn = need.lsn in
        record {
          page = need.page;
          there = still_there name (lsn_of t) pool.dirty.entries need.page at (λ (same : need.page.lsn ≡ lsn_of t). absurd (omega (arith, most, above, same))) need.there;
          first = need.first;
          lsn = need.lsn;
        }
    by low false at = need

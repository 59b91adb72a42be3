-- What the changes of a mini-transaction that names no page 0 leave of what a session keeps.
use Rattle.std.proofs.Common.{◌≡◌, ◌≢◌, ◌⊎◌, ℕ, zero, suc, ◌+◌, ◌-◌, ◌*◌, ◌<◌, ◌≤◌, Bool, true, false, true≢false, cond, nat_eq, not, ◌&&◌, ◌||◌, if◌then◌else◌, List, [], ◌∷◌, ◌++◌, drop, get_or, length, length-append, slice_index_or, slice_set, take, Option, Some, None, Result, Ok, Err, OnOk, OnErr, refl, sym, ap, ◌∙◌, subst, inl, inr, arith, Contains}
use Rattle.std.specs.Prelude.{IfErr, IfOk}
use Rattle.std.specs.List.{All, AllByRecursion, insert}
use Rattle.std.specs.Map.{lookup, remove_entry}
use Rattle.std.proofs.lemmas.Bool.Decides.{nat_tests}
use Rattle.std.proofs.lemmas.List.{get_or-set_other, get_or-set_same, length-take-le}
use Rattle.std.proofs.lemmas.List.Elements.{All-cons, All-head, All-nil, All-tail}
use Rattle.std.proofs.lemmas.Option.{none-some, same_Some}
use Rattle.crash_image.specs.Recovers.{AreOfStore, IsOfStore}
use Rattle.counted_disk.specs.declared.counted.Counted.{Counted}
use Rattle.disk_model.specs.Past.{Past, At}
use Rattle.disk_model.proofs.Moments.{at_each}
use Rattle.disk_model.specs.Event.{Event, reads}
use Rattle.disk_model.specs.declared.names.FileName.TheVariants.{Log}
use Rattle.lru.proofs.Splits.{Contains-head, Contains-tail}
use Rattle.page_batch.specs.Batch.{HasPageType}
use Rattle.page_pool.specs.Changes.{changed_again, fresh_pages, held_after, made_dirty, page_changed_by, page_of_change, pool_after, pool_changed, stamped}
use Rattle.page_pool.specs.Pages.{DirtyList, PoolState, entered, entry_place, held_page, is_dirty, is_name, is_named}
use Rattle.page_pool.specs.declared.names.DirtyPage.{DirtyPage}
use Rattle.page_pool.specs.declared.names.PageName.{PageName}
use Rattle.page_pool.proofs.Cleans.{same_name}
use Rattle.page_pool.proofs.Named.{named_again, named_first}
use Rattle.redo_log.specs.Append.{HasLast, appended, taken_back}
use Rattle.redo_log.specs.Log.{IsOpen, durable, pending_count}
use Rattle.redo_log.specs.State.{LogState}
use Rattle.redo_text.specs.Block.{block_count}
use Rattle.redo_text.specs.Text.{AreAllowed, IsAllowed, text_of}
use Rattle.redo_text.specs.declared.change.Change.{Change}
use Rattle.redo_text.specs.declared.key.RedoKey.{RedoKey}
use Rattle.redo_text.specs.declared.change.Change.TheVariants.{Put, Kind, Touch, Floor, Encrypt}
use Rattle.space_head.specs.declared.space.Home.{Home}
use Rattle.space_head.specs.declared.space.Home.TheVariants.{Dirty, Unused}
use Rattle.space_head.specs.declared.space.SpaceInfo.{SpaceInfo}
use Rattle.store_files.specs.Header.{HeldHeader, HeldSpace}
use Rattle.store_files.specs.Checkpoint.{IsNewestCheckpoint}
use Rattle.store_form.specs.Rest.{homes_of}
use Rattle.store_image.specs.View.{block_bytes, most_mtr_blocks}
use Rattle.store_model.specs.Fold.{used}
use Rattle.store_model.specs.declared.contents.PlainPage.{PlainPage}
use Rattle.session_core.specs.Committing.{IsCommitRefusal, NotEntered, first_bad_range, first_missing_page}
use Rattle.session_core.specs.Dirty.{AreDirtyOf, AreMarked, AreTyped, HasPendingPage, IsInRun, name_of_page}
use Rattle.session_core.specs.Entering.{AreFromOne, EntersHeld, HasEntryRoom, HoldsAfter, IsEntered, IsNotEntered, OnlyLooksFor, Wants, mtr_block_count, lsn_behind, receipt_of, with_entry}
use Rattle.session_core.specs.Files.{HasStoreFiles}
use Rattle.session_core.specs.Holding.{HoldsNamed}
use Rattle.session_core.specs.Keys.{HasVersion}
use Rattle.session_core.specs.Session.{AreEntries, IsEntryAt, IsSession, Running}
use Rattle.session_core.specs.SpaceChanges.{spaces_after, spaces_changed, spaces_told, with_home}
use Rattle.session_core.specs.Spaces.{AreSpaces, HaveLists, NoneAbove, StoreSpaces, home_in, space_with_id}
use Rattle.session_core.specs.Told.{HasFront, ReadsAsTold}
use Rattle.session_core.specs.declared.journal.Author.{Author}
use Rattle.session_core.specs.declared.fault.EngineFault.{EngineFault}
use Rattle.session_core.specs.declared.fault.EngineFault.TheVariants.{OutOfMemory}
use Rattle.session_core.specs.declared.journal.Entry.{Entry}
use Rattle.session_core.specs.declared.journal.Receipt.{Receipt}
use Rattle.session_core.proofs.SpaceEdits.{have_home, space_named}

-- ---- the spaces

same_told : (c : Change) (spaces : List SpaceInfo) → (page_of_change c).page ≢ 0 → spaces_told c spaces ≡ spaces
same_told (Put s page at bytes) spaces some = refl
same_told (Kind s page kind) spaces some = refl
same_told (Touch s page) spaces some = refl
same_told (Floor s version) spaces some = absurd (some refl)
same_told (Encrypt s) spaces some = absurd (some refl)

-- the header stays, and so do the spaces
pub header_same : (cs : List Change) (store : StoreSpaces) → (spaces_after cs store).header ≡ store.header
header_same [] store = refl
header_same (c ∷ cs) store = header_same cs (spaces_changed c store)

pub spaces_same : (cs : List Change) (store : StoreSpaces) → AreFromOne cs → (spaces_after cs store).spaces ≡ store.spaces
spaces_same [] store from = refl
spaces_same (c ∷ cs) store from = spaces_same cs (spaces_changed c store) from.1 ∙ same_told c store.spaces from.0

spaces_go_on : (c : Change) (store : StoreSpaces) → (page_of_change c).page ≢ 0 → AreSpaces store → AreSpaces (spaces_changed c store)
spaces_go_on c store some are = record {
  allowed = are.allowed;
  have = subst (λ (l : List SpaceInfo). HaveLists store.header.spaces l (with_home store.spaces store.homes (page_of_change c).space (page_of_change c).page Dirty)) (sym (same_told c store.spaces some))
      (have_home store.header.spaces store.spaces store.homes (page_of_change c).space (page_of_change c).page Dirty are.have);
}

-- ---- what is known of homes

home_set : (o : List Home) (p q : ℕ) (home : Home) → p < length o → slice_index_or (slice_set o p home) q Unused ≡ (if nat_eq p q then home else slice_index_or o q Unused)
home_set o p q home lt = by (nat_eq p q) refl
  where
    by : (b : Bool) → nat_eq p q ≡ b → slice_index_or (slice_set o p home) q Unused ≡ (if b then home else slice_index_or o q Unused)
    by true test = let same : p ≡ q = grind (arith, nat_tests) in subst (λ (k : ℕ). slice_index_or (slice_set o p home) k Unused ≡ home) same (get_or-set_same o p home Unused lt)
    by false test = let apart : q ≢ p = λ e. grind (arith, nat_tests) in get_or-set_other o p q home Unused apart

home_apart : (s z x : ℕ) → nat_eq x s ≡ true → nat_eq x z ≡ false → nat_eq s z ≡ false
home_apart s z x one other = grind (arith, nat_tests)

home_back : (s z x : ℕ) → nat_eq x s ≡ false → nat_eq x z ≡ true → nat_eq s z ≡ false
home_back s z x one other = grind (arith, nat_tests)

home_alike : (s z x : ℕ) → nat_eq x s ≡ true → nat_eq x z ≡ true → nat_eq s z ≡ true
home_alike s z x one other = grind (arith, nat_tests)

-- with another home of one page each other page has the one that it had
home_with : (hs : List HeldSpace) (ss : List SpaceInfo) (os : List (List Home)) (s p z q : ℕ) (home : Home) (info : SpaceInfo) → HaveLists hs ss os → space_with_id ss s ≡ Some info → p < info.pages
    → slice_index_or (homes_of ss (with_home ss os s p home) z) q Unused ≡ (if nat_eq s z && nat_eq p q then home else slice_index_or (homes_of ss os z) q Unused)
home_with hs [] os s p z q home info have is lt = absurd (none-some info is)
home_with [] (x ∷ ss) os s p z q home info have is lt = absurd have
home_with (h ∷ hs) (x ∷ ss) [] s p z q home info have is lt = absurd have
home_with (h ∷ hs) (x ∷ ss) (o ∷ os) s p z q home info (space, pages, key_id, long, rest) is lt = by (nat_eq x.space s) refl is (nat_eq x.space z) refl (λ below. home_with hs ss os s p z q home info rest below lt)
  where
    by : (a : Bool) → nat_eq x.space s ≡ a → (if a then Some x else space_with_id ss s) ≡ Some info → (b : Bool) → nat_eq x.space z ≡ b
        → (space_with_id ss s ≡ Some info → slice_index_or (homes_of ss (with_home ss os s p home) z) q Unused ≡ (if nat_eq s z && nat_eq p q then home else slice_index_or (homes_of ss os z) q Unused))
        → slice_index_or (homes_of (x ∷ ss) (if a then slice_set o p home ∷ os else o ∷ with_home ss os s p home) z) q Unused ≡ (if nat_eq s z && nat_eq p q then home else slice_index_or (if b then o else homes_of ss os z) q Unused)
    by true one found true other later =
        let same : x.pages ≡ info.pages = ap (λ (y : SpaceInfo). y.pages) (same_Some x info found) in
        let within : p < length o = omega (arith, same, lt, pages, long) in
        ap (λ (t : Bool). slice_index_or (if t then slice_set o p home else homes_of ss os z) q Unused) other ∙ home_set o p q home within ∙ sym (ap (λ (t : Bool). if t && nat_eq p q then home else slice_index_or o q Unused) (home_alike s z x.space one other))
    by true one found false other later =
        ap (λ (t : Bool). slice_index_or (if t then slice_set o p home else homes_of ss os z) q Unused) other ∙ sym (ap (λ (t : Bool). if t && nat_eq p q then home else slice_index_or (homes_of ss os z) q Unused) (home_apart s z x.space one other))
    by false one found true other later =
        ap (λ (t : Bool). slice_index_or (if t then o else homes_of ss (with_home ss os s p home) z) q Unused) other ∙ sym (ap (λ (t : Bool). if t && nat_eq p q then home else slice_index_or o q Unused) (home_back s z x.space one other))
    by false one found false other later = ap (λ (t : Bool). slice_index_or (if t then o else homes_of ss (with_home ss os s p home) z) q Unused) other ∙ later found

-- the page that a change names is dirty, and of each other the same is known
pub home_changed : (c : Change) (store : StoreSpaces) (z q : ℕ) → (page_of_change c).page ≢ 0 → AreSpaces store → IsOfStore store.header.spaces c
    → home_in (spaces_changed c store) z q ≡ (if is_name (page_of_change c) (name_of_page z q) then Dirty else home_in store z q)
home_changed c store z q some are of_store =
    let found = space_named store c are of_store in
    let n = page_of_change c in
    ap (λ (l : List SpaceInfo). slice_index_or (homes_of l (with_home store.spaces store.homes n.space n.page Dirty) z) q Unused) (same_told c store.spaces some)
    ∙ home_with store.header.spaces store.spaces store.homes n.space n.page z q Dirty found.0 are.have found.1 found.2

-- ---- the pages that are dirty

pub dirty_changed : (lsn first : ℕ) (c : Change) (s : PoolState) (other : PageName) → is_dirty other (pool_changed lsn first c s).dirty ≡ (is_name (page_of_change c) other || is_dirty other s.dirty)
dirty_changed lsn first c s other = by (is_dirty (page_of_change c) s.dirty) refl
  where
    page : PlainPage
    page = page_changed_by c (used (lookup (is_name (page_of_change c)) s.clean))

    again : PoolState
    again = record { dirty = changed_again (page_of_change c) lsn c s.dirty; clean = s.clean }

    fresh : PoolState
    fresh = record { dirty = made_dirty (page_of_change c) lsn first page s.dirty; clean = remove_entry (is_name (page_of_change c)) s.clean }

    by : (b : Bool) → is_dirty (page_of_change c) s.dirty ≡ b → is_dirty other (if b then again else fresh).dirty ≡ (is_name (page_of_change c) other || is_dirty other s.dirty)
    by true is = (named_again (page_of_change c) lsn c s is).dirty other
    by false is = (named_first (page_of_change c) lsn first page s is).dirty other

marked_changed : (lsn first : ℕ) (c : Change) (store : StoreSpaces) (pool : PoolState) → (page_of_change c).page ≢ 0 → AreSpaces store → IsOfStore store.header.spaces c → AreMarked store pool.dirty → AreMarked (spaces_changed c store) (pool_changed lsn first c pool).dirty
marked_changed lsn first c store pool some are of_store marks = record {
  marked = λ s p is. by_mark s p (is_name (page_of_change c) (name_of_page s p)) refl (sym (dirty_changed lsn first c pool (name_of_page s p)) ∙ is);
  only = λ s p is. by_only s p (is_name (page_of_change c) (name_of_page s p)) refl (sym (home_changed c store s p some are of_store) ∙ is);
}
  where
    by_mark : (s p : ℕ) (b : Bool) → is_name (page_of_change c) (name_of_page s p) ≡ b → (is_name (page_of_change c) (name_of_page s p) || is_dirty (name_of_page s p) pool.dirty) ≡ true → home_in (spaces_changed c store) s p ≡ Dirty
    by_mark s p true test is = home_changed c store s p some are of_store ∙ ap (λ (b : Bool). if b then Dirty else home_in store s p) test
    by_mark s p false test is =
        home_changed c store s p some are of_store ∙ ap (λ (b : Bool). if b then Dirty else home_in store s p) test ∙ marks.marked s p (ap (λ (b : Bool). b || is_dirty (name_of_page s p) pool.dirty) (sym test) ∙ is)

    by_only : (s p : ℕ) (b : Bool) → is_name (page_of_change c) (name_of_page s p) ≡ b → (if is_name (page_of_change c) (name_of_page s p) then Dirty else home_in store s p) ≡ Dirty → is_dirty (name_of_page s p) (pool_changed lsn first c pool).dirty ≡ true
    by_only s p true test is = dirty_changed lsn first c pool (name_of_page s p) ∙ ap (λ (b : Bool). b || is_dirty (name_of_page s p) pool.dirty) test
    by_only s p false test is =
        dirty_changed lsn first c pool (name_of_page s p) ∙ ap (λ (b : Bool). b || is_dirty (name_of_page s p) pool.dirty) test ∙ marks.only s p (ap (λ (b : Bool). if b then Dirty else home_in store s p) (sym test) ∙ is)

-- ---- the types of what is held

some_type : (page : ℕ) → page ≢ 0 → HasPageType page 0
some_type page some = inr (some, (λ e. omega (arith, e)), (λ e. omega (arith, e)))

used_type : (name : PageName) (o : Option PlainPage) → name.page ≢ 0 → ((p : PlainPage) → o ≡ Some p → HasPageType name.page p.kind) → HasPageType name.page (used o).kind
used_type name None some typed = some_type name.page some
used_type name (Some p) some typed = typed p refl

changed_type : (c : Change) (page : ℕ) (p : PlainPage) → page ≢ 0 → IsAllowed c → HasPageType page p.kind → HasPageType page (page_changed_by c p).kind
changed_type (Put s q at bytes) page p some allowed typed = typed
changed_type (Kind s q kind) page p some allowed typed = inr (some, allowed.4, allowed.5)
changed_type (Touch s q) page p some allowed typed = typed
changed_type (Floor s version) page p some allowed typed = typed
changed_type (Encrypt s) page p some allowed typed = typed

held_typed : (cs : List Change) (name : PageName) (o : Option PlainPage) → AreFromOne cs → AreAllowed cs → ((p : PlainPage) → o ≡ Some p → HasPageType name.page p.kind) → (page : PlainPage) → held_after cs name o ≡ Some page → HasPageType name.page page.kind
held_typed [] name o from allowed typed page is = typed page is
held_typed (c ∷ cs) name o from allowed typed page is =
    held_typed cs name (if is_name (page_of_change c) name then Some (page_changed_by c (used o)) else o) from.1 allowed.1 (by (is_name (page_of_change c) name) refl) page is
  where
    by : (b : Bool) → is_name (page_of_change c) name ≡ b → (p : PlainPage) → (if b then Some (page_changed_by c (used o)) else o) ≡ Some p → HasPageType name.page p.kind
    by true test p at =
        let own : name.page ≢ 0 = subst (λ (n : PageName). n.page ≢ 0) (same_name (page_of_change c) name test) from.0 in
        subst (λ (x : PlainPage). HasPageType name.page x.kind) (same_Some (page_changed_by c (used o)) p at) (changed_type c name.page (used o) own allowed.0 (used_type name o own typed))
    by false test p at = typed p at

-- ---- what holds of each dirty page

all_parts : {X : Type 0} (P : X → Type 0) (xs : List X) → All P xs → AllByRecursion P xs
all_parts P [] all = tt
all_parts P (x ∷ xs) all = (All-head P x xs all, all_parts P xs (All-tail P x xs all))

all_whole : {X : Type 0} (P : X → Type 0) (xs : List X) → AllByRecursion P xs → All P xs
all_whole P [] all = All-nil P
all_whole P (x ∷ xs) all = All-cons P x xs all.0 (all_whole P xs all.1)

each_insert : {X : Type 0} (P : X → Type 0) (xs : List X) (k : ℕ) (x : X) → P x → AllByRecursion P xs → AllByRecursion P (insert xs k x)
each_insert P xs zero x own all = (own, all)
each_insert P [] (suc k) x own all = (own, tt)
each_insert P (y ∷ xs) (suc k) x own all = (all.0, each_insert P xs k x own all.1)

each_stamped : (P : DirtyPage → Type 0) (name : PageName) (lsn : ℕ) (ds : List DirtyPage) → ((d : DirtyPage) → P d → P (record { space = d.space; page = d.page; first = d.first; lsn = lsn })) → AllByRecursion P ds → AllByRecursion P (stamped name lsn ds)
each_stamped P name lsn [] stamps all = tt
each_stamped P name lsn (d ∷ ds) stamps all = by (is_named name d) (each_stamped P name lsn ds stamps all.1)
  where
    by : (b : Bool) → AllByRecursion P (stamped name lsn ds) → AllByRecursion P (if b then (record { space = d.space; page = d.page; first = d.first; lsn = lsn }) ∷ ds else d ∷ stamped name lsn ds)
    by true later = (stamps d all.0, all.1)
    by false later = (all.0, later)

-- what a stamp keeps
abbrev pub Stamps : (DirtyPage → Type 0) → ℕ → Type 0
Stamps P lsn = (d : DirtyPage) → P d → P (record { space = d.space; page = d.page; first = d.first; lsn = lsn })

-- what a new page has
abbrev pub Begins : (DirtyPage → Type 0) → ℕ → ℕ → Type 0
Begins P lsn first = (s p : ℕ) → P (record { space = s; page = p; first = first; lsn = lsn })

-- what they keep, and the new page has, each dirty page has behind a change
each_changed : (P : DirtyPage → Type 0) (lsn first : ℕ) (c : Change) (s : PoolState) → Stamps P lsn → Begins P lsn first → AllByRecursion P s.dirty.entries → AllByRecursion P (pool_changed lsn first c s).dirty.entries
each_changed P lsn first c s stamps begins all = by (is_dirty (page_of_change c) s.dirty)
  where
    page : PlainPage
    page = page_changed_by c (used (lookup (is_name (page_of_change c)) s.clean))

    d : DirtyPage
    d = record { space = (page_of_change c).space; page = (page_of_change c).page; first = first; lsn = lsn }

    again : PoolState
    again = record { dirty = changed_again (page_of_change c) lsn c s.dirty; clean = s.clean }

    fresh : PoolState
    fresh = record { dirty = made_dirty (page_of_change c) lsn first page s.dirty; clean = remove_entry (is_name (page_of_change c)) s.clean }

    by : (b : Bool) → AllByRecursion P (if b then again else fresh).dirty.entries
    by true = each_stamped P (page_of_change c) lsn s.dirty.entries stamps all
    by false = each_insert P s.dirty.entries (entry_place d s.dirty.entries) d (begins (page_of_change c).space (page_of_change c).page) all

pub each_after : (P : DirtyPage → Type 0) (lsn first : ℕ) (cs : List Change) (s : PoolState) → Stamps P lsn → Begins P lsn first → AllByRecursion P s.dirty.entries → AllByRecursion P (pool_after lsn first cs s).dirty.entries
each_after P lsn first [] s stamps begins all = all
each_after P lsn first (c ∷ cs) s stamps begins all = each_after P lsn first cs (pool_changed lsn first c s) stamps begins (each_changed P lsn first c s stamps begins all)

-- ---- that one dirty page has something

-- one of them has it
abbrev pub HasOne : (DirtyPage → Type 0) → List DirtyPage → Type 0
HasOne P [] = ⊥
HasOne P (d ∷ ds) = P d ⊎ HasOne P ds

one_insert : (P : DirtyPage → Type 0) (ds : List DirtyPage) (k : ℕ) (d : DirtyPage) → P d ⊎ HasOne P ds → HasOne P (insert ds k d)
one_insert P ds zero d has = has
one_insert P [] (suc k) d has = has
one_insert P (e ∷ ds) (suc k) d (inl own) = inr (one_insert P ds k d (inl own))
one_insert P (e ∷ ds) (suc k) d (inr (inl here)) = inl here
one_insert P (e ∷ ds) (suc k) d (inr (inr there)) = inr (one_insert P ds k d (inr there))

one_stamped : (P : DirtyPage → Type 0) (name : PageName) (lsn : ℕ) (ds : List DirtyPage) → ((d : DirtyPage) → P d → P (record { space = d.space; page = d.page; first = d.first; lsn = lsn })) → HasOne P ds → HasOne P (stamped name lsn ds)
one_stamped P name lsn [] stamps has = has
one_stamped P name lsn (d ∷ ds) stamps has = by (is_named name d) has (one_stamped P name lsn ds stamps)
  where
    by : (b : Bool) → P d ⊎ HasOne P ds → (HasOne P ds → HasOne P (stamped name lsn ds)) → HasOne P (if b then (record { space = d.space; page = d.page; first = d.first; lsn = lsn }) ∷ ds else d ∷ stamped name lsn ds)
    by true (inl here) later = inl (stamps d here)
    by true (inr there) later = inr there
    by false (inl here) later = inl here
    by false (inr there) later = inr (later there)

-- the page that is stamped
stamped_one : (P : DirtyPage → Type 0) (name : PageName) (lsn : ℕ) (ds : List DirtyPage) → is_dirty name (record { entries = ds; pages = [] }) ≡ true → AllByRecursion (λ d. P (record { space = d.space; page = d.page; first = d.first; lsn = lsn })) ds → HasOne P (stamped name lsn ds)
stamped_one P name lsn [] is all = absurd (true≢false (sym is))
stamped_one P name lsn (d ∷ ds) is all = by (is_named name d) is (λ there. stamped_one P name lsn ds there all.1)
  where
    by : (b : Bool) → (b || is_dirty name (record { entries = ds; pages = [] })) ≡ true → (is_dirty name (record { entries = ds; pages = [] }) ≡ true → HasOne P (stamped name lsn ds))
        → HasOne P (if b then (record { space = d.space; page = d.page; first = d.first; lsn = lsn }) ∷ ds else d ∷ stamped name lsn ds)
    by true at later = inl all.0
    by false at later = inr (later at)

one_changed : (P : DirtyPage → Type 0) (lsn first : ℕ) (c : Change) (s : PoolState) → Stamps P lsn → HasOne P s.dirty.entries → HasOne P (pool_changed lsn first c s).dirty.entries
one_changed P lsn first c s stamps has = by (is_dirty (page_of_change c) s.dirty)
  where
    page : PlainPage
    page = page_changed_by c (used (lookup (is_name (page_of_change c)) s.clean))

    d : DirtyPage
    d = record { space = (page_of_change c).space; page = (page_of_change c).page; first = first; lsn = lsn }

    again : PoolState
    again = record { dirty = changed_again (page_of_change c) lsn c s.dirty; clean = s.clean }

    fresh : PoolState
    fresh = record { dirty = made_dirty (page_of_change c) lsn first page s.dirty; clean = remove_entry (is_name (page_of_change c)) s.clean }

    by : (b : Bool) → HasOne P (if b then again else fresh).dirty.entries
    by true = one_stamped P (page_of_change c) lsn s.dirty.entries stamps has
    by false = one_insert P s.dirty.entries (entry_place d s.dirty.entries) d (inr has)

pub one_after : (P : DirtyPage → Type 0) (lsn first : ℕ) (cs : List Change) (s : PoolState) → Stamps P lsn → HasOne P s.dirty.entries → HasOne P (pool_after lsn first cs s).dirty.entries
one_after P lsn first [] s stamps has = has
one_after P lsn first (c ∷ cs) s stamps has = one_after P lsn first cs (pool_changed lsn first c s) stamps (one_changed P lsn first c s stamps has)

-- the page of a change has it, where each dirty page that gets the LSN would have it
one_named : (P : DirtyPage → Type 0) (lsn first : ℕ) (c : Change) (s : PoolState) → Begins P lsn first → AllByRecursion (λ d. P (record { space = d.space; page = d.page; first = d.first; lsn = lsn })) s.dirty.entries → HasOne P (pool_changed lsn first c s).dirty.entries
one_named P lsn first c s begins all = by (is_dirty (page_of_change c) s.dirty) refl
  where
    page : PlainPage
    page = page_changed_by c (used (lookup (is_name (page_of_change c)) s.clean))

    d : DirtyPage
    d = record { space = (page_of_change c).space; page = (page_of_change c).page; first = first; lsn = lsn }

    again : PoolState
    again = record { dirty = changed_again (page_of_change c) lsn c s.dirty; clean = s.clean }

    fresh : PoolState
    fresh = record { dirty = made_dirty (page_of_change c) lsn first page s.dirty; clean = remove_entry (is_name (page_of_change c)) s.clean }

    by : (b : Bool) → is_dirty (page_of_change c) s.dirty ≡ b → HasOne P (if b then again else fresh).dirty.entries
    by true is = stamped_one P (page_of_change c) lsn s.dirty.entries is all
    by false is = one_insert P s.dirty.entries (entry_place d s.dirty.entries) d (inl (begins (page_of_change c).space (page_of_change c).page))

-- the first of some changes
pub one_entered : (P : DirtyPage → Type 0) (lsn first : ℕ) (cs : List Change) (s : PoolState) → 0 < length cs → Stamps P lsn → Begins P lsn first → AllByRecursion (λ d. P (record { space = d.space; page = d.page; first = d.first; lsn = lsn })) s.dirty.entries
    → HasOne P (pool_after lsn first cs s).dirty.entries
one_entered P lsn first [] s some stamps begins all = absurd (omega (arith, some))
one_entered P lsn first (c ∷ cs) s some stamps begins all = one_after P lsn first cs (pool_changed lsn first c s) stamps (one_named P lsn first c s begins all)

-- the one
pub the_one : (P : DirtyPage → Type 0) (ds : List DirtyPage) → HasOne P ds → (d : DirtyPage) × Contains ds d × P d
the_one P [] has = absurd has
the_one P (d ∷ ds) (inl here) = (d, Contains-head d ds, here)
the_one P (d ∷ ds) (inr there) = let later = the_one P ds there in (later.0, Contains-tail d ds later.0 later.1, later.2)

pub one_there : (P : DirtyPage → Type 0) (ds : List DirtyPage) (d : DirtyPage) → Contains ds d → P d → HasOne P ds
one_there P [] d (k, lt, is) own = absurd (omega (arith, lt))
one_there P (e ∷ ds) d (zero, lt, is) own = inl (subst P (sym is) own)
one_there P (e ∷ ds) d (suc k, lt, is) own = inr (one_there P ds d (k, omega (arith, lt), is) own)

-- ---- changes in a row

both_false : (a b : Bool) → (a || b) ≡ false → (a ≡ false) × (b ≡ false)
both_false true b is = absurd (true≢false is)
both_false false b is = (refl, is)

marked_after : (lsn first : ℕ) (cs : List Change) (store : StoreSpaces) (pool : PoolState) → AreFromOne cs → AreSpaces store → AreOfStore store.header.spaces cs → AreMarked store pool.dirty → AreMarked (spaces_after cs store) (pool_after lsn first cs pool).dirty
marked_after lsn first [] store pool from are of_store marks = marks
marked_after lsn first (c ∷ cs) store pool from are of_store marks =
    marked_after lsn first cs (spaces_changed c store) (pool_changed lsn first c pool) from.1 (spaces_go_on c store from.0 are) of_store.1 (marked_changed lsn first c store pool from.0 are of_store.0 marks)

typed_after : (cs : List Change) (old new : PoolState) → AreFromOne cs → AreAllowed cs → HoldsAfter cs old new → AreTyped old → AreTyped new
typed_after cs old new from allowed holds typed name page is = held_typed cs name (held_page name old) from allowed (typed name) page (sym (holds name) ∙ is)

not_zero : (n : PageName) (s : ℕ) → n.page ≢ 0 → is_name n (name_of_page s 0) ≡ false
not_zero n s some = by (is_name n (name_of_page s 0)) refl
  where
    by : (b : Bool) → is_name n (name_of_page s 0) ≡ b → b ≡ false
    by true test = absurd (some (ap (λ (x : PageName). x.page) (same_name n (name_of_page s 0) test)))
    by false test = refl

-- a page 0 is held as it was
held_zero : (cs : List Change) (s : ℕ) (o : Option PlainPage) → AreFromOne cs → held_after cs (name_of_page s 0) o ≡ o
held_zero [] s o from = refl
held_zero (c ∷ cs) s o from = ap (λ (b : Bool). held_after cs (name_of_page s 0) (if b then Some (page_changed_by c (used o)) else o)) (not_zero (page_of_change c) s from.0) ∙ held_zero cs s o from.1

-- a page that isn't dirty behind the changes wasn't, and is none of those that they name
clean_after : (lsn first : ℕ) (cs : List Change) (pool : PoolState) (name : PageName) → is_dirty name (pool_after lsn first cs pool).dirty ≡ false → is_dirty name pool.dirty ≡ false
clean_after lsn first [] pool name clean = clean
clean_after lsn first (c ∷ cs) pool name clean =
    (both_false (is_name (page_of_change c) name) (is_dirty name pool.dirty) (sym (dirty_changed lsn first c pool name) ∙ clean_after lsn first cs (pool_changed lsn first c pool) name clean)).1

homes_after : (lsn first : ℕ) (cs : List Change) (store : StoreSpaces) (pool : PoolState) (s p : ℕ) → AreFromOne cs → AreSpaces store → AreOfStore store.header.spaces cs → is_dirty (name_of_page s p) (pool_after lsn first cs pool).dirty ≡ false
    → home_in (spaces_after cs store) s p ≡ home_in store s p
homes_after lsn first [] store pool s p from are of_store clean = refl
homes_after lsn first (c ∷ cs) store pool s p from are of_store clean =
    let name = name_of_page s p in
    let apart = (both_false (is_name (page_of_change c) name) (is_dirty name pool.dirty) (sym (dirty_changed lsn first c pool name) ∙ clean_after lsn first cs (pool_changed lsn first c pool) name clean)).0 in
    homes_after lsn first cs (spaces_changed c store) (pool_changed lsn first c pool) s p from.1 (spaces_go_on c store from.0 are) of_store.1 clean
    ∙ home_changed c store s p from.0 are of_store.0 ∙ ap (λ (b : Bool). if b then Dirty else home_in store s p) apart

-- ---- the log with more blocks pending

-- The log has so many blocks more, all of them pending.
pub record HasMore (old new : LogState) (n : ℕ) : Type 0 where
  pub blocks : new.blocks ≡ old.blocks
  pub from : new.from ≡ old.from
  pub sequence : new.sequence ≡ old.sequence
  pub next : new.next ≡ old.next + n
  pub pending : pending_count new ≡ pending_count old + n

-- what the disk reads as is told still
pub told_after : (lsn first : ℕ) (cs : List Change) (store : StoreSpaces) (log new : LogState) (n : ℕ) (pool : PoolState) (es : List Event) → AreFromOne cs → AreSpaces store → AreOfStore store.header.spaces cs → HoldsAfter cs pool (pool_after lsn first cs pool) → HasMore log new n
    → ReadsAsTold store log pool es → ReadsAsTold (spaces_after cs store) new (pool_after lsn first cs pool) es
told_after lsn first cs store log new n pool es from are of_store holds more told = record {
  front = record {
    is_header = told.front.is_header ∙ ap (λ (h : HeldHeader). Some h) (sym (header_same cs store));
    checkpoint = subst (λ (f : ℕ). IsNewestCheckpoint (reads Log es) (record { sequence = new.sequence; from = f })) (sym more.from)
        (subst (λ (q : ℕ). IsNewestCheckpoint (reads Log es) (record { sequence = q; from = log.from })) (sym more.sequence) told.front.checkpoint);
  };
  homes = λ s p info is below clean.
      homes_after lsn first cs store pool s p from are of_store clean ∙ told.homes s p info (moved s info is) below (clean_after lsn first cs pool (name_of_page s p) clean);
  heads = λ s info is.
      let head = told.heads s info (moved s info is) in
      record {
        mode = head.mode;
        home = λ clean. head.home (clean_after lsn first cs pool (name_of_page info.space 0) clean);
        held = λ page at. head.held page (sym (held_zero cs info.space (held_page (name_of_page info.space 0) pool) from) ∙ sym (holds (name_of_page info.space 0)) ∙ at);
      };
}
  where
    moved : (s : ℕ) (info : SpaceInfo) → space_with_id (spaces_after cs store).spaces s ≡ Some info → space_with_id store.spaces s ≡ Some info
    moved s info is = ap (λ (l : List SpaceInfo). space_with_id l s) (sym (spaces_same cs store from)) ∙ is

-- as many are durable
durable_same : (old new : LogState) (n : ℕ) → IsOpen old → HasMore old new n → durable new ≡ durable old
durable_same old new n open_log more =
    let count = more.pending in
    let next = more.next in
    let order = open_log.order in
    omega (arith, count, next, order)

module _ (store : StoreSpaces) (log new : LogState) (n lsn : ℕ) (cs : List Change) (pool : PoolState) (open_log : IsOpen log) (more : HasMore log new n) (some : 0 < n) (lsn_is : lsn ≡ (log.next + n) * block_bytes) (kept : AreDirtyOf store log pool) where
  within_after : All (IsInRun new) (pool_after lsn log.next cs pool).dirty.entries
  within_after = all_whole (IsInRun new) (pool_after lsn log.next cs pool).dirty.entries
      (each_after (IsInRun new) lsn log.next cs pool stamps begins (all_parts (IsInRun new) pool.dirty.entries (λ k d lt. moved (slice_index_or pool.dirty.entries k d) (kept.within k d lt))))
    where
      moved : (d : DirtyPage) → IsInRun log d → IsInRun new d
      moved d run =
          let from = run.from in
          let first = run.first in
          let ends : d.lsn ≤ log.next * 4096 = run.lsn in
          let same = more.from in
          let next = more.next in
          record { from = omega (arith, from, same); first = omega (arith, first, next); behind = run.behind; lsn = omega (arith, ends, next) }

      stamps : Stamps (IsInRun new) lsn
      stamps d run =
          let is : lsn ≡ (log.next + n) * 4096 = lsn_is in
          let first = run.first in
          let next = more.next in
          record { from = run.from; first = first; behind = omega (arith, is, first, next); lsn = omega (arith, is, next) }

      begins : Begins (IsInRun new) lsn log.next
      begins s p =
          let order = open_log.order in
          let same = more.from in
          let next = more.next in
          let is : lsn ≡ (log.next + n) * 4096 = lsn_is in
          record { from = omega (arith, order, same); first = omega (arith, next, some); behind = omega (arith, is, some); lsn = omega (arith, is, next) }

  -- a page that needs the pending blocks
  abbrev Needs : DirtyPage → Type 0
  Needs d = (d.first ≤ durable log) × (durable log * 4096 < d.lsn)

  needs_stamped : Stamps Needs lsn
  needs_stamped d needs =
      let is : lsn ≡ (log.next + n) * 4096 = lsn_is in
      (needs.0, omega (arith, is, some))

  needs_one : 0 < length cs → HasOne Needs (pool_after lsn log.next cs pool).dirty.entries
  needs_one long = by (pending_count log) refl
    where
      by : (k : ℕ) → pending_count log ≡ k → HasOne Needs (pool_after lsn log.next cs pool).dirty.entries
      by zero none = one_entered Needs lsn log.next cs pool long needs_stamped begins (all_parts Stamped pool.dirty.entries (λ k d lt. stamped_needs (slice_index_or pool.dirty.entries k d) (kept.within k d lt)))
        where
          Stamped : DirtyPage → Type 0
          Stamped d = Needs (record { space = d.space; page = d.page; first = d.first; lsn = lsn })

          begins : Begins Needs lsn log.next
          begins s p =
              let is : lsn ≡ (log.next + n) * 4096 = lsn_is in
              (omega (arith, none), omega (arith, is, some))

          stamped_needs : (d : DirtyPage) → IsInRun log d → Stamped d
          stamped_needs d run =
              let is : lsn ≡ (log.next + n) * 4096 = lsn_is in
              let first = run.first in
              (omega (arith, none, first), omega (arith, is, some))
      by (suc k) there =
          let one = kept.pending (omega (arith, there)) in
          one_after Needs lsn log.next cs pool needs_stamped (one_there Needs pool.dirty.entries one.page one.there (one.first, one.lsn))

  pub dirty_after : 0 < length cs → AreFromOne cs → AreSpaces store → AreOfStore store.header.spaces cs → AreAllowed cs → HoldsAfter cs pool (pool_after lsn log.next cs pool) → AreDirtyOf (spaces_after cs store) new (pool_after lsn log.next cs pool)
  dirty_after long from are of_store allowed holds = record {
    marks = marked_after lsn log.next cs store pool from are of_store kept.marks;
    typed = typed_after cs pool (pool_after lsn log.next cs pool) from allowed holds kept.typed;
    within = within_after;
    pending = λ there.
        let one = the_one Needs (pool_after lsn log.next cs pool).dirty.entries (needs_one long) in
        let same : durable new ≡ durable log = durable_same log new n open_log more in
        record {
          page = one.0;
          there = one.1;
          first = subst (λ (k : ℕ). one.0.first ≤ k) (sym same) one.2.0;
          lsn = subst (λ (k : ℕ). k * 4096 < one.0.lsn) (sym same) one.2.1;
        };
  }

-- so many blocks are pending more
pub pending_more : (old new : LogState) (n : ℕ) → IsOpen new → HasLast new n → taken_back new n ≡ old → pending_count new ≡ pending_count old + n
pending_more old new n open_log last back =
    let whole = open_log.whole in
    let within = last.within in
    let cut : length (take ((pending_count new - n) * 4096) new.pending) ≡ (pending_count new - n) * 4096 = length-take-le ((pending_count new - n) * 4096) new.pending (omega (arith, whole, within)) in
    let long : length old.pending ≡ (pending_count new - n) * 4096 = ap (λ (l : LogState). length l.pending) (sym back) ∙ cut in
    omega (arith, long, within)

-- ---- the journal with an entry more

take_front : {X : Type 0} (n : ℕ) (xs ys : List X) → n ≤ length xs → take n (xs ++ ys) ≡ take n xs
take_front zero xs ys le = refl
take_front (suc n) [] ys le = absurd (omega (arith, le))
take_front (suc n) (x ∷ xs) ys le = ap (λ (l : List _). x ∷ l) (take_front n xs ys (omega (arith, le)))

pub entries_more : (spaces : List HeldSpace) (number : ℕ) (es : List Entry) (next : ℕ) (e : Entry) → AreEntries spaces number es next → IsEntryAt spaces next e → AreEntries spaces number (es ++ e ∷ []) (next + block_count (text_of e.mtr))
entries_more spaces number [] next e are own = (subst (λ (k : ℕ). IsEntryAt spaces k e) (sym are) own, ap (λ (k : ℕ). k + block_count (text_of e.mtr)) are)
entries_more spaces number (x ∷ es) next e are own = (are.0, entries_more spaces (number + block_count (text_of x.mtr)) es next e are.1 own)

are_after : (cs : List Change) (store : StoreSpaces) → AreFromOne cs → AreSpaces store → AreSpaces (spaces_after cs store)
are_after [] store from are = are
are_after (c ∷ cs) store from are = are_after cs (spaces_changed c store) from.1 (spaces_go_on c store from.0 are)

-- What the type keeps once a mini-transaction is the journal's last entry.
module _ {D : Type 0} (past : D → Past) (r : Running D) (author : Option Author) (mtr : List Change) (key : RedoKey) where
  pub session_entered : (store : StoreSpaces) (journal : List Entry) (log : LogState) (pool : PoolState) (lsn : ℕ) → IsSession past r → 0 < length mtr → AreFromOne mtr → AreAllowed mtr → AreOfStore r.store.header.spaces mtr → mtr_block_count mtr ≤ most_mtr_blocks
      → store ≡ spaces_after mtr r.store → lsn ≡ lsn_behind r.log mtr → journal ≡ r.journal ++ (record { by = author; lsn = lsn; mtr = mtr }) ∷ [] → log ≡ appended r.log mtr key → IsOpen log → 0 < mtr_block_count mtr → pending_count log ≡ pending_count r.log + mtr_block_count mtr
      → pool ≡ pool_after (lsn_behind r.log mtr) r.log.next mtr r.pool → HoldsAfter mtr r.pool pool → IsSession past (record r { store = store; journal = journal; log = log; pool = pool })
  session_entered store journal log pool lsn kept long from allowed of_store few is_store lsn_is is_journal is_log open_log some pending is_pool holds =
      let spaces : store.spaces ≡ r.store.spaces = ap (λ (s : StoreSpaces). s.spaces) is_store ∙ spaces_same mtr r.store from in
      let header : store.header ≡ r.store.header = ap (λ (s : StoreSpaces). s.header) is_store ∙ header_same mtr r.store in
      let more : HasMore r.log log (mtr_block_count mtr) = record {
        blocks = ap (λ (l : LogState). l.blocks) is_log;
        from = ap (λ (l : LogState). l.from) is_log;
        sequence = ap (λ (l : LogState). l.sequence) is_log;
        next = ap (λ (l : LogState). l.next) is_log;
        pending = pending;
      } in
      let holding : HoldsAfter mtr r.pool (pool_after (lsn_behind r.log mtr) r.log.next mtr r.pool) = subst (HoldsAfter mtr r.pool) is_pool holds in
      let own : IsEntryAt r.store.header.spaces r.log.next (record { by = author; lsn = lsn; mtr = mtr }) = record { some = some; few = few; lsn = lsn_is; allowed = allowed; of_store = of_store } in
      let behind = entries_more r.store.header.spaces r.begins r.journal r.log.next (record { by = author; lsn = lsn; mtr = mtr }) kept.entries own in
      let count : length journal ≡ length r.journal + 1 = ap (λ (l : List Entry). length l) is_journal ∙ length-append r.journal ((record { by = author; lsn = lsn; mtr = mtr }) ∷ []) in
      let acked = kept.acked in
      record {
        spaces = subst AreSpaces (sym is_store) (are_after mtr r.store from kept.spaces);
        active = kept.active;
        keyed = subst (HasVersion r.ring r.active) (sym spaces) kept.keyed;
        floors = subst (NoneAbove r.active) (sym spaces) kept.floors;
        ring = more.blocks ∙ kept.ring ∙ ap (λ (h : HeldHeader). h.blocks) (sym header);
        numbers = open_log;
        entries = subst (λ (h : HeldHeader). AreEntries h.spaces r.begins journal log.next) (sym header)
            (subst (λ (l : List Entry). AreEntries r.store.header.spaces r.begins l log.next) (sym is_journal)
            (subst (λ (k : ℕ). AreEntries r.store.header.spaces r.begins (r.journal ++ (record { by = author; lsn = lsn; mtr = mtr }) ∷ []) k) (sym more.next) behind));
        acked = omega (arith, acked, count);
        settled = subst (λ (l : List Entry). All (λ e. e.lsn ≤ durable log * 4096) (take r.acked l)) (sym is_journal)
            (subst (λ (l : List Entry). All (λ e. e.lsn ≤ durable log * 4096) l) (sym (take_front r.acked r.journal ((record { by = author; lsn = lsn; mtr = mtr }) ∷ []) acked))
            (subst (λ (k : ℕ). All (λ e. e.lsn ≤ k * 4096) (take r.acked r.journal)) (sym (durable_same r.log log (mtr_block_count mtr) kept.numbers more)) kept.settled));
        dirty = subst (λ (s : StoreSpaces). AreDirtyOf s log pool) (sym is_store)
            (subst (λ (p : PoolState). AreDirtyOf (spaces_after mtr r.store) log p) (sym is_pool)
            (dirty_after r.store r.log log (mtr_block_count mtr) (lsn_behind r.log mtr) mtr r.pool kept.numbers more some refl kept.dirty long from kept.spaces of_store allowed holding));
        files = λ runs. subst (λ (h : HeldHeader). At (HasStoreFiles h.blocks store.spaces) (past r.disk.disk)) (sym header)
            (subst (λ (l : List SpaceInfo). At (HasStoreFiles r.store.header.blocks l) (past r.disk.disk)) (sym spaces) (kept.files runs));
        reads = λ runs. subst (λ (s : StoreSpaces). At (ReadsAsTold s log pool) (past r.disk.disk)) (sym is_store)
            (subst (λ (p : PoolState). At (ReadsAsTold (spaces_after mtr r.store) log p) (past r.disk.disk)) (sym is_pool)
            (at_each (λ es told. told_after (lsn_behind r.log mtr) r.log.next mtr r.store r.log log (mtr_block_count mtr) r.pool es from kept.spaces of_store holding more told) (kept.reads runs)));
      }

-- What was entered once its pages were held, and the answer.
module _ {D : Type 0} (past : D → Past) (author : Option Author) (mtr : List Change) (old new : Running D) (disk : Counted D) (pool : PoolState) where
  pub entered_by : HasEntryRoom old.log old.pool mtr → HoldsNamed old.ring old.store (past old.disk.disk) mtr old.pool pool → past disk.disk ≡ past old.disk.disk → EntersHeld author mtr (record old { disk = disk; pool = pool }) new → IsEntered past author mtr old new
  entered_by room held same at = record {
    room = room;
    key = at.key;
    key_is = at.key_is;
    pool = pool;
    held = held;
    is = at.is ∙ ap (λ (d : Counted D). with_entry old author mtr at.key pool d) (sym (ap (λ (r : Running D). r.disk) at.is));
    appends = at.appends;
    past_is = ap (λ (r : Running D). past r.disk.disk) at.is ∙ same;
  }

-- there is as much room where the dirty pages are the same
pub room_same : (log : LogState) (old new : PoolState) (mtr : List Change) → new.dirty ≡ old.dirty → HasEntryRoom log old mtr → HasEntryRoom log new mtr
room_same log old new mtr same room = record {
  few = room.few;
  numbers = room.numbers;
  pages = subst (λ (d : DirtyList). length d.entries + fresh_pages mtr d ≤ 256) (sym same) room.pages;
  blocks = room.blocks;
}

-- The pages of a mini-transaction were looked for, and it was entered or not.
module _ {D : Type 0} (past : D → Past) (author : Option Author) (mtr : List Change) (old mid new : Running D) (looks : OnlyLooksFor past mtr old mid) where
  pub room_then : HasEntryRoom old.log old.pool mtr → HasEntryRoom mid.log mid.pool mtr
  room_then room = subst (λ (x : Running D). HasEntryRoom x.log mid.pool mtr) (sym looks.same) (room_same old.log old.pool mid.pool mtr looks.looks.dirty room)

  pub of_store_then : AreOfStore old.store.header.spaces mtr → AreOfStore mid.store.header.spaces mtr
  of_store_then of_store = subst (λ (x : Running D). AreOfStore x.store.header.spaces mtr) (sym looks.same) of_store

  module _ (result : Result Receipt EngineFault) where
    pub entered_then : HasEntryRoom old.log old.pool mtr → HoldsNamed old.ring old.store (past old.disk.disk) mtr old.pool mid.pool → OnOk result (EntersHeld author mtr mid new) → OnOk result (IsEntered past author mtr old new)
    entered_then room held at = by result at
      where
        by : (r : Result Receipt EngineFault) → OnOk r (EntersHeld author mtr mid new) → OnOk r (IsEntered past author mtr old new)
        by (Ok v) h = entered_by past author mtr old new mid.disk mid.pool room held looks.past_is (subst (λ (x : Running D). EntersHeld author mtr x new) looks.same h)
        by (Err e) h = tt

    pub refused_then : HasEntryRoom old.log old.pool mtr → mid.disk.stop ≡ None → IfErr result (λ e. e ≡ OutOfMemory) → OnErr result (new ≡ mid) → IfErr result (IsNotEntered past mtr old new)
    refused_then room up is same = by result is same
      where
        by : (r : Result Receipt EngineFault) → IfErr r (λ e. e ≡ OutOfMemory) → OnErr r (new ≡ mid) → IfErr r (IsNotEntered past mtr old new)
        by (Ok v) h k = tt
        by (Err e) h k = subst (λ (x : Running D). IsNotEntered past mtr old x e) (sym k) (subst (IsNotEntered past mtr old mid) (sym h) (Wants room up looks))

    pub receipt_then : IfOk result (λ r. r ≡ receipt_of mid mtr) → IfOk result (λ r. r ≡ receipt_of old mtr)
    receipt_then is = by result is
      where
        by : (r : Result Receipt EngineFault) → IfOk r (λ x. x ≡ receipt_of mid mtr) → IfOk r (λ x. x ≡ receipt_of old mtr)
        by (Ok v) h = h ∙ ap (λ (x : Running D). receipt_of x mtr) looks.same
        by (Err e) h = tt

pub not_committed : {D : Type 0} (past : D → Past) (mtr : List Change) (old new : Running D) (result : Result Receipt EngineFault) → old.disk.stop ≡ None → first_missing_page old.store.spaces mtr ≡ None → first_bad_range mtr ≡ None → IfErr result (IsNotEntered past mtr old new)
    → IfErr result (IsCommitRefusal past mtr old new)
not_committed past mtr old new (Ok v) up there ranged refused = tt
not_committed past mtr old new (Err e) up there ranged refused = NotEntered e up there ranged refused

-- A mini-transaction becomes an entry of the journal: what is known of the disk then.
use Rattle.std.proofs.Common.{◌≡◌, ◌≢◌, ℕ, suc, ◌+◌, ◌-◌, ◌*◌, ◌<◌, ◌≤◌, inl, inr, ◌⊎◌, Bool, true, false, true≢false, nat_eq, not, nat_lt, ◌&&◌, ◌||◌, if◌then◌else◌, List, [], ◌∷◌, ◌++◌, length, Option, Some, None, option_map, Ok, refl, sym, ap, subst, ◌∙◌, arith}
use Rattle.std.specs.Prelude.{Contains, IsSome, is_some, slice_get}
use Rattle.std.specs.List.{list_any, position_or_len}
use Rattle.std.specs.Map.{lookup}
use Rattle.std.proofs.lemmas.Bool.Decides.{nat_tests}
use Rattle.std.proofs.lemmas.Option.{none-some, same_Some, slice_get-get_or}
use Rattle.aes_core.specs.Cipher.{encrypted}
use Rattle.aes_core.specs.declared.algorithm.Algorithm.{Algorithm}
use Rattle.counted_disk.specs.declared.counted.Counted.{Counted}
use Rattle.crash_image.specs.Recovers.{AreOfStore}
use Rattle.disk_model.specs.Event.{Event}
use Rattle.disk_model.specs.Past.{At, Past}
use Rattle.key_ring.specs.Local.{local_key}
use Rattle.key_ring.specs.Ring.{RingEntry, ring_key}
use Rattle.page_pool.specs.Changes.{held_after, name_page, page_changed_by, page_of_change, pool_after, pool_changed}
use Rattle.page_pool.specs.Contents.{MayStandAt, plain_in_page}
use Rattle.page_pool.specs.Pages.{PoolState, held_page, is_dirty, is_held, is_name, is_named, place_of}
use Rattle.page_pool.specs.declared.names.DirtyPage.{DirtyPage}
use Rattle.page_pool.specs.declared.names.PageName.{PageName}
use Rattle.page_pool.proofs.FoldLaws.{held_as_fold}
use Rattle.page_pool.proofs.HeldLaws.{held_behind, whole_changed}
use Rattle.redo_log.specs.Append.{appended, logged_entry, with_pending}
use Rattle.redo_log.proofs.AppendSteps.{text_some}
use Rattle.redo_log.specs.Blocks.{IsStoreKey, Keys}
use Rattle.redo_log.specs.State.{LogState}
use Rattle.redo_text.specs.Block.{block_count}
use Rattle.redo_text.specs.Text.{AreAllowed, text_of}
use Rattle.redo_text.specs.declared.change.Change.{Change}
use Rattle.redo_text.specs.declared.change.Change.TheVariants.{Encrypt, Floor, Kind, Put, Touch}
use Rattle.redo_text.specs.declared.key.RedoKey.{RedoKey}
use Rattle.ring_log.specs.Ring.{RingReady}
use Rattle.session_core.specs.Committing.{AreOfPages, IsOfPage}
use Rattle.session_core.specs.Dirty.{name_of_page}
use Rattle.session_core.specs.Entering.{IsAppended, IsEntered, lsn_behind, with_entry}
use Rattle.session_core.specs.Holding.{AreAtHand, IsAtHand, IsHomeInUse, IsTakenFromHome, LooksForPages}
use Rattle.session_core.specs.Keys.{log_key}
use Rattle.session_core.specs.Session.{AreEntries, IsSession, Running}
use Rattle.session_core.specs.SpaceChanges.{spaces_after, spaces_changed}
use Rattle.session_core.specs.Spaces.{StoreSpaces, home_in, is_page, space_with_id}
use Rattle.session_core.specs.Told.{ReadsAsTold}
use Rattle.session_core.proofs.SpaceEdits.{info_of_page}
use Rattle.session_core.proofs.SpaceLaws.{page_found, page_inside}
use Rattle.session_core.specs.declared.journal.Author.{Author}
use Rattle.session_core.specs.declared.journal.Entry.{Entry}
use Rattle.session_image.specs.Kept.{IsOfBook, IsRingNamed, SessionStore, session_form, session_theory}
use Rattle.session_image.proofs.Commits.{record_commits, session_commits}
use Rattle.session_image.proofs.HomesRead.{local_of_book}
use Rattle.space_head.specs.declared.space.Home.TheVariants.{Unused as UnusedHome}
use Rattle.space_head.specs.declared.space.SpaceInfo.{SpaceInfo}
use Rattle.store_files.specs.Header.{HeldHeader, HeldSpace}
use Rattle.store_files.specs.Pages.{Head, Page, Unused, Used, change_names, floor_of, has_page, is_ciphered, mtr_acts, page_after}
use Rattle.store_image.specs.Recovers.{Theory}
use Rattle.store_image.specs.Session.{Dirty, committed, now}
use Rattle.store_image.specs.SessionPhases.{IsCommit, first_of}
use Rattle.store_image.proofs.Journals.{fold_push}
use Rattle.store_image.specs.View.{Logged, block_bytes}
use Rattle.store_model.specs.Fold.{used}
use Rattle.store_model.specs.declared.contents.PlainPage.{PlainPage}
use Rattle.engine_core.specs.Journal.{numbered_from}
use Rattle.engine_core.specs.Kept.{IsReadySession, dirt_among}
use Rattle.engine_core.proofs.Dirts.{dirt_named, dirt_other}
use Rattle.engine_core.proofs.Pages.{held_clean, taken_now, unused_page}
use Rattle.engine_core.proofs.Stretches.{at_told}

-- ---- the journal

-- the entry behind the others has the next number
pub numbered_push : (spaces : List HeldSpace) (n next : ℕ) (es : List Entry) (e : Entry) → AreEntries spaces n es next → numbered_from n (es ++ e ∷ []) ≡ numbered_from n es ++ record { first = next; lsn = e.lsn; mtr = e.mtr } ∷ []
numbered_push spaces n next [] e is = ap (λ (k : ℕ). record { first = k; lsn = e.lsn; mtr = e.mtr } ∷ []) is
numbered_push spaces n next (d ∷ es) e is = ap (λ (l : List (Logged (List Change))). record { first = n; lsn = d.lsn; mtr = d.mtr } ∷ l) (numbered_push spaces (n + block_count (text_of d.mtr)) next es e is.1)

-- ---- the key

record KeyParts (ring : List RingEntry) (algorithm : Algorithm) (salt : List ℕ) (version : ℕ) (key : RedoKey) : Type 0 where
  local : local_key ring 1 version salt ≡ Some key.local
  version_is : version ≡ key.version
  algorithm_is : algorithm ≡ key.algorithm

key_parts : (ring : List RingEntry) (algorithm : Algorithm) (salt : List ℕ) (version : ℕ) (key : RedoKey) → log_key ring algorithm salt version ≡ Some key → KeyParts ring algorithm salt version key
key_parts ring algorithm salt version key is = by (local_key ring 1 version salt) refl is
  where
    by : (k : Option (List ℕ)) → local_key ring 1 version salt ≡ k → option_map (λ (local : List ℕ). record { version = version; local = local; algorithm = algorithm }) k ≡ Some key → KeyParts ring algorithm salt version key
    by None at e = absurd (none-some key e)
    by (Some local) at e =
        let same : record { version = version; local = local; algorithm = algorithm } ≡ key = same_Some _ key e in
        record { local = at ∙ ap (λ (k : RedoKey). Some k.local) same; version_is = ap (λ (k : RedoKey). k.version) same; algorithm_is = ap (λ (k : RedoKey). k.algorithm) same }

some_ring : (ring : List RingEntry) (version : ℕ) (salt local : List ℕ) → local_key ring 1 version salt ≡ Some local → IsSome (ring_key ring 1 version)
some_ring ring version salt local is = by (ring_key ring 1 version) refl is
  where
    by : (k : Option (List ℕ)) → ring_key ring 1 version ≡ k → option_map (λ (key : List ℕ). encrypted key salt) k ≡ Some local → IsSome k
    by None at e = absurd (none-some local e)
    by (Some key) at e = refl

module _ (store : SessionStore) (ring : List RingEntry) (header : HeldHeader) (header_is : header ≡ store.header) (of_book : IsOfBook ring store.book) (version : ℕ) (key : RedoKey) (key_is : log_key ring header.algorithm header.salt version ≡ Some key) where
  parts : KeyParts ring header.algorithm header.salt version key
  parts = key_parts ring header.algorithm header.salt version key key_is

  in_ring : IsSome (ring_key ring 1 version)
  in_ring = some_ring ring version header.salt key.local parts.local

  pub store_key : IsStoreKey (record { header = store.header; ring = store.book }) key
  store_key = record {
    algorithm = sym parts.algorithm_is ∙ ap (λ (h : HeldHeader). h.algorithm) header_is;
    local =
        ap (λ (v : ℕ). local_key store.book 1 v store.header.salt) (sym parts.version_is) ∙ ap (λ (h : HeldHeader). local_key store.book 1 version h.salt) (sym header_is)
        ∙ local_of_book ring store.book of_book 1 version header.salt in_ring ∙ parts.local;
  }

  pub key_named : IsRingNamed ring store.named → Contains store.named (1, key.version)
  key_named named = subst (λ (v : ℕ). Contains store.named (1, v)) parts.version_is (named 1 version in_ring)

-- ---- changes of pages alone

-- leave the spaces as they are
pub spaces_same : (mtr : List Change) (store : StoreSpaces) → AreOfPages mtr → (spaces_after mtr store).spaces ≡ store.spaces
spaces_same [] store forms = refl
spaces_same (Put s p at bytes ∷ cs) store forms = spaces_same cs (spaces_changed (Put s p at bytes) store) forms.1
spaces_same (Kind s p kind ∷ cs) store forms = spaces_same cs (spaces_changed (Kind s p kind) store) forms.1
spaces_same (Touch s p ∷ cs) store forms = absurd forms.0
spaces_same (Floor s v ∷ cs) store forms = absurd forms.0
spaces_same (Encrypt s ∷ cs) store forms = absurd forms.0

pub header_same : (mtr : List Change) (store : StoreSpaces) → (spaces_after mtr store).header ≡ store.header
header_same [] store = refl
header_same (c ∷ cs) store = header_same cs (spaces_changed c store)

-- and a head as it is
pub head_same : (mtr : List Change) (s p : ℕ) (info : SpaceInfo) → AreOfPages mtr → mtr_acts mtr s p (Head info) ≡ Head info
head_same [] s p info forms = refl
head_same (c ∷ cs) s p info forms = ap (mtr_acts cs s p) (one c forms.0 (change_names c s p)) ∙ head_same cs s p info forms.1
  where
    one : (c : Change) → IsOfPage c → (b : Bool) → (if b then page_after c (Head info) else Head info) ≡ Head info
    one c form false = refl
    one (Put z q at bytes) form true = refl
    one (Kind z q kind) form true = refl
    one (Touch z q) form true = absurd form
    one (Floor z v) form true = absurd form
    one (Encrypt z) form true = absurd form

-- ---- what a page holds

-- a page that is no head
abbrev IsNoHead : Page → Type 0
IsNoHead (Head info) = ⊥
IsNoHead Unused = Unit {0}
IsNoHead (Used page) = Unit {0}

no_head_after : (c : Change) (x : Page) → IsNoHead x → IsNoHead (page_after c x)
no_head_after c (Head info) none = absurd none
no_head_after (Put s p at bytes) Unused none = tt
no_head_after (Kind s p kind) Unused none = tt
no_head_after (Touch s p) Unused none = tt
no_head_after (Floor s v) Unused none = tt
no_head_after (Encrypt s) Unused none = tt
no_head_after (Put s p at bytes) (Used page) none = tt
no_head_after (Kind s p kind) (Used page) none = tt
no_head_after (Touch s p) (Used page) none = tt
no_head_after (Floor s v) (Used page) none = tt
no_head_after (Encrypt s) (Used page) none = tt

no_head_acts : (cs : List Change) (s p : ℕ) (x : Page) → IsNoHead x → IsNoHead (mtr_acts cs s p x)
no_head_acts [] s p x none = none
no_head_acts (c ∷ cs) s p x none = no_head_acts cs s p _ (by (change_names c s p))
  where
    by : (b : Bool) → IsNoHead (if b then page_after c x else x)
    by true = no_head_after c x none
    by false = none

used_is : (x : Page) (page : PlainPage) → IsNoHead x → plain_in_page x ≡ Some page → x ≡ Used page
used_is (Head info) page none is = absurd none
used_is Unused page none is = absurd (none-some page is)
used_is (Used own) page none is = ap Used (same_Some own page is)

stands : (p : ℕ) (x : Page) → p ≢ 0 → IsNoHead x → MayStandAt p x
stands p (Head info) some none = absurd none
stands p Unused some none = some
stands p (Used page) some none = some

-- the page that no change names holds what it held
both_false : (a b : Bool) → (a || b) ≡ false → (a ≡ false) × (b ≡ false)
both_false true b is = absurd (true≢false is)
both_false false b is = (refl, is)

other_way : (one other : PageName) → is_name one other ≡ is_name other one
other_way one other = ap (λ (b : Bool). b && nat_eq one.page other.page) (swap one.space other.space) ∙ ap (λ (b : Bool). nat_eq other.space one.space && b) (swap one.page other.page)
  where
    swap : (a b : ℕ) → nat_eq a b ≡ nat_eq b a
    swap a b = by (nat_eq a b) (nat_eq b a) refl refl
      where
        by : (x y : Bool) → nat_eq a b ≡ x → nat_eq b a ≡ y → x ≡ y
        by true true one two = refl
        by false false one two = refl
        by true false one two = let e : nat_eq b a ≡ true = grind (arith, nat_tests) in absurd (true≢false (sym e ∙ two))
        by false true one two = let e : nat_eq a b ≡ true = grind (arith, nat_tests) in absurd (true≢false (sym e ∙ one))

held_aside : (cs : List Change) (name : PageName) (o : Option PlainPage) → name_page cs name ≡ false → held_after cs name o ≡ o
held_aside [] name o none = refl
held_aside (c ∷ cs) name o none =
    let both = both_false (is_name name (page_of_change c)) (name_page cs name) none in
    let test : is_name (page_of_change c) name ≡ false = other_way (page_of_change c) name ∙ both.0 in
    ap (λ (b : Bool). held_after cs name (if b then Some (page_changed_by c (used o)) else o)) test ∙ held_aside cs name o both.1

-- what a page holds behind changes is what they make of the page that it was
pub held_page_after : (cs : List Change) (s p : ℕ) (x : Page) (page : PlainPage) → AreAllowed cs → p ≢ 0 → IsNoHead x → held_after cs (name_of_page s p) (plain_in_page x) ≡ Some page → mtr_acts cs s p x ≡ Used page
held_page_after cs s p x page allowed some none is = used_is (mtr_acts cs s p x) page (no_head_acts cs s p x none) (sym (held_as_fold cs (name_of_page s p) x allowed (stands p x some none)) ∙ is)

-- a page of which nothing is held isn't held
place_below : (test : DirtyPage → Bool) (ds : List DirtyPage) → list_any test ds ≡ true → position_or_len test ds < length ds
place_below test [] is = absurd (true≢false (sym is))
place_below test (d ∷ ds) is = by (test d) is (place_below test ds)
  where
    by : (b : Bool) → (b || list_any test ds) ≡ true → (list_any test ds ≡ true → position_or_len test ds < length ds) → (if not b then 1 + position_or_len test ds else 0) < length (d ∷ ds)
    by true at behind = omega arith
    by false at behind = let lt = behind at in omega (arith, lt)

not_held_is : (name : PageName) (pool : PoolState) → length pool.dirty.pages ≡ length pool.dirty.entries → held_page name pool ≡ None → is_held name pool ≡ false
not_held_is name pool whole none = by (is_dirty name pool.dirty) refl none
  where
    by : (b : Bool) → is_dirty name pool.dirty ≡ b → (if b then slice_get pool.dirty.pages (place_of name pool.dirty.entries) else lookup (is_name name) pool.clean) ≡ None → (b || is_some (lookup (is_name name) pool.clean)) ≡ false
    by true dirty at =
        let lt = place_below (is_named name) pool.dirty.entries dirty in
        let inside : place_of name pool.dirty.entries < length pool.dirty.pages = omega (arith, lt, whole) in
        absurd (none-some _ (sym at ∙ slice_get-get_or pool.dirty.pages (place_of name pool.dirty.entries) (used None) inside))
    by false clean at = ap is_some at

-- as many pages as entries
whole_behind : (lsn first : ℕ) (cs : List Change) (pool : PoolState) → length pool.dirty.pages ≡ length pool.dirty.entries → length (pool_after lsn first cs pool).dirty.pages ≡ length (pool_after lsn first cs pool).dirty.entries
whole_behind lsn first [] pool whole = whole
whole_behind lsn first (c ∷ cs) pool whole = whole_behind lsn first cs (pool_changed lsn first c pool) (whole_changed lsn first c pool whole)

-- ---- the pages that are looked for

module _ {D : Type 0} (store : SessionStore) (kept : Type 0) (past : D → Past) (mtr : List Change) (old : Running D) (mid : PoolState) (es : List Event) (is : IsReadySession store kept old es) (session : IsSession past old) (told : ReadsAsTold old.store old.log old.pool es)
    (looks : LooksForPages old.ring old.store (Some es) mtr old.pool mid) where
  -- a page of the store from page 1 on
  pub is_store_page : (s p : ℕ) → p ≢ 0 → has_page store.header.spaces s p ≡ true → is_page old.store.spaces s p ≡ true
  is_store_page s p numbered there =
      let (info, at, lt) = info_of_page old.store.header.spaces old.store.spaces old.store.homes s p session.spaces.have (subst (λ (h : HeldHeader). has_page h.spaces s p ≡ true) (sym is.header) there) in
      page_found old.store.spaces s p info at ∙ page_inside p info.pages numbered lt

  -- what is held of a page is the page after the journal
  pub looked_page : (s p : ℕ) (page : PlainPage) → p ≢ 0 → has_page store.header.spaces s p ≡ true → held_page (name_of_page s p) mid ≡ Some page → now (session_theory store) is.session s p ≡ Used page
  looked_page s p page numbered there at = by_look (looks.pages (name_of_page s p) page at)
    where
      by_look : (held_page (name_of_page s p) old.pool ≡ Some page) ⊎ ((name_page mtr (name_of_page s p) ≡ true) × (is_dirty (name_of_page s p) old.pool.dirty ≡ false) × IsTakenFromHome old.ring old.store (Some es) (name_of_page s p) page × IsHomeInUse old.store (name_of_page s p))
          → now (session_theory store) is.session s p ≡ Used page
      by_look (inl was) = is.holds s p page numbered there was
      by_look (inr (named, clean, taken, in_use)) =
          taken_now store kept old es is session.spaces.have told s p (is_store_page s p numbered there) clean (in_use numbered) taken.info taken.left taken.was taken.is taken.read ∙ ap Used (sym taken.gives)

  -- What is known of the disk where pages were only looked for.
  pub looked_ready : IsReadySession store kept (record old { pool = mid }) es
  looked_ready = record {
    header = is.header;
    of_book = is.of_book;
    named = is.named;
    session = is.session;
    ring = is.ring;
    ready = is.ready;
    fits = is.fits;
    start = is.start;
    journal = is.journal;
    next = is.next;
    dirty = λ s p. is.dirty s p ∙ ap (λ d. dirt_among d s p) (sym (ap (λ d. d.entries) looks.dirty));
    whole = ap (λ d. length d.pages) looks.dirty ∙ is.whole ∙ sym (ap (λ d. length d.entries) looks.dirty);
    holds = looked_page;
    heads = is.heads;
    salts = is.salts;
    recorded = is.recorded;
  }

-- ---- the session behind an entry of changes of pages

module _ {D : Type 0} (store : SessionStore) (kept : Type 0) (past : D → Past) (by : Option Author) (mtr : List Change) (old new : Running D) (es : List Event) (is : IsReadySession store kept old es) (session : IsSession past old) (told : ReadsAsTold old.store old.log old.pool es)
    (entered : IsEntered past by mtr old new) (now_is : past old.disk.disk ≡ Some es) (some : 0 < length mtr) (forms : AreOfPages mtr) (allowed : AreAllowed mtr) (of_store : AreOfStore old.store.header.spaces mtr) where
  abbrev T : Theory
  T = session_theory store

  abbrev c : ℕ → ℕ → Page
  c = now T is.session

  abbrev e : Logged (List Change)
  e = logged_entry old.log mtr

  abbrev count : ℕ
  count = block_count (text_of mtr)

  -- the pool with the pages that are changed, and behind the changes
  abbrev mid : PoolState
  mid = entered.pool

  abbrev changed : PoolState
  changed = pool_after (lsn_behind old.log mtr) old.log.next mtr mid

  abbrev dirty : ℕ → ℕ → Option Dirty
  dirty s p = dirt_among changed.dirty.entries s p

  looks : LooksForPages old.ring old.store (Some es) mtr old.pool mid
  looks = subst (λ (h : Past). LooksForPages old.ring old.store h mtr old.pool mid) now_is entered.held.looks

  mid_whole : length mid.dirty.pages ≡ length mid.dirty.entries
  mid_whole = ap (λ d. length d.pages) looks.dirty ∙ is.whole ∙ sym (ap (λ d. length d.entries) looks.dirty)

  -- ---- what the pages are

  head_there : (s : ℕ) → has_page store.header.spaces s 0 ≡ true → (info : SpaceInfo) × (space_with_id old.store.spaces s ≡ Some info) × (c s 0 ≡ Head info)
  head_there s there =
      let (info, at, lt) = info_of_page old.store.header.spaces old.store.spaces old.store.homes s 0 session.spaces.have (subst (λ (h : HeldHeader). has_page h.spaces s 0 ≡ true) (sym is.header) there) in
      (info, at, is.heads s info there at)

  module _ (s p : ℕ) (numbered : p ≢ 0) (there : has_page store.header.spaces s p ≡ true) where
    abbrev name : PageName
    name = name_of_page s p

    page_is : is_page old.store.spaces s p ≡ true
    page_is = is_store_page store kept past mtr old mid es is session told looks s p numbered there

    -- what is held before the changes is the page
    held_page_is : (page : PlainPage) → held_page name mid ≡ Some page → c s p ≡ Used page
    held_page_is page at = looked_page store kept past mtr old mid es is session told looks s p page numbered there at

    -- or the page isn't held, and unused where changes name it
    not_held : name_page mtr name ≡ true → held_page name mid ≡ None → c s p ≡ Unused
    not_held named none = by_hand (subst (λ (h : Past). AreAtHand old.store mtr mid) now_is entered.held.named name named)
      where
        apart : is_held name mid ≡ false
        apart = not_held_is name mid mid_whole none

        by_hand : IsAtHand old.store name mid → c s p ≡ Unused
        by_hand (inl held) = absurd (true≢false (sym held ∙ apart))
        by_hand (inr (first, unused)) =
            unused_page store kept old es is session.spaces.have told s p page_is (ap (λ d. is_dirty name d) (sym looks.dirty) ∙ held_clean (is_dirty name mid.dirty) _ apart) unused

    -- what is held behind the changes is what they make of the page
    holds_after : (page : PlainPage) → held_page name changed ≡ Some page → mtr_acts mtr s p (c s p) ≡ Used page
    holds_after page at = by_held (held_page name mid) refl
      where
        after : held_after mtr name (held_page name mid) ≡ Some page
        after = sym (held_behind (lsn_behind old.log mtr) old.log.next mtr mid name mid_whole) ∙ at

        by_named : (b : Bool) → name_page mtr name ≡ b → held_page name mid ≡ None → mtr_acts mtr s p (c s p) ≡ Used page
        by_named true named none =
            ap (mtr_acts mtr s p) (not_held named none) ∙ held_page_after mtr s p Unused page allowed numbered tt (ap (held_after mtr name) (sym none) ∙ after)
        by_named false aside none = absurd (none-some page (sym none ∙ sym (held_aside mtr name (held_page name mid) aside) ∙ after))

        by_held : (o : Option PlainPage) → held_page name mid ≡ o → mtr_acts mtr s p (c s p) ≡ Used page
        by_held None none = by_named (name_page mtr name) refl none
        by_held (Some x) held =
            ap (mtr_acts mtr s p) (held_page_is x held) ∙ held_page_after mtr s p (Used x) page allowed numbered tt (ap (held_after mtr name) (sym held) ∙ after)

  -- ---- the entry

  blocks_some : 0 < count
  blocks_some = let long = text_some mtr some in omega (arith, long)

  is_commit : IsCommit T is.session e count dirty
  is_commit = record {
    some = blocks_some;
    few = entered.room.few;
    first = sym is.next;
    lsn = ap (λ (n : ℕ). (n + count) * block_bytes) (sym is.next);
    named = λ s p named. dirt_named T (lsn_behind old.log mtr) old.log.next mtr mid s p named ∙ ap (λ (o : Option Dirty). Some (record { first = first_of T o old.log.next; lsn = lsn_behind old.log mtr })) (sym (dirty_is s p));
    others = λ s p aside. dirt_other T (lsn_behind old.log mtr) old.log.next mtr mid s p aside ∙ sym (dirty_is s p);
    floors = λ s there. let same = acts_head s there in let floor = ap floor_of same in omega (arith, floor);
    plain = λ s there clear. sym (ap is_ciphered (acts_head s there)) ∙ clear;
  }
    where
      dirty_is : (s p : ℕ) → is.session.dirty s p ≡ dirt_among mid.dirty.entries s p
      dirty_is s p = is.dirty s p ∙ ap (λ d. dirt_among d s p) (sym (ap (λ d. d.entries) looks.dirty))

      acts_head : (s : ℕ) → has_page store.header.spaces s 0 ≡ true → mtr_acts mtr s 0 (c s 0) ≡ c s 0
      acts_head s there = let (info, at, head) = head_there s there in ap (mtr_acts mtr s 0) head ∙ head_same mtr s 0 info forms ∙ sym head

  abbrev log_now : LogState
  log_now = appended old.log mtr entered.key

  abbrev q : Running D
  q = with_entry old by mtr entered.key mid new.disk

  appends : IsAppended old.log log_now mtr entered.key
  appends = subst (λ (r : Running D). IsAppended old.log r.log mtr entered.key) entered.is entered.appends

  abbrev keys : Keys
  keys = record { header = store.header; ring = store.book }

  blocks : old.log.blocks ≡ store.header.blocks
  blocks = session.ring ∙ ap (λ (h : HeldHeader). h.blocks) is.header

  ring_behind : RingReady store.header.blocks (session_form store) (with_pending is.ring log_now) es
  ring_behind =
      let here : At (RingReady old.log.blocks (session_form store) is.ring) (Some es) = at_told es (subst (λ (n : ℕ). RingReady n (session_form store) is.ring es) (sym blocks) is.ready.ring) in
      subst (λ (n : ℕ). RingReady n (session_form store) (with_pending is.ring log_now) es) blocks ((appends.ready keys is.ring (Some es) here).here es refl)

  is_key : IsStoreKey keys entered.key
  is_key = store_key store old.ring old.store.header is.header is.of_book old.active entered.key entered.key_is

  room : is.session.next + count ≤ is.session.from + store.header.blocks
  room =
      let free = entered.room.blocks in
      let within = session.numbers.room in
      let order = session.numbers.order in
      let next = is.next in
      let from = is.ready.from in
      let fits = is.fits.from in
      let size = blocks in
      omega (arith, free, within, order, next, from, fits, size)

  ready : IsReadySession store kept q es
  ready = record {
    header = header_same mtr old.store ∙ is.header;
    of_book = is.of_book;
    named = is.named;
    session = committed T is.session e count dirty;
    ring = with_pending is.ring log_now;
    ready = session_commits store is.session is.ring es old.log log_now mtr entered.key dirty is.ready is.fits is.next blocks is_key
        (key_named store old.ring old.store.header is.header is.of_book old.active entered.key entered.key_is is.named) (subst (λ (h : HeldHeader). AreOfStore h.spaces mtr) is.header of_store) refl is_commit (appends.fits is.ring is.fits) ring_behind
        appends.entry appends.journal;
    fits = appends.fits is.ring is.fits;
    start = is.start;
    journal = ap (λ (l : List (Logged (List Change))). l ++ e ∷ []) is.journal ∙ sym (numbered_push old.store.header.spaces old.begins old.log.next old.journal (record { by = by; lsn = lsn_behind old.log mtr; mtr = mtr }) session.entries);
    next = ap (λ (n : ℕ). n + count) is.next;
    dirty = λ s p. refl;
    whole = whole_behind (lsn_behind old.log mtr) old.log.next mtr mid mid_whole;
    holds = λ s p page numbered there at. now_acts s p ∙ holds_after s p numbered there page at;
    heads = λ s info there at.
        let own = subst (λ (l : List SpaceInfo). space_with_id l s ≡ Some info) (spaces_same mtr old.store forms) at in
        now_acts s 0 ∙ ap (mtr_acts mtr s 0) (is.heads s info there own) ∙ head_same mtr s 0 info forms;
    salts = λ s info there at. is.salts s info there (subst (λ (l : List SpaceInfo). space_with_id l s ≡ Some info) (spaces_same mtr old.store forms) at);
    recorded = λ has. record_commits store is.session es e count dirty (is.recorded has) is_commit room;
  }
    where
      now_acts : (s p : ℕ) → now T (committed T is.session e count dirty) s p ≡ mtr_acts mtr s p (c s p)
      now_acts s p = fold_push T is.session.journal e s p (is.session.base s p)

  -- What is known of the disk, with the entry.
  pub commit_ready : IsReadySession store kept new es
  commit_ready = subst (λ (r : Running D). IsReadySession store kept r es) (sym entered.is) ready

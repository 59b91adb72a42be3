-- What a session reads of a page is the page after the journal.
use Rattle.std.proofs.Common.{◌≡◌, ◌≢◌, ℕ, ◌+◌, ◌-◌, ◌<◌, inl, inr, ◌⊎◌, Bool, true, false, true≢false, nat_eq, nat_lt, ◌&&◌, ◌||◌, if◌then◌else◌, List, [], ◌∷◌, length, min, take, drop, Option, Some, None, option_map, refl, sym, ap, subst, ◌∙◌, arith}
use Rattle.std.specs.Prelude.{IfSome, IsSome, MatchBool, Result, Ok}
use Rattle.std.specs.List.{list_any}
use Rattle.std.proofs.lemmas.Bool.Decides.{nat_tests}
use Rattle.std.proofs.lemmas.List.{length-drop, length-take}
use Rattle.std.proofs.lemmas.Option.{none-some, same_Some}
use Rattle.aes_core.specs.declared.algorithm.Algorithm.{Algorithm}
use Rattle.byte_list.specs.Bytes.{range}
use Rattle.byte_list.specs.Fields.{be16_at, be32_at, be64_at}
use Rattle.crash_image.proofs.StandsBy.{folded}
use Rattle.disk_model.specs.Event.{Event}
use Rattle.disk_model.specs.declared.names.FileName.TheVariants.{Space}
use Rattle.key_ring.specs.Local.{local_key}
use Rattle.key_ring.specs.Ring.{RingEntry, ring_key}
use Rattle.page_places.specs.Texts.{are_zero, held, page_bytes, pages}
use Rattle.page_places.proofs.Texts.{held_is}
use Rattle.page_pool.specs.Pages.{PoolState, held_page, is_dirty, is_held, is_named, plain_page}
use Rattle.page_pool.specs.declared.names.DirtyPage.{DirtyPage}
use Rattle.page_pool.specs.declared.names.PageName.{PageName}
use Rattle.page_text.specs.Parts.{body}
use Rattle.page_text.specs.Text.{IsText, Plain, plain_of}
use Rattle.page_text.specs.declared.key.PageKey.{PageKey}
use Rattle.places.specs.Places.{shown}
use Rattle.places.proofs.Steps.{length-shown}
use Rattle.session_core.specs.Dirty.{name_of_page}
use Rattle.session_core.specs.Keys.{space_key}
use Rattle.session_core.specs.Reading.{FromHome, Held, IsHomeRead, IsPageOf, IsPoolAfter, NotUsed}
use Rattle.session_core.specs.Session.{Running}
use Rattle.session_core.specs.Spaces.{HaveLists, home_in, is_page, space_with_id}
use Rattle.session_core.specs.Told.{ReadsAsTold}
use Rattle.session_core.proofs.HeldPages.{held_behind}
use Rattle.session_core.proofs.SpaceLaws.{page_below, page_some, space_id}
use Rattle.session_image.specs.Kept.{IsHomeOf, IsOfBook, SessionStore, page_count, session_theory}
use Rattle.session_image.proofs.HomesRead.{clear_key_of_book, page_key_of_book, session_page}
use Rattle.space_head.specs.declared.space.Home.{Home}
use Rattle.space_head.specs.declared.space.Home.TheVariants.{Clean, Unused as UnusedHome, Dirty as DirtyHome}
use Rattle.space_head.specs.declared.space.SpaceInfo.{SpaceInfo}
use Rattle.store_files.specs.Header.{HeldHeader, HeldSpace}
use Rattle.store_files.specs.Pages.{HasKeyBytes, Head, MeansPage, Page, Unused, Used, has_page, head_page, key_at, key_id_of, page_held, pages_of, salts_of}
use Rattle.store_files.proofs.PageLaws.{has_head_page}
use Rattle.store_files.proofs.TextsOnce.{plain_one}
use Rattle.store_form.specs.PageRead.{IsHomeOpened, IsTextOpened}
use Rattle.store_form.specs.Rest.{home_told}
use Rattle.store_form.specs.declared.fault.RestFault.{RestFault}
use Rattle.store_form.proofs.RestPages.{Blank, HomeTells, Means, clear_text, held_zero, text_in_is, text_not_zero}
use Rattle.store_image.specs.Recovers.{fold_pages}
use Rattle.store_image.specs.Session.{now}
use Rattle.store_image.specs.View.{Bad, Holds, Zero}
use Rattle.store_image.specs.View as image
use Rattle.store_model.specs.declared.contents.PlainPage.{PlainPage}
use Rattle.engine_core.specs.Journal.{journal_of}
use Rattle.engine_core.specs.Kept.{HoldsNow, IsReadySession, dirt_among}
use Rattle.engine_core.specs.Reading.{contents_now}
use Rattle.engine_core.proofs.Firsts.{count_above}

-- ---- the spaces

-- a space of the session is one of the header
space_in_header : (hs : List HeldSpace) (ss : List SpaceInfo) (os : List (List Home)) (s : ℕ) (info : SpaceInfo) → HaveLists hs ss os → space_with_id ss s ≡ Some info → (key_id_of hs s ≡ info.key_id) × ((p : ℕ) → p < info.pages → has_page hs s p ≡ true)
space_in_header [] [] os s info have is = absurd (none-some info is)
space_in_header [] (x ∷ ss) os s info have is = absurd have
space_in_header (h ∷ hs) [] os s info have is = absurd have
space_in_header (h ∷ hs) (x ∷ ss) [] s info have is = absurd have
space_in_header (h ∷ hs) (x ∷ ss) (o ∷ os) s info (space, pages_same, key_id, long, rest) is = by (nat_eq x.space s) (ap (λ (n : ℕ). nat_eq n s) (sym space)) (space_in_header hs ss os s info rest) is
  where
    by : (b : Bool) → nat_eq h.space s ≡ b → (space_with_id ss s ≡ Some info → (key_id_of hs s ≡ info.key_id) × ((p : ℕ) → p < info.pages → has_page hs s p ≡ true)) → (if b then Some x else space_with_id ss s) ≡ Some info
        → ((if nat_eq h.space s then h.key_id else key_id_of hs s) ≡ info.key_id) × ((p : ℕ) → p < info.pages → (if nat_eq h.space s then nat_lt p h.pages else has_page hs s p) ≡ true)
    by true test behind at =
        let same : x ≡ info = same_Some x info at in (
          ap (λ (b : Bool). if b then h.key_id else key_id_of hs s) test ∙ sym key_id ∙ ap (λ (i : SpaceInfo). i.key_id) same,
          λ p lt. ap (λ (b : Bool). if b then nat_lt p h.pages else has_page hs s p) test ∙ below p lt (ap (λ (i : SpaceInfo). i.pages) same),
        )
      where
        below : (p : ℕ) → p < info.pages → x.pages ≡ info.pages → nat_lt p h.pages ≡ true
        below p lt same = let low : p < h.pages = omega (arith, lt, same, pages_same) in grind (arith, nat_tests)
    by false test behind at =
        let both = behind at in (
          ap (λ (b : Bool). if b then h.key_id else key_id_of hs s) test ∙ both.0,
          λ p lt. ap (λ (b : Bool). if b then nat_lt p h.pages else has_page hs s p) test ∙ both.1 p lt,
        )

-- ---- the keys

-- a ring whose keys a book has has none of version 0
none_clear : (ring book : List RingEntry) → IsOfBook ring book → (id : ℕ) → ring_key ring id 0 ≡ None
none_clear ring book of_book id = by (ring_key ring id 0) refl
  where
    by : (k : Option (List ℕ)) → ring_key ring id 0 ≡ k → k ≡ None
    by None is = refl
    by (Some key) is = absurd (none-some key (sym (of_book.clear id) ∙ of_book.keys id 0 (subst IsSome (sym is) refl) ∙ is))

some_key : (f : List ℕ → PageKey) (g : List ℕ → List ℕ) (k : Option (List ℕ)) → IsSome (option_map f (option_map g k)) → IsSome k
some_key f g None some = absurd (cc)
some_key f g (Some key) some = refl

-- ---- texts

-- the plain page that is left in a page's place
length-left : (left : List ℕ) → length (body left) + 46 ≡ 16384 → length left ≡ 16384
length-left left long =
    let whole : length (body left) ≡ min (length left - 8 - 38) (length left - 38) = length-take (length left - 8 - 38) (drop 38 left) ∙ ap (λ (n : ℕ). min (length left - 8 - 38) n) (length-drop 38 left) in
    omega (arith, whole, long)

plain_same : (left : List ℕ) → length left ≡ 16384 → plain_of left ≡ record { kind = (plain_page left).kind; bytes = (plain_page left).body }
unfolding plain_page
plain_same left long = let bodies : body left ≡ range 38 16338 left = ap (λ (n : ℕ). range 38 (n - 8 - 38) left) long in λ i. record { kind = be16_at left 24; bytes = bodies i }

-- what the bytes of a home tell of its page, from page 1 on
home_says : (store : SessionStore) (s p : ℕ) (bytes : List ℕ) (c : ℕ → ℕ → Page) → p ≢ 0 → (h : image.Held) → held p bytes ≡ h → IsHomeOf store s p h (c s p) → HomeTells store.header store.book (salts_of store.base) c s p bytes
home_says store s p bytes c some (Holds t) at means = Means (subst (λ (u : image.Text). IsHomeOf store s p (Holds u) (c s p)) (sym (held_is p bytes t at).1 ∙ text_in_is bytes) means)
home_says store s p bytes c some Zero at unused = Blank (held_zero p bytes at) some unused
home_says store s p bytes c some Bad at none = absurd none

-- a text of a page isn't zero bytes
means_some : (header : HeldHeader) (keys : List RingEntry) (salts : ℕ → List ℕ) (s p : ℕ) (bytes : List ℕ) (x : Page) → 8 < length bytes → MeansPage header keys salts s p (clear_text bytes) x → are_zero bytes ≡ false
means_some header keys salts s p bytes (Head info) long (first, space, typed, text) = text_not_zero 16384 s 0 (be64_at bytes 16) (be32_at bytes 0) None (head_page info) bytes long text
means_some header keys salts s p bytes Unused long means = elim means [ ]
means_some header keys salts s p bytes (Used page) long (some, key, text) = text_not_zero 16384 s p (be64_at bytes 16) (be32_at bytes 0) (key_at header keys salts s (be32_at bytes 0)) (record { kind = page.kind; bytes = page.body }) bytes long text

-- ---- the dirty pages

pub none_among : (ds : List DirtyPage) (s p : ℕ) → list_any (is_named (name_of_page s p)) ds ≡ false → dirt_among ds s p ≡ None
none_among [] s p none = refl
none_among (d ∷ ds) s p none = by (is_named (name_of_page s p) d) none (none_among ds s p)
  where
    by : (b : Bool) → (b || list_any (is_named (name_of_page s p)) ds) ≡ false → (list_any (is_named (name_of_page s p)) ds ≡ false → dirt_among ds s p ≡ None) → (if b then Some (record { first = d.first; lsn = d.lsn }) else dirt_among ds s p) ≡ None
    by true is behind = absurd (true≢false is)
    by false is behind = behind is

pub held_clean : (a b : Bool) → (a || b) ≡ false → a ≡ false
held_clean true b is = absurd (true≢false is)
held_clean false b is = refl

-- ---- the page that a session reads

module _ {D : Type 0} (store : SessionStore) (kept : Type 0) (r : Running D) (es : List Event) (is : IsReadySession store kept r es) (have : HaveLists r.store.header.spaces r.store.spaces r.store.homes) (told : ReadsAsTold r.store r.log r.pool es) (s p : ℕ) (page_is : is_page r.store.spaces s p ≡ true) where
  abbrev c : ℕ → ℕ → Page
  c = now (session_theory store) is.session

  some : p ≢ 0
  some = page_some r.store.spaces s p page_is

  abbrev IsOfHeader : SpaceInfo → Type 0
  IsOfHeader info = (key_id_of store.header.spaces s ≡ info.key_id) × ((q : ℕ) → q < info.pages → has_page store.header.spaces s q ≡ true)

  of_header : (info : SpaceInfo) → space_with_id r.store.spaces s ≡ Some info → IsOfHeader info
  of_header info at = subst (λ (h : HeldHeader). (key_id_of h.spaces s ≡ info.key_id) × ((q : ℕ) → q < info.pages → has_page h.spaces s q ≡ true)) is.header (space_in_header r.store.header.spaces r.store.spaces r.store.homes s info have at)

  there : has_page store.header.spaces s p ≡ true
  there = let (info, at, lt) = page_below r.store.spaces s p page_is in (of_header info at).1 p lt

  abbrev bytes : List ℕ
  bytes = shown (Space s) page_bytes p es

  long : length bytes ≡ 16384
  long =
      let files = is.ready.moment.files in
      let first = has_head_page store.header.spaces s p there in
      length-shown (Space s) (pages (page_count store.header.spaces s)) p es (count_above store.header.spaces s p there) (files.spaces s first)

  module _ (clean : is_dirty (name_of_page s p) r.pool.dirty ≡ false) where
    tells : HomeTells store.header store.book (salts_of store.base) c s p bytes
    tells = home_says store s p bytes c some (held p bytes) refl (session_page store is.session is.ring es is.ready s p there (is.dirty s p ∙ none_among r.pool.dirty.entries s p clean))

    -- what is known of the home is what its bytes tell
    home_is : home_in r.store s p ≡ home_told bytes
    home_is = let (info, at, lt) = page_below r.store.spaces s p page_is in told.homes s p info at lt clean

    zero_of : home_in r.store s p ≡ UnusedHome → are_zero bytes ≡ true
    zero_of unused = by (are_zero bytes) (sym home_is ∙ unused)
      where
        by : (b : Bool) → (if b then UnusedHome else Clean (be32_at bytes 0)) ≡ UnusedHome → b ≡ true
        by true e = refl
        by false e = absurd (cc)

    used_of : (home_in r.store s p ≡ UnusedHome → ⊥) → are_zero bytes ≡ false
    used_of in_use = by (are_zero bytes) refl
      where
        by : (b : Bool) → are_zero bytes ≡ b → b ≡ false
        by false e = refl
        by true e = absurd (in_use (home_is ∙ ap (λ (b : Bool). if b then UnusedHome else Clean (be32_at bytes 0)) e))

    pub unused_page : home_in r.store s p ≡ UnusedHome → c s p ≡ Unused
    unused_page unused = by tells
      where
        by : HomeTells store.header store.book (salts_of store.base) c s p bytes → c s p ≡ Unused
        by (Blank zero first none) = none
        by (Means means) =
            let size = long in
            absurd (true≢false (sym (zero_of unused) ∙ means_some store.header store.book (salts_of store.base) s p bytes (c s p) (omega (arith, size)) means))

    -- the keys of the ring are those of the book
    key_same : (info : SpaceInfo) → space_with_id r.store.spaces s ≡ Some info → (v : ℕ) → (v ≢ 0 → IsSome (space_key r.ring r.store.header.algorithm info v)) → key_at store.header store.book (salts_of store.base) s v ≡ space_key r.ring r.store.header.algorithm info v
    key_same info at v keyed = book (nat_eq v 0) refl ∙ own
      where
        first : has_page store.header.spaces s 0 ≡ true
        first = has_head_page store.header.spaces s p there

        own : key_at store.header r.ring (salts_of store.base) s v ≡ space_key r.ring r.store.header.algorithm info v
        own =
            let id = (of_header info at).0 in
            let salt = is.salts s info first at in
            let algorithm : store.header.algorithm ≡ r.store.header.algorithm = sym (ap (λ (h : HeldHeader). h.algorithm) is.header) in
            λ i. option_map (λ local. record { local = local; algorithm = algorithm i }) (local_key r.ring (id i) v (salt i))

        found : v ≢ 0 → IsSome (ring_key r.ring (key_id_of store.header.spaces s) v)
        found other = subst (λ (id : ℕ). IsSome (ring_key r.ring id v)) (sym (of_header info at).0) (some_key _ _ _ (keyed other))

        book : (b : Bool) → nat_eq v 0 ≡ b → key_at store.header store.book (salts_of store.base) s v ≡ key_at store.header r.ring (salts_of store.base) s v
        book true zero =
            let e : 0 ≡ v = grind (arith, nat_tests) in
            subst (λ (n : ℕ). key_at store.header store.book (salts_of store.base) s n ≡ key_at store.header r.ring (salts_of store.base) s n) e
            (clear_key_of_book store.header (salts_of store.base) r.ring store.book is.of_book s (none_clear r.ring store.book is.of_book (key_id_of store.header.spaces s)))
        book false other = page_key_of_book store.header (salts_of store.base) r.ring store.book is.of_book s v (found (λ e. let none : nat_eq v 0 ≡ true = grind (arith, nat_tests) in absurd (true≢false (sym none ∙ other))))

    -- the text that a home was read as
    text_page : (info : SpaceInfo) (left : List ℕ) (was : Home) → space_with_id r.store.spaces s ≡ Some info → are_zero bytes ≡ false → IsTextOpened s p info.key_id (space_key r.ring r.store.header.algorithm info (be32_at bytes 0)) bytes left (Ok was) → c s p ≡ Used (plain_page left)
    text_page info left UnusedHome at full opened = absurd opened
    text_page info left DirtyHome at full opened = absurd opened
    text_page info left (Clean version) at full (same, text) = by tells
      where
        key : Option PageKey
        key = key_at store.header store.book (salts_of store.base) s (be32_at bytes 0)

        lsn : ℕ
        lsn = be64_at bytes 16

        moved : IsText 16384 s p lsn version key (plain_of left) bytes
        moved =
            let keys = key_same info at (be32_at bytes 0) (λ other. text.keyed (λ e. other (sym same ∙ e))) in
            subst (λ (k : Option PageKey). IsText 16384 s p lsn version k (plain_of left) bytes) (sym keys) text

        plain : IsText 16384 s p lsn (be32_at bytes 0) key (record { kind = (plain_page left).kind; bytes = (plain_page left).body }) bytes
        plain =
            subst (λ (v : ℕ). IsText 16384 s p lsn v key (record { kind = (plain_page left).kind; bytes = (plain_page left).body }) bytes) same
            (subst (λ (x : Plain). IsText 16384 s p lsn version key x bytes) (plain_same left (length-left left text.body_long)) moved)

        at_page : (x : Page) → c s p ≡ x → MeansPage store.header store.book (salts_of store.base) s p (clear_text bytes) x → c s p ≡ Used (plain_page left)
        at_page (Head own) here (first, space, typed, own_text) = absurd (some first)
        at_page Unused here means = elim means [ ]
        at_page (Used page) here (other, long_key, own_text) =
            let one : record { kind = page.kind; bytes = page.body } ≡ record { kind = (plain_page left).kind; bytes = (plain_page left).body } =
            plain_one 16384 s p lsn (be32_at bytes 0) key (record { kind = page.kind; bytes = page.body }) (record { kind = (plain_page left).kind; bytes = (plain_page left).body }) bytes long_key own_text plain in
            here ∙ (λ i. Used (record { kind = (one i).kind; body = (one i).bytes }))

        by : HomeTells store.header store.book (salts_of store.base) c s p bytes → c s p ≡ Used (plain_page left)
        by (Blank zero first none) = absurd (true≢false (sym zero ∙ full))
        by (Means means) = at_page (c s p) refl means

  -- The page that a home gives that isn't unused is the page after the journal.
  pub taken_now : is_dirty (name_of_page s p) r.pool.dirty ≡ false → (home_in r.store s p ≡ UnusedHome → ⊥) → (info : SpaceInfo) (left : List ℕ) (was : Home) → space_with_id r.store.spaces s ≡ Some info
      → IsHomeRead r.ring r.store.header.algorithm info p (Some es) left (Ok was) → c s p ≡ Used (plain_page left)
  taken_now clean in_use info left was at read =
      let space = space_id r.store.spaces s info at in
      let same : read.bytes ≡ bytes = read.told.here es refl ∙ ap (λ (n : ℕ). shown (Space n) page_bytes p es) space in
      let full = used_of clean in_use in
      let key = λ (b : List ℕ). space_key r.ring r.store.header.algorithm info (be32_at b 0) in
      let opened : IsHomeOpened s p info.key_id (key bytes) bytes left (Ok was) =
      subst (λ (b : List ℕ). IsHomeOpened s p info.key_id (key b) b left (Ok was)) same (subst (λ (n : ℕ). IsHomeOpened n p info.key_id (key read.bytes) read.bytes left (Ok was)) space read.opened) in
      text_page clean info left was at full (subst (λ (b : Bool). MatchBool b ((answer was ≡ Ok UnusedHome) × (left ≡ bytes)) (IsTextOpened s p info.key_id (key bytes) bytes left (Ok was))) full opened)
    where
      answer : Home → Result Home RestFault
      answer was = Ok was

  -- The page that is read is the page after the journal.
  pub page_now : (page : Option PlainPage) → IsPageOf r.ring r.store r.pool (Some es) s p page → c s p ≡ page_held page
  page_now page (Held held_here held_is_here) = is.holds s p held_here some there held_is_here
  page_now page (NotUsed apart unused) = unused_page (held_clean (is_dirty (name_of_page s p) r.pool.dirty) _ apart) unused
  page_now page (FromHome info left was apart in_use at read) = taken_now (held_clean (is_dirty (name_of_page s p) r.pool.dirty) _ apart) in_use info left was at read

  -- and by the fold of the journal over the base contents
  pub contents_are : contents_now store r s p ≡ c s p
  contents_are =
      let moment = is.ready.moment in
      sym (ap (λ base. fold_pages (session_theory store) is.session.journal base s p) moment.base
      ∙ ap (λ l. fold_pages (session_theory store) l (pages_of store.base) s p) is.journal
      ∙ folded store.header store.book (salts_of store.base) (journal_of r) store.base moment.have (pages_of store.base) (λ z q here. refl) s p there)

-- ---- what is held behind a read

one_name : (s p z q : ℕ) → name_of_page s p ≡ name_of_page z q → (s ≡ z) × (p ≡ q)
one_name s p z q is = (ap (λ (n : PageName). n.space) is, ap (λ (n : PageName). n.page) is)

pub holds_behind : {D : Type 0} (store : SessionStore) (kept : Type 0) (r : Running D) (es : List Event) (is : IsReadySession store kept r es) → HaveLists r.store.header.spaces r.store.spaces r.store.homes → ReadsAsTold r.store r.log r.pool es
    → (s p : ℕ) → is_page r.store.spaces s p ≡ true → (new : PoolState) → IsPoolAfter r.ring r.store (Some es) s p r.pool new → HoldsNow store is.session new
holds_behind store kept r es is have told s p page_is new after z q page other there at = by (held_behind r.ring r.store (Some es) s p r.pool new (name_of_page z q) page after at)
  where
    by : (held_page (name_of_page z q) r.pool ≡ Some page) ⊎ ((name_of_page s p ≡ name_of_page z q) × (is_held (name_of_page s p) r.pool ≡ false) × IsPageOf r.ring r.store r.pool (Some es) s p (Some page)) → now (session_theory store) is.session z q ≡ Used page
    by (inl was) = is.holds z q page other there was
    by (inr (name, apart, read)) =
        let (space, number) = one_name s p z q name in
        subst (λ (n : ℕ). now (session_theory store) is.session z n ≡ Used page) number
        (subst (λ (n : ℕ). now (session_theory store) is.session n p ≡ Used page) space (page_now store kept r es is have told s p page_is (Some page) read))

-- A session without dirty pages, whose last checkpoint names the log's next block, is a store at rest.
use Rattle.std.proofs.Common.{◌≡◌, ◌≢◌, ℕ, suc, zero, ◌<◌, Bool, true, false, true≢false, eq-eqb, ne_eqb, nat_eq, if◌then◌else◌, List, [], ◌∷◌, length, slice_index_or, Some, None, Ok, refl, sym, ap, ◌∙◌, subst, arith}
use Rattle.std.specs.List.{All}
use Rattle.std.proofs.lemmas.Bool.Decides.{nat_tests}
use Rattle.std.proofs.lemmas.Option.{none-some}
use Rattle.disk_model.specs.Event.{Event, reads}
use Rattle.disk_model.specs.Past.{Past, At}
use Rattle.disk_model.specs.declared.names.FileName.TheVariants.{Log, Space}
use Rattle.page_places.specs.Texts.{page_bytes, pages}
use Rattle.page_pool.specs.Pages.{DirtyList, is_dirty}
use Rattle.page_pool.specs.declared.names.DirtyPage.{DirtyPage}
use Rattle.page_pool.specs.declared.names.PageName.{PageName}
use Rattle.places.specs.Places.{HasFile, shown}
use Rattle.space_head.specs.Head.{head_of}
use Rattle.space_head.specs.declared.space.Home.{Home}
use Rattle.space_head.specs.declared.space.Home.TheVariants.{Dirty, Unused}
use Rattle.space_head.specs.declared.space.SpaceInfo.{SpaceInfo}
use Rattle.store_files.specs.Checkpoint.{IsNewestCheckpoint}
use Rattle.store_files.specs.Header.{HeldHeader, HeldSpace, are_in_order}
use Rattle.store_files.proofs.HeaderBounds.{limits}
use Rattle.store_files.proofs.SpacesInOrder.{ordered}
use Rattle.store_form.specs.Rest.{HaveHomes, IsRestForm, ReadsAtRest, SpacesRead, head_in_mode, home_told, homes_of}
use Rattle.session_core.specs.Dirty.{name_of_page}
use Rattle.session_core.specs.Files.{HasStoreFiles}
use Rattle.session_core.specs.Session.{IsSession, Running}
use Rattle.session_core.specs.Spaces.{HaveLists, home_in, space_with_id}
use Rattle.session_core.specs.Told.{ReadsAsTold}

-- ---- what is found by an id is what stands there, since the ids differ

own_id : (x : SpaceInfo) (xs : List SpaceInfo) → space_with_id (x ∷ xs) x.space ≡ Some x
own_id x xs = ap (λ (b : Bool). if b then Some x else space_with_id xs x.space) (eq-eqb x.space x.space refl)

own_homes : (x : SpaceInfo) (xs : List SpaceInfo) (o : List Home) (os : List (List Home)) → homes_of (x ∷ xs) (o ∷ os) x.space ≡ o
own_homes x xs o os = ap (λ (b : Bool). if b then o else homes_of xs os x.space) (eq-eqb x.space x.space refl)

-- a later space has a higher id
later_id : (id : ℕ) (hs : List HeldSpace) (ss : List SpaceInfo) (os : List (List Home)) (s : ℕ) (info : SpaceInfo) → HaveLists hs ss os → are_in_order id hs ≡ true → space_with_id ss s ≡ Some info → id < s
later_id id hs [] os s info have order is = absurd (none-some info is)
later_id id [] (x ∷ ss) os s info have order is = absurd have
later_id id (h ∷ hs) (x ∷ ss) [] s info have order is = absurd have
later_id id (h ∷ hs) (x ∷ ss) (o ∷ os) s info (space, pages, key_id, long, rest) order is =
    let at = ordered id h hs order in
    by (nat_eq x.space s) refl at.lower (λ found. later_id h.space hs ss os s info rest at.rest found) is
  where
    by : (b : Bool) → nat_eq x.space s ≡ b → id < h.space → (space_with_id ss s ≡ Some info → h.space < s) → (if b then Some x else space_with_id ss s) ≡ Some info → id < s
    by true test lower later is = let own : x.space ≡ s = grind (arith, nat_tests) in omega (arith, lower, own, space)
    by false test lower later is = let up = later is in omega (arith, lower, up)

-- one that is found among the later ones is found among all
module _ (h : HeldSpace) (hs : List HeldSpace) (x : SpaceInfo) (ss : List SpaceInfo) (o : List Home) (os : List (List Home)) (own : x.space ≡ h.space) (have : HaveLists hs ss os) (order : are_in_order h.space hs ≡ true) (s : ℕ) (info : SpaceInfo) (is : space_with_id ss s ≡ Some info) where
  apart : x.space ≡ s → ⊥
  apart same = let up = later_id h.space hs ss os s info have order is in omega (arith, up, same, own)

  found_later : space_with_id (x ∷ ss) s ≡ Some info
  found_later = ap (λ (b : Bool). if b then Some x else space_with_id ss s) (ne_eqb x.space s apart) ∙ is

  homes_later : homes_of (x ∷ ss) (o ∷ os) s ≡ homes_of ss os s
  homes_later = ap (λ (b : Bool). if b then o else homes_of ss os s) (ne_eqb x.space s apart)

-- ---- the lists

same_at : (xs : List Home) (k : ℕ) (d : Home) → k < length xs → slice_index_or xs k d ≡ slice_index_or xs k Unused
same_at [] k d lt = absurd (omega (arith, lt))
same_at (x ∷ xs) zero d lt = refl
same_at (x ∷ xs) (suc k) d lt = same_at xs k d (omega (arith, lt))

-- none of the pages is marked as dirty
clean_homes : (id : ℕ) (hs : List HeldSpace) (ss : List SpaceInfo) (os : List (List Home)) → HaveLists hs ss os → are_in_order id hs ≡ true
    → ((s p : ℕ) (info : SpaceInfo) → space_with_id ss s ≡ Some info → slice_index_or (homes_of ss os s) p Unused ≡ Dirty → ⊥) → HaveHomes hs ss os
clean_homes id [] [] [] have order none = tt
clean_homes id [] [] (o ∷ os) have order none = absurd have
clean_homes id [] (x ∷ ss) os have order none = absurd have
clean_homes id (h ∷ hs) [] os have order none = absurd have
clean_homes id (h ∷ hs) (x ∷ ss) [] have order none = absurd have
clean_homes id (h ∷ hs) (x ∷ ss) (o ∷ os) (space, pages, key_id, long, rest) order none =
    let at = ordered id h hs order in (
      space,
      pages,
      key_id,
      long,
      λ k d lt dirty. none x.space k x (own_id x ss) (ap (λ (l : List Home). slice_index_or l k Unused) (own_homes x ss o os) ∙ sym (same_at o k d lt) ∙ dirty),
      clean_homes h.space hs ss os rest at.rest (λ s p info is dirty. none s p info (found_later h hs x ss o os space rest at.rest s info is) (ap (λ (l : List Home). slice_index_or l p Unused) (homes_later h hs x ss o os space rest at.rest s info is) ∙ dirty)),
    )

-- each space reads as it is told
spaces_listed : (id : ℕ) (hs : List HeldSpace) (ss : List SpaceInfo) (os : List (List Home)) (es : List Event) → HaveLists hs ss os → are_in_order id hs ≡ true → All (λ info. HasFile (Space info.space) (pages info.pages) es) ss
    → ((s p : ℕ) (info : SpaceInfo) → space_with_id ss s ≡ Some info → p < info.pages → slice_index_or (homes_of ss os s) p Unused ≡ home_told (shown (Space s) page_bytes p es))
    → ((s : ℕ) (info : SpaceInfo) → space_with_id ss s ≡ Some info → (mode : ℕ) × (head_of (shown (Space info.space) page_bytes 0 es) ≡ Ok (head_in_mode mode info))) → SpacesRead ss os es
spaces_listed id hs [] os es have order files homes heads = tt
spaces_listed id [] (x ∷ ss) os es have order files homes heads = absurd have
spaces_listed id (h ∷ hs) (x ∷ ss) [] es have order files homes heads = absurd have
spaces_listed id (h ∷ hs) (x ∷ ss) (o ∷ os) es (space, pages, key_id, long, rest) order files homes heads =
    let at = ordered id h hs order in
    let file = files 0 x (omega arith) in (
      record {
        there = file.there;
        long = file.size;
        head = heads x.space x (own_id x ss);
        told = λ p below. ap (λ (l : List Home). slice_index_or l p Unused) (sym (own_homes x ss o os)) ∙ homes x.space p x (own_id x ss) below;
      },
      spaces_listed h.space hs ss os es rest at.rest (λ k d lt. files (suc k) d (omega (arith, lt)))
          (λ s p info is below. ap (λ (l : List Home). slice_index_or l p Unused) (sym (homes_later h hs x ss o os space rest at.rest s info is)) ∙ homes s p info (found_later h hs x ss o os space rest at.rest s info is) below)
          (λ s info is. heads s info (found_later h hs x ss o os space rest at.rest s info is)),
    )

-- ---- the session

none_dirty : (name : PageName) (dirty : DirtyList) → dirty.entries ≡ [] → is_dirty name dirty ≡ false
none_dirty name dirty none = ap (λ (l : List DirtyPage). is_dirty name (record { entries = l; pages = dirty.pages })) none

module _ {D : Type 0} (past : D → Past) (r : Running D) (kept : IsSession past r) (clean : r.pool.dirty.entries ≡ []) (here : r.log.from ≡ r.log.next) where
  in_order : are_in_order 0 r.store.header.spaces ≡ true
  in_order = (limits r.store.header kept.spaces.allowed).order

  none_marked : (s p : ℕ) → home_in r.store s p ≡ Dirty → ⊥
  none_marked s p is = true≢false (sym (kept.dirty.marks.only s p is) ∙ none_dirty (name_of_page s p) r.pool.dirty clean)

  pub rest_form : IsRestForm r.store.header r.store.spaces r.store.homes r.log.next r.log.sequence
  rest_form =
      let numbers = kept.numbers in
      let low = numbers.low in
      let below = numbers.below in
      record {
        allowed = kept.spaces.allowed;
        have = clean_homes 0 r.store.header.spaces r.store.spaces r.store.homes kept.spaces.have in_order (λ s p info is. none_marked s p);
        least = omega (arith, low, here);
        most = numbers.high;
        some = numbers.some;
        below = omega (arith, below, here);
      }

  reads_now : (es : List Event) → HasStoreFiles r.store.header.blocks r.store.spaces es → ReadsAsTold r.store r.log r.pool es → ReadsAtRest r.store.header r.store.spaces r.store.homes r.log.next r.log.sequence es
  reads_now es files told = record {
    is_header = told.front.is_header;
    log_there = files.log.there;
    log = files.log.size;
    double_there = files.double.there;
    double = files.double.size;
    checkpoint = subst (λ (n : ℕ). IsNewestCheckpoint (reads Log es) (record { sequence = r.log.sequence; from = n })) here told.front.checkpoint;
    spaces_read = spaces_listed 0 r.store.header.spaces r.store.spaces r.store.homes es kept.spaces.have in_order files.spaces_there
        (λ s p info is below. told.homes s p info is below (none_dirty (name_of_page s p) r.pool.dirty clean))
        (λ s info is. let head = told.heads s info is in (head.mode, head.home (none_dirty (name_of_page info.space 0) r.pool.dirty clean)));
  }

  pub rest_reads : r.disk.stop ≡ None → At (ReadsAtRest r.store.header r.store.spaces r.store.homes r.log.next r.log.sequence) (past r.disk.disk)
  rest_reads up = record { here = λ es is. reads_now es ((kept.files up).here es is) ((kept.reads up).here es is) }

  module _ (header : HeldHeader) (spaces : List SpaceInfo) (homes : List (List Home)) (next sequence : ℕ) (same_header : header ≡ r.store.header) (same_spaces : spaces ≡ r.store.spaces) (same_homes : homes ≡ r.store.homes) (same_next : next ≡ r.log.next) (same_sequence : sequence ≡ r.log.sequence) where
    -- what holds of the parts of the session holds of these
    of_parts : (P : HeldHeader → List SpaceInfo → List (List Home) → ℕ → ℕ → Type 0) → P r.store.header r.store.spaces r.store.homes r.log.next r.log.sequence → P header spaces homes next sequence
    of_parts P p =
        subst (λ (x : HeldHeader). P x spaces homes next sequence) (sym same_header)
        (subst (λ (x : List SpaceInfo). P r.store.header x homes next sequence) (sym same_spaces)
        (subst (λ (x : List (List Home)). P r.store.header r.store.spaces x next sequence) (sym same_homes)
        (subst (λ (x : ℕ). P r.store.header r.store.spaces r.store.homes x sequence) (sym same_next)
        (subst (λ (x : ℕ). P r.store.header r.store.spaces r.store.homes r.log.next x) (sym same_sequence) p))))

    pub parts_form : IsRestForm header spaces homes next sequence
    parts_form = of_parts IsRestForm rest_form

    pub parts_read : (disk : D) → disk ≡ r.disk.disk → r.disk.stop ≡ None → At (ReadsAtRest header spaces homes next sequence) (past disk)
    parts_read disk same up =
        subst (λ (d : D). At (ReadsAtRest header spaces homes next sequence) (past d)) (sym same)
        (of_parts (λ h s o n q. At (ReadsAtRest h s o n q) (past r.disk.disk)) (rest_reads up))

-- The spaces of a store that is opened are applied one after another.
use Rattle.std.proofs.Common.{◌≡◌, ◌⊎◌, inl, inr, ⊎_elim, ℕ, ◌+◌, ◌<◌, ◌≤◌, true, MatchBool, List, length, slice_index_or, Result, Ok, Err, Some, None, refl, sym, ap, subst, ◌∙◌, arith}
use Rattle.std.specs.Prelude.{IfErr}
use Rattle.std.proofs.lemmas.Bool.{cases_lt}
use Rattle.std.proofs.lemmas.Option.{same_Some}
use Rattle.disk_model.specs.Does.{Does, SoFar}
use Rattle.disk_model.specs.Event.{Event}
use Rattle.disk_model.specs.Past.{Past, At}
use Rattle.disk_model.specs.declared.names.FileName.TheVariants.{Space}
use Rattle.disk_model.proofs.Layers.{lift, so_far_none}
use Rattle.disk_model.proofs.Moments.{at_each}
use Rattle.doublewrite.specs.Restore.{HaveFiles, space_at}
use Rattle.doublewrite.specs.declared.refuse.OpenRefuse.{OpenRefuse}
use Rattle.doublewrite.specs.declared.refuse.OpenRefuse.TheVariants.{NotFormatted, Mixed, Damaged, MissingKey, BadRecord, VersionBelowFloor, Spent, DiskFault, OutOfMemory}
use Rattle.key_ring.specs.Ring.{RingEntry}
use Rattle.page_places.specs.Texts.{held, pages}
use Rattle.places.specs.Batches.{From}
use Rattle.places.specs.Places.{HasFile, shown}
use Rattle.space_head.specs.declared.space.SpaceInfo.{SpaceInfo}
use Rattle.store_files.specs.Header.{HeldHeader}
use Rattle.store_files.specs.Pages.{has_page, pages_of}
use Rattle.store_form.specs.Said.{header_said}
use Rattle.store_image.specs.Opening.{HasLater, IsDone}
use Rattle.store_model.specs.Fold.{used}
use Rattle.crash_image.specs.Opened.{StoreOpened, opened_theory}
use Rattle.recovery.specs.Changes.{IsLastChange}
use Rattle.recovery.specs.Due.{HasRefusedPage, IsByPage, IsOpenedWith, IsRoundDue}
use Rattle.recovery.specs.Groups.{AreDone, IsApplyEvent, IsRangeApplied, LeavesSince}
use Rattle.recovery.specs.Keys.{notes_at}
use Rattle.recovery.specs.Loading.{HasNoText, HaveTexts, IsHomeText, is_unread}
use Rattle.recovery.specs.Looking.{FitsTogether}
use Rattle.recovery.specs.Notes.{IsNoteOf, no_note}
use Rattle.recovery.specs.Putting.{BetweenGroups, MayApplyGroups, opened_places}
use Rattle.recovery.specs.Spaces.{AreSpacesApplied, ByKey, ByPage, HasRefusedSpace, HasTexts, IsFoundOf, IsSpaceFault, IsSpacesEvent, IsStoreApplied, IsStoreDue, LeavesSpaces, LeavesSpacesSince, last_in, later_in}
use Rattle.recovery.specs.declared.looking.Analysis.{Analysis}
use Rattle.recovery.specs.declared.notes.PageNote.{PageNote}
use Rattle.recovery.proofs.GroupSteps.{between_may}
use Rattle.recovery.proofs.PlaceSteps.{place_found}
use Rattle.recovery.proofs.PutGroups.{from_start}
use Rattle.recovery.proofs.SpacesFound.{apart, for_space, has_pages, later_noted, long, noted, space_of}

-- what is said of a space, and of its pages, by equal ones
pub by_parts : (R : SpaceInfo → List PageNote → List ℕ → Type 0) (a b : SpaceInfo) (m n : List PageNote) (k l : List ℕ) → a ≡ b → m ≡ n → k ≡ l → R a m k → R b n l
by_parts R a b m n k l info notes last is = subst (λ (x : SpaceInfo). R x n l) info (subst (λ (x : List PageNote). R a x l) notes (subst (λ (x : List ℕ). R a m x) last is))

pub if_err : {T X : Type 0} (P Q : X → Type 0) (result : Result T X) → ((x : X) → P x → Q x) → IfErr result P → IfErr result Q
if_err P Q (Ok v) goes is = tt
if_err P Q (Err x) goes is = goes x is

-- ---- files

-- the files of the spaces are there still
pub files_now : (spaces : List SpaceInfo) (old cur : Past) → At (HaveFiles spaces) old → ((z n : ℕ) → At (HasFile (Space z) (pages n)) old → At (HasFile (Space z) (pages n)) cur) → At (HaveFiles spaces) cur
files_now spaces old cur have goes = record { here = λ es is. λ i lt. (goes (space_at spaces i).space (space_at spaces i).pages (at_each (λ m files. files i lt) have)).here es is }

-- ---- homes of other spaces

pub leaves_spaces_none : (spaces : List SpaceInfo) (old : Past) → LeavesSpacesSince spaces 0 old old
leaves_spaces_none spaces old = record { since = λ m now. (m, now, record { homes = λ z p out. refl; log = refl }); told = λ b begun. (b, begun) }

pub leaves_space : (spaces : List SpaceInfo) (i end : ℕ) → i < length spaces → (old cur new : Past) → LeavesSpacesSince spaces i old cur → LeavesSince (space_at spaces i).space 0 end cur new → LeavesSpacesSince spaces (i + 1) old new
leaves_space spaces i end lt old cur new first next = record {
  since = λ m now.
      let (t, there, later) = next.since m now in
      let (b, begun, earlier) = first.since t there in (
        b,
        begun,
        record {
          homes = λ z p out. later.homes z p (inl (λ e. out i (omega arith) lt (sym e))) ∙ earlier.homes z p (λ j below within. out j (omega (arith, below)) within);
          log = later.log ∙ earlier.log;
        },
      );
  told = λ b begun. let (t, there) = first.told b begun in next.told t there;
}

-- ---- texts

module _ (ring : List RingEntry) (active : ℕ) (found : Analysis) where
  module _ (i : ℕ) (b m : List Event) (same : (p : ℕ) → shown (Space (space_at found.changes.spaces i).space) 16384 p m ≡ shown (Space (space_at found.changes.spaces i).space) 16384 p b) where
    texts_moved : (from end : ℕ) → HaveTexts ring found.header.algorithm (space_at found.changes.spaces i) (notes_at found.notes i) (later_in found i) from end m → HaveTexts ring found.header.algorithm (space_at found.changes.spaces i) (notes_at found.notes i) (later_in found i) from end b
    texts_moved from end texts = record {
      each = λ p low high later.
          let (plain, page) = texts.each p low high later in
          (plain, subst (λ (h : List ℕ). MatchBool (is_unread (slice_index_or (notes_at found.notes i) p no_note) p) (plain ≡ used None) (IsHomeText ring found.header.algorithm (space_at found.changes.spaces i) p h plain)) (same p) page);
    }

    fault_moved : (why : OpenRefuse) → IsSpaceFault ring active found i why m → IsSpaceFault ring active found i why b
    fault_moved why (ByKey lacks is) = ByKey lacks is
    fault_moved why (ByPage r) = ByPage (record {
      page = r.page;
      low = r.low;
      high = r.high;
      later = r.later;
      before = texts_moved 0 r.page r.before;
      fault = subst (λ (h : List ℕ). HasNoText ring found.header.algorithm (space_at found.changes.spaces i) r.page h why) (same r.page) r.fault;
    })

  module _ (fits : FitsTogether active found) (i : ℕ) (lt : i < length found.changes.spaces) (old cur : Past) (leaves : LeavesSpacesSince found.changes.spaces i old cur) where
    -- the homes of the space are as they were at first
    still : (b m : List Event) → LeavesSpaces found.changes.spaces i b m → (p : ℕ) → shown (Space (space_at found.changes.spaces i).space) 16384 p m ≡ shown (Space (space_at found.changes.spaces i).space) 16384 p b
    still b m others p = others.homes (space_at found.changes.spaces i).space p (λ j below within same. let size = long active found fits in let one = apart active found fits j i (omega (arith, within, size)) (omega (arith, lt, size)) same in omega (arith, one, below))

    pub still_now : (b : List Event) → old ≡ Some b → (m : List Event) × (cur ≡ Some m) × LeavesSpaces found.changes.spaces i b m
    still_now b begun =
        let (m, now) = leaves.told b begun in
        let (x, there, others) = leaves.since m now in
        (m, now, subst (λ (y : List Event). LeavesSpaces found.changes.spaces i y m) (same_Some x b (sym there ∙ begun)) others)

    pub texts_back : At (HasTexts ring active found i) cur → At (HasTexts ring active found i) old
    texts_back texts = record { here = λ b begun. let (m, now, others) = still_now b begun in texts_moved i b m (still b m others) 0 (space_at found.changes.spaces i).pages (texts.here m now) }

    at_back : (why : OpenRefuse) → ((j : ℕ) → j < i → At (HasTexts ring active found j) old) → At (IsSpaceFault ring active found i why) cur → At (HasRefusedSpace ring active found why) old
    at_back why before fault = record {
      here = λ b begun.
          let (m, now, others) = still_now b begun in
          record { place = i; within = lt; before = λ j below. (before j below).here b begun; fault = fault_moved i b m (still b m others) why (fault.here m now) };
    }

    -- a refusal by a space is one of the store
    pub by_space_back : (why : OpenRefuse) → ((j : ℕ) → j < i → At (HasTexts ring active found j) old) → IsByPage (IsSpaceFault ring active found i) cur why → IsByPage (HasRefusedSpace ring active found) old why
    by_space_back DiskFault before is = tt
    by_space_back OutOfMemory before is = tt
    by_space_back (BadRecord n place) before is = at_back (BadRecord n place) before is
    by_space_back (Damaged file place stored computed) before is = at_back (Damaged file place stored computed) before is
    by_space_back (MissingKey id version) before is = at_back (MissingKey id version) before is
    by_space_back NotFormatted before is = at_back NotFormatted before is
    by_space_back (Mixed file place wanted found_so) before is = at_back (Mixed file place wanted found_so) before is
    by_space_back (VersionBelowFloor space floor version) before is = at_back (VersionBelowFloor space floor version) before is
    by_space_back (Spent n) before is = at_back (Spent n) before is

-- a refusal by a page of a space is one of the space
pub by_page_space : (ring : List RingEntry) (active : ℕ) (found : Analysis) (i : ℕ) (past : Past) (why : OpenRefuse) → IsByPage (HasRefusedPage ring found.header.algorithm (space_at found.changes.spaces i) (notes_at found.notes i) (later_in found i) 0 (space_at found.changes.spaces i).pages) past why → IsByPage (IsSpaceFault ring active found i) past why
by_page_space ring active found i past DiskFault is = tt
by_page_space ring active found i past OutOfMemory is = tt
by_page_space ring active found i past (BadRecord n place) is = at_each (λ es r. ByPage r) is
by_page_space ring active found i past (Damaged file place stored computed) is = at_each (λ es r. ByPage r) is
by_page_space ring active found i past (MissingKey id version) is = at_each (λ es r. ByPage r) is
by_page_space ring active found i past NotFormatted is = at_each (λ es r. ByPage r) is
by_page_space ring active found i past (Mixed file place wanted found_so) is = at_each (λ es r. ByPage r) is
by_page_space ring active found i past (VersionBelowFloor space floor version) is = at_each (λ es r. ByPage r) is
by_page_space ring active found i past (Spent n) is = at_each (λ es r. ByPage r) is

-- ---- what is applied

module _ (o : StoreOpened) (entry : List Event) (found : Analysis) where
  -- what is done of the first spaces, between two groups
  abbrev pub IsAppliedFrom : ℕ → Past → List Event → Type 0
  IsAppliedFrom count old m = BetweenGroups o entry m × From (AreSpacesApplied o entry found count) old m

  none_applied : (b : List Event) → BetweenGroups o entry b → AreSpacesApplied o entry found 0 b b
  none_applied b between = record { between = between; done = λ i lt within. absurd (omega (arith, lt)); still = λ z p done. done }

  pub spaces_none : (old : Past) → At (BetweenGroups o entry) old → SoFar (MayApplyGroups o entry) (IsSpacesEvent found.changes.spaces) (IsAppliedFrom 0 old) old old
  spaces_none old between = so_far_none (λ m done. between_may o entry m done.0) (record { here = λ m is. (between.here m is, from_start (AreSpacesApplied o entry found 0) m m is (none_applied m (between.here m is))) })

  one_more : (i : ℕ) → (b t m : List Event) → AreSpacesApplied o entry found i b t → IsRangeApplied o entry (later_in found i) (space_at found.changes.spaces i).space 0 (space_at found.changes.spaces i).pages t m → AreSpacesApplied o entry found (i + 1) b m
  one_more i b t m first next = record {
    between = next.between;
    done = λ j below within. ⊎_elim
        (λ (lt : j < i). record { each = λ p low high later. next.still (space_at found.changes.spaces j).space p ((first.done j lt within).each p low high later) })
        (λ (ge : i ≤ j). let same : i ≡ j = omega (arith, ge, below) in subst (λ (k : ℕ). AreDone o (later_in found k) (space_at found.changes.spaces k).space 0 (space_at found.changes.spaces k).pages m) same next.done)
        (cases_lt j i);
    still = λ z p done. next.still z p (first.still z p done);
  }

  -- one space more, told from the start
  pub spaces_then : {T X : Type 0} (i : ℕ) → i < length found.changes.spaces → (old cur new : Past) (result : Result T X) → At (IsAppliedFrom i old) cur
      → Does (MayApplyGroups o entry) (IsApplyEvent (space_at found.changes.spaces i).space) (From (IsRangeApplied o entry (later_in found i) (space_at found.changes.spaces i).space 0 (space_at found.changes.spaces i).pages) cur) cur new result
      → Does (MayApplyGroups o entry) (IsSpacesEvent found.changes.spaces) (IsAppliedFrom (i + 1) old) cur new result
  spaces_then i lt old cur new result so_far does =
      lift {U = λ t. (cur ≡ Some t) × IsAppliedFrom i old t} (record { here = λ t is. (is, so_far.here t is) }) (λ t m u since p. p)
      (λ t m u since q. let next = q.here t u.0 in (next.between, at_each (λ b first. one_more i b t m first next) u.1.1)) kinds does
    where
      kinds : (e : Event) → IsApplyEvent (space_at found.changes.spaces i).space e → IsSpacesEvent found.changes.spaces e
      kinds e (inl double) = inl double
      kinds e (inr space) = inr (i, lt, space)

  -- ---- what is due

  module _ (active number : ℕ) (keys : List RingEntry) (fits : FitsTogether active found) (own : IsOpenedWith o (header_said found.header) keys found.checkpoint.from (found.run.last + 1)) (is : IsFoundOf o active entry found) where
    -- the pages of the next space are due
    pub space_due : (i : ℕ) → i < length found.changes.spaces → (b : List Event) (old cur : Past) → old ≡ Some b → LeavesSpacesSince found.changes.spaces i old cur → At (IsAppliedFrom i old) cur → IsStoreDue o number entry b
        → (m : List Event) × (cur ≡ Some m) × IsRoundDue o number entry (later_in found i) (space_at found.changes.spaces i).space 0 (space_at found.changes.spaces i).pages m
    space_due i lt b old cur begun leaves applied due =
        let size = long active found fits in
        let within : i < length (header_said found.header).spaces = omega (arith, lt, size) in
        let s = (space_at found.changes.spaces i).space in
        let (m, now, others) = still_now keys active found fits i lt old cur leaves b begun in (
          m,
          now,
          record {
            opened = due.opened;
            between = (applied.here m now).0;
            chosen = λ p low below later.
                let (a, chosen, reads_so) = due.chosen s p (has_pages active found fits o entry keys own is i within p below) in
                (a, chosen, ap (held p) (still keys active found fits i lt old cur leaves b m others p) ∙ reads_so);
          },
        )

    -- behind the last one all are
    pub all_applied : (count : ℕ) → length found.changes.spaces ≤ count → (b m : List Event) → IsStoreDue o number entry b → AreSpacesApplied o entry found count b m → IsStoreApplied o entry m
    all_applied count le b m due applied = record { between = applied.between; applied = λ s p here later. done s p here later }
      where
        done : (s p : ℕ) → has_page o.header.spaces s p ≡ true → HasLater (opened_theory o) o.view (pages_of o.contents) o.active s p → IsDone (opened_theory o) o.view (pages_of o.contents) o.active (opened_places o m) s p
        done s p here later =
            let of_header : has_page (header_said found.header).spaces s p ≡ true = ap (λ (h : HeldHeader). has_page h.spaces s p) (sym own.header_is) ∙ here in
            let (i, at) = place_found (header_said found.header).spaces s p of_header in
            let size = long active found fits in
            let below = at.below in
            let within : i < length found.changes.spaces = omega (arith, below, size) in
            let named = for_space active found fits i below in
            let space : (space_at found.changes.spaces i).space ≡ s = named.space ∙ at.space in
            let page : p < (space_at found.changes.spaces i).pages = (let high = at.page in let same = named.pages in omega (arith, high, same)) in
            let own_space = space_of active found fits o entry keys own is i below in
            let note : PageNote = slice_index_or (notes_at found.notes i) p no_note in
            let many : p < length (notes_at found.notes i) = (let n = noted active found fits i below in omega (arith, page, n)) in
            let noted_so : IsNoteOf s p note entry = subst (λ (z : ℕ). IsNoteOf z p note entry) space (own_space.notes_of.each p many) in
            let last_so : IsLastChange o.view.run s p (slice_index_or (last_in found i) p 0) = subst (λ (z : ℕ). IsLastChange o.view.run z p (slice_index_or (last_in found i) p 0)) space (own_space.last_of p many) in
            let has = later_noted o number entry due.opened s p note noted_so (slice_index_or (last_in found i) p 0) last_so here later in
            subst (λ (z : ℕ). IsDone (opened_theory o) o.view (pages_of o.contents) o.active (opened_places o m) z p) space ((applied.done i (omega (arith, within, le)) within).each p (omega arith) page has)

    pub store_done : (count : ℕ) → length found.changes.spaces ≤ count → (b : List Event) (old : Past) → old ≡ Some b → IsStoreDue o number entry b → (m : List Event) → IsAppliedFrom count old m → IsStoreApplied o entry m
    store_done count le b old begun due m applied = all_applied count le b m due (applied.1.here b begun)

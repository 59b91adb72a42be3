-- Nothing is refused of a store that recovers as it reads, where nothing is in the way of opening it.
use Rattle.std.proofs.Common.{◌≡◌, ℕ, ◌+◌, ◌<◌, ◌≤◌, true, List, length, Option, Some, None, sym, subst, arith}
use Rattle.std.proofs.lemmas.Option.{none-some, same_Some}
use Rattle.disk_model.specs.Event.{Event, reads}
use Rattle.disk_model.specs.Past.{Past, At}
use Rattle.disk_model.specs.declared.names.FileName.TheVariants.{Log}
use Rattle.doublewrite.specs.declared.refuse.OpenRefuse.{OpenRefuse}
use Rattle.doublewrite.specs.declared.refuse.OpenRefuse.TheVariants.{NotFormatted, Mixed, Damaged, MissingKey, BadRecord, VersionBelowFloor, Spent, DiskFault, OutOfMemory}
use Rattle.doublewrite.specs.Refuse.{IsDiskRefuse}
use Rattle.doublewrite.specs.Restore.{no_space, space_at}
use Rattle.key_ring.specs.Ring.{RingEntry}
use Rattle.page_places.specs.Views.{view}
use Rattle.places.specs.Places.{place}
use Rattle.redo_text.specs.declared.change.Change.{Change}
use Rattle.space_head.specs.declared.space.SpaceInfo.{SpaceInfo}
use Rattle.store_image.specs.Checkpoint.{HeldCheckpoint}
use Rattle.store_image.specs.Places.{LogView}
use Rattle.store_image.specs.Recovers as pages
use Rattle.store_image.specs.View.{Text, IsChosen}
use Rattle.store_image.proofs.ChosenTexts.{chosen_one}
use Rattle.store_model.specs.declared.contents.SpaceContents.{SpaceContents}
use Rattle.store_files.specs.Header.{HeldHeader, HeldSpace, are_in_order}
use Rattle.store_files.specs.Pages.{Page, floor_of, has_page, pages_of, salts_of}
use Rattle.store_files.specs.Run.{AreLogEntries}
use Rattle.store_files.proofs.HeaderBounds.{header_allowed, limits}
use Rattle.crash_image.specs.Recovers.{Recovers}
use Rattle.crash_image.specs.Rest.{read_image}
use Rattle.crash_image.specs.StoreTheory.{store_theory}
use Rattle.recovery.specs.Changes.{HasBadMtr}
use Rattle.recovery.specs.Entry.{MayOpen}
use Rattle.recovery.specs.Files.{HaveStoreFiles, IsFirstMisfit, IsFormatted, store_files_of}
use Rattle.recovery.specs.Heads.{AreRight, HasHeadInfo, HasWrongHead, HaveWrongHead, IsFieldRefusal, IsInfoFor, IsRight, IsWrong, head_fields}
use Rattle.recovery.specs.Keys.{IsMissingKey, NamedAt, key_named}
use Rattle.recovery.specs.Looking.{FoundChanges, FoundRun, IsOpenRefusal, IsRefusedFor, ByHeader, ByLength, ByCheckpoint, ByHome, ByHead, ByKey, ByRecord, ByFloor, ByNumber}
use Rattle.recovery.specs.Notes.{HasNotes, HasRefusedHome, HaveRefusedHome, IsHomeRefusal, disk_view}
use Rattle.recovery.specs.SpaceList.{held_at}
use Rattle.recovery.specs.Stages.{IsAbove, IsFloorRefusal, IsNumberRefusal}
use Rattle.recovery.specs.Walks.{AllHave}
use Rattle.recovery.specs.declared.changes.RunChanges.{RunChanges}
use Rattle.recovery.specs.declared.heads.HeadField.{HeadField}
use Rattle.recovery.specs.declared.notes.PageNote.{PageNote}
use Rattle.recovery.proofs.EntryFound.{header_one, heads_are, run_one}
use Rattle.recovery.proofs.EntryHeads.{HasHeadText, head_text}
use Rattle.recovery.proofs.EntrySteps.{all_in_store, by_index, by_places, length_there, next_entry, no_misfit, no_place, spaces_there}
use Rattle.recovery.proofs.KeySteps.{chosen_from, chosen_to, pairs_long}
use Rattle.recovery.proofs.PlaceSteps.{place_has, place_some}
use Rattle.recovery.proofs.WalkSteps.{first_is}

no_field : (h : HeldSpace) (text : List ℕ) (why : OpenRefuse) → IsFieldRefusal h text why → AreRight (head_fields h) text → ⊥
no_field h text (Mixed file at wanted found) (name, field, first, at_is, wanted_is, found_is) right =
    let (f, wrong, own) = first_is (λ (f : HeadField). IsRight f text) (IsWrong field text) (λ (f : HeadField). IsRight f text) (head_fields h) first right in
    wrong.wrong own
no_field h text NotFormatted is right = absurd is
no_field h text (Damaged file at stored computed) is right = absurd is
no_field h text (MissingKey id version) is right = absurd is
no_field h text (BadRecord number at) is right = absurd is
no_field h text (VersionBelowFloor space floor version) is right = absurd is
no_field h text (Spent n) is right = absurd is
no_field h text DiskFault is right = absurd is
no_field h text OutOfMemory is right = absurd is

module _ (es : List Event) (keys : List RingEntry) (active : ℕ) (c : List SpaceContents) (last : ℕ) (m : MayOpen keys active c last es) where
  abbrev r : Recovers (read_image es) keys c last
  r = m.recovers

  abbrev H : HeldHeader
  H = r.header

  abbrev L : LogView (List Change)
  L = r.log

  order : are_in_order 0 H.spaces ≡ true
  order = (limits H (header_allowed (place 4096 0 (reads Log es)) H r.is_header)).order

  have : HaveStoreFiles (store_files_of H) es
  have =
      let long = r.by.reading.long in
      let there = m.there in
      (record { there = there.0; size = long.log }, (record { there = there.1.0; size = long.double }, spaces_there es H.spaces long.spaces there.1.1))

  is_formatted : IsFormatted H es
  is_formatted =
      let size = (have.0).size in
      let e = length_there (record { name = Log; layout = (record { size = 0; count = 0; passes = λ b. true }) }) es (have.0).there in
      record { long = omega (arith, e, size); is_header = r.is_header }

  -- ---- homes

  no_home : (s p : ℕ) → has_page H.spaces s p ≡ true → (why : OpenRefuse) → IsHomeRefusal s p why es → ⊥
  no_home s p has (Mixed file at wanted found) (name, other) = other.other (r.by.reading.placed s p has)
  no_home s p has (Damaged file at stored computed) (name, un) =
      let page = r.by.pages.pages s p has in
      by page.chosen (chosen_from es L s p page.chosen page.is) page.gives
    where
      by : (o : Option Text) → IsChosen (disk_view es) s p o → pages.Gives (store_theory H keys (salts_of c)) (view L (read_image es)) (pages_of c) s p o → ⊥
      by None is (some, gives) = some (un.none None is).0
      by (Some t) is gives = none-some t (sym (un.none (Some t) is).1)
  no_home s p has NotFormatted is = absurd is
  no_home s p has (MissingKey id version) is = absurd is
  no_home s p has (BadRecord number at) is = absurd is
  no_home s p has (VersionBelowFloor space floor version) is = absurd is
  no_home s p has (Spent n) is = absurd is
  no_home s p has DiskFault is = absurd is
  no_home s p has OutOfMemory is = absurd is

  no_homes : (why : OpenRefuse) → HaveRefusedHome H.spaces why es → ⊥
  no_homes why first =
      let (x, refused, has) = first_is (HasNotes es) (λ (h : HeldSpace). HasRefusedHome h why es) (λ (h : HeldSpace). (p : ℕ) → p < h.pages → has_page H.spaces h.space p ≡ true) H.spaces first (all_in_store 0 H.spaces order) in
      no_home x.space refused.page (has refused.page refused.within) why refused.is

  -- ---- heads

  no_heads : (why : OpenRefuse) → HaveWrongHead H.spaces why es → ⊥
  no_heads why first =
      let (x, wrong, head) = first_is (HasHeadInfo es) (λ (h : HeldSpace). HasWrongHead h why es) (HasHeadText es keys c last r) H.spaces first (by_places (HasHeadText es keys c last r) H.spaces (head_text es keys c last r)) in
      let same : wrong.text ≡ head.text = same_Some wrong.text head.text (chosen_one (view L (read_image es)) x.space 0 (Some wrong.text) (Some head.text) (chosen_to es L x.space 0 (Some wrong.text) wrong.chosen) head.chosen) in
      no_field x wrong.text.bytes why wrong.wrong (subst (λ (t : Text). AreRight (head_fields x) t.bytes) (sym same) head.right)

  -- ---- keys

  no_key : (why : OpenRefuse) → IsMissingKey keys (NamedAt H L active es) why → ⊥
  no_key (MissingKey id version) is = m.keyed (key_named id version) is.needed is.lacks
  no_key NotFormatted is = absurd is
  no_key (Mixed file at wanted found) is = absurd is
  no_key (Damaged file at stored computed) is = absurd is
  no_key (BadRecord number at) is = absurd is
  no_key (VersionBelowFloor space floor version) is = absurd is
  no_key (Spent n) is = absurd is
  no_key DiskFault is = absurd is
  no_key OutOfMemory is = absurd is

  -- ---- the run

  no_record : (k : HeldCheckpoint) (n number at : ℕ) → FoundRun H k n es → HasBadMtr H keys k.from (n + 1) number at es → ⊥
  no_record k n number at found bad =
      let bounds = run_one es keys c last r k n found in
      let lead : AreLogEntries H keys (reads Log es) L.from bad.before number = subst (λ (i : ℕ). AreLogEntries H keys (reads Log es) i bad.before number) (sym bounds.0) bad.lead in
      let within = bad.within in
      let end : L.end ≡ n + 1 = bounds.1 in
      let (cs, is, of) = next_entry H keys (reads Log es) H.spaces number bad.count bad.text bad.whole bad.has L.from bad.before L.run L.end lead r.by.reading.run.entries r.by.reading.of_store (omega (arith, within, end)) in
      no_place H.spaces at bad.text cs bad.none is of

  -- ---- floors and numbers

  floors_below : (k : HeldCheckpoint) (n : ℕ) (notes : List (List PageNote)) (heads : List SpaceInfo) (changes : RunChanges) → FoundChanges keys active H k n notes heads changes es → AllHave (λ info. info.floor ≤ active) changes.spaces
  floors_below k n notes heads changes found = by_index (λ (info : SpaceInfo). info.floor ≤ active) changes.spaces no_space each
    where
      each : (i : ℕ) → i < length changes.spaces → (space_at changes.spaces i).floor ≤ active
      each i lt =
          let long = pairs_long IsInfoFor H.spaces changes.spaces found.fit in
          let below : i < length H.spaces = omega (arith, long, lt) in
          let at = place_has 0 H.spaces i 0 order below (place_some 0 H.spaces i order below) in
          let head = heads_are es keys c last r active k n notes heads changes found i below in
          subst (λ (x : Page). floor_of x ≤ active) (sym head) (m.allowed (held_at H.spaces i).space at.has)

  no_floor : (spaces : List SpaceInfo) (why : OpenRefuse) → AllHave (λ info. info.floor ≤ active) spaces → IsFloorRefusal active spaces why → ⊥
  no_floor spaces (VersionBelowFloor space floor version) below (is, first) =
      let (x, above, low) = first_is (λ (info : SpaceInfo). info.floor ≤ active) (IsAbove active space floor) (λ (info : SpaceInfo). info.floor ≤ active) spaces first below in
      let high = above.above in
      omega (arith, high, low)
  no_floor spaces NotFormatted below is = absurd is
  no_floor spaces (Mixed file at wanted found) below is = absurd is
  no_floor spaces (Damaged file at stored computed) below is = absurd is
  no_floor spaces (MissingKey id version) below is = absurd is
  no_floor spaces (BadRecord number at) below is = absurd is
  no_floor spaces (Spent n) below is = absurd is
  no_floor spaces DiskFault below is = absurd is
  no_floor spaces OutOfMemory below is = absurd is

  no_number : (n : ℕ) (why : OpenRefuse) → n ≡ last → IsNumberRefusal H.blocks n why → ⊥
  no_number n (Spent x) same (is, above) = let numbers = m.numbers in omega (arith, same, above, numbers)
  no_number n NotFormatted same is = absurd is
  no_number n (Mixed file at wanted found) same is = absurd is
  no_number n (Damaged file at stored computed) same is = absurd is
  no_number n (MissingKey id version) same is = absurd is
  no_number n (BadRecord number at) same is = absurd is
  no_number n (VersionBelowFloor space floor version) same is = absurd is
  no_number n DiskFault same is = absurd is
  no_number n OutOfMemory same is = absurd is

  -- ---- no step refuses anything

  -- under the header that the store has
  one : (h : HeldHeader) → IsFormatted h es → h ≡ H
  one h formatted = header_one es keys c last r h formatted

  pub none_refused : (why : OpenRefuse) → IsRefusedFor keys active why es → ⊥
  none_refused why (ByHeader is none) = none H is_formatted
  none_refused why (ByLength h f found formatted is misfit) = no_misfit es (store_files_of H) f found have (subst (λ (x : HeldHeader). IsFirstMisfit (store_files_of x) f found es) (one h formatted) misfit)
  none_refused why (ByCheckpoint h stored computed files is none) = none.none _ r.by.reading.run.run.newest
  none_refused why (ByHome h k n run first) = no_homes why (subst (λ (x : HeldHeader). HaveRefusedHome x.spaces why es) (one h run.files.formatted) first)
  none_refused why (ByHead h k n notes pages first) = no_heads why (subst (λ (x : HeldHeader). HaveWrongHead x.spaces why es) (one h pages.run.files.formatted) first)
  none_refused why (ByKey h k n notes heads found missing) =
      let same = one h found.pages.run.files.formatted in
      let run : FoundRun H k n es = subst (λ (x : HeldHeader). FoundRun x k n es) same found.pages.run in
      no_key why (subst (λ (x : HeldHeader). IsMissingKey keys (NamedAt x L active es) why) same (missing L (run_one es keys c last r k n run)))
  none_refused why (ByRecord h k n notes heads number at found is bad) =
      let same = one h found.of_heads.pages.run.files.formatted in
      no_record k n number at (subst (λ (x : HeldHeader). FoundRun x k n es) same found.of_heads.pages.run) (subst (λ (x : HeldHeader). HasBadMtr x keys k.from (n + 1) number at es) same bad)
  none_refused why (ByFloor h k n notes heads changes found is) =
      let same = one h found.keyed.of_heads.pages.run.files.formatted in
      no_floor changes.spaces why (floors_below k n notes heads changes (subst (λ (x : HeldHeader). FoundChanges keys active x k n notes heads changes es) same found)) is
  none_refused why (ByNumber h k n notes heads changes found below is) =
      let same = one h found.keyed.of_heads.pages.run.files.formatted in
      let end = (run_one es keys c last r k n (subst (λ (x : HeldHeader). FoundRun x k n es) same found.keyed.of_heads.pages.run)).1 in
      let own = r.is_last in
      no_number n why (omega (arith, end, own)) (subst (λ (x : HeldHeader). IsNumberRefusal x.blocks n why) same is)

-- So an opening that may begin is refused nothing but for a fault or want of memory.
pub clear_of : (keys : List RingEntry) (active : ℕ) (past : Past) (why : OpenRefuse) → IsOpenRefusal keys active past why → At (λ es. (c : List SpaceContents) (last : ℕ) → MayOpen keys active c last es → IsDiskRefuse why) past
clear_of keys active past DiskFault is = record { here = λ es now c last m. tt }
clear_of keys active past OutOfMemory is = record { here = λ es now c last m. tt }
clear_of keys active past NotFormatted is = record { here = λ es now c last m. absurd (none_refused es keys active c last m NotFormatted (is.here es now)) }
clear_of keys active past (Mixed file at wanted found) is = record { here = λ es now c last m. absurd (none_refused es keys active c last m (Mixed file at wanted found) (is.here es now)) }
clear_of keys active past (Damaged file at stored computed) is = record { here = λ es now c last m. absurd (none_refused es keys active c last m (Damaged file at stored computed) (is.here es now)) }
clear_of keys active past (MissingKey id version) is = record { here = λ es now c last m. absurd (none_refused es keys active c last m (MissingKey id version) (is.here es now)) }
clear_of keys active past (BadRecord number at) is = record { here = λ es now c last m. absurd (none_refused es keys active c last m (BadRecord number at) (is.here es now)) }
clear_of keys active past (VersionBelowFloor space floor version) is = record { here = λ es now c last m. absurd (none_refused es keys active c last m (VersionBelowFloor space floor version) (is.here es now)) }
clear_of keys active past (Spent n) is = record { here = λ es now c last m. absurd (none_refused es keys active c last m (Spent n) (is.here es now)) }

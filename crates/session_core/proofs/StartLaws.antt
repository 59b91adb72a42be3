-- What a store at rest gives a session, and that the mark that is told changes nothing of it.
use Rattle.std.proofs.Common.{◌≡◌, ◌⊎◌, ℕ, suc, zero, ◌<◌, ◌≤◌, Bool, true, false, true≢false, nat_eq, if◌then◌else◌, List, [], ◌∷◌, length, slice_index_or, Option, Some, None, Ok, refl, sym, ap, ◌∙◌, subst, inl, inr, arith}
use Rattle.std.specs.List.{All}
use Rattle.std.proofs.lemmas.Bool.Decides.{nat_tests}
use Rattle.std.proofs.lemmas.Option.{none-some, same_Some}
use Rattle.disk_model.specs.Event.{Event, Tell}
use Rattle.disk_model.specs.Past.{Past, At, Is, MayGrow, grow}
use Rattle.cause_core.specs.Counts.{Rose}
use Rattle.disk_model.specs.declared.names.DiskError.{DiskError}
use Rattle.disk_model.specs.declared.names.DiskError.TheVariants.{Failed, NoMemory}
use Rattle.disk_model.specs.declared.names.FileName.TheVariants.{Space}
use Rattle.disk_model.specs.declared.names.Mark.{Mark}
use Rattle.key_ring.specs.Ring.{RingEntry}
use Rattle.page_places.specs.Texts.{page_bytes, pages}
use Rattle.places.specs.Places.{HasFile, shown}
use Rattle.space_head.specs.Head.{head_of}
use Rattle.space_head.specs.declared.space.Home.{Home}
use Rattle.space_head.specs.declared.space.Home.TheVariants.{Dirty, Unused}
use Rattle.space_head.specs.declared.space.SpaceInfo.{SpaceInfo}
use Rattle.store_files.specs.Header.{HeldHeader, HeldSpace}
use Rattle.store_form.specs.Rest.{AreNoneDirty, HaveHomes, IsRestForm, ReadsAtRest, SpaceReads, SpacesRead, StoreAtRest, head_in_mode, home_told, homes_of, with_disk}
use Rattle.counted_disk.specs.declared.counted.Counted.{Counted}
use Rattle.disk_model.proofs.Moments.{at_each}
use Rattle.disk_model.specs.declared.names.Mark.TheVariants.{Started}
use Rattle.page_pool.specs.Pages.{PoolState}
use Rattle.redo_log.specs.Log.{IsOpen, empty_log, pending_count}
use Rattle.redo_log.specs.State.{LogState}
use Rattle.session_core.specs.Dirty.{AreDirtyOf}
use Rattle.session_core.specs.Files.{HasStoreFiles}
use Rattle.session_core.specs.Session.{IsSession, empty_pool}
use Rattle.session_core.specs.declared.journal.Entry.{Entry}
use Rattle.session_core.specs.Spaces.{AreSpaces, HaveLists, StoreSpaces, space_with_id}
use Rattle.session_core.specs.Told.{ReadsAsTold}
use Rattle.session_core.specs.Start.{IsHandedBack, IsStartRefusal, MayStart, start_fault}
use Rattle.session_core.specs.declared.fault.StartFault.{StartFault}

have_lists : (hs : List HeldSpace) (ss : List SpaceInfo) (os : List (List Home)) → HaveHomes hs ss os → HaveLists hs ss os
have_lists [] [] [] h = tt
have_lists [] [] (o ∷ os) h = absurd h
have_lists [] (s ∷ ss) os h = absurd h
have_lists (x ∷ hs) [] os h = absurd h
have_lists (x ∷ hs) (s ∷ ss) [] h = absurd h
have_lists (x ∷ hs) (s ∷ ss) (o ∷ os) (space, pages, key_id, long, none, rest) = (space, pages, key_id, long, have_lists hs ss os rest)

-- the spaces of a store at rest go together
pub rest_spaces : (header : HeldHeader) (spaces : List SpaceInfo) (homes : List (List Home)) (next sequence : ℕ) → IsRestForm header spaces homes next sequence
    → AreSpaces (record { header = header; spaces = spaces; homes = homes })
rest_spaces header spaces homes next sequence form = record { allowed = form.allowed; have = have_lists header.spaces spaces homes form.have }

spaces_there : (ss : List SpaceInfo) (os : List (List Home)) (es : List Event) → SpacesRead ss os es → (k : ℕ) (d : SpaceInfo) → k < length ss → HasFile (Space (slice_index_or ss k d).space) (pages (slice_index_or ss k d).pages) es
spaces_there [] os es read k d lt = absurd (omega (arith, lt))
spaces_there (x ∷ ss) [] es read k d lt = absurd read
spaces_there (x ∷ ss) (o ∷ os) es read zero d lt = record { there = read.0.there; size = read.0.long }
spaces_there (x ∷ ss) (o ∷ os) es read (suc k) d lt = spaces_there ss os es read.1 k d (omega (arith, lt))

-- its files are there, each with its length
pub rest_files : (header : HeldHeader) (spaces : List SpaceInfo) (homes : List (List Home)) (next sequence : ℕ) (es : List Event) → ReadsAtRest header spaces homes next sequence es → HasStoreFiles header.blocks spaces es
rest_files header spaces homes next sequence es read = record {
  log = record { there = read.log_there; size = read.log };
  double = record { there = read.double_there; size = read.double };
  spaces_there = λ k d lt. spaces_there spaces homes es read.spaces_read k d lt;
}

told_spaces : (ss : List SpaceInfo) (os : List (List Home)) (es : List Event) (m : Mark) → SpacesRead ss os es → SpacesRead ss os (Tell m ∷ es)
told_spaces [] os es m read = tt
told_spaces (x ∷ ss) [] es m read = absurd read
told_spaces (x ∷ ss) (o ∷ os) es m read = (record { there = read.0.there; long = read.0.long; head = read.0.head; told = read.0.told }, told_spaces ss os es m read.1)

-- a mark leaves what the disk reads as
pub told_reads : (header : HeldHeader) (spaces : List SpaceInfo) (homes : List (List Home)) (next sequence : ℕ) (es : List Event) (m : Mark) → ReadsAtRest header spaces homes next sequence es
    → ReadsAtRest header spaces homes next sequence (Tell m ∷ es)
told_reads header spaces homes next sequence es m read = record {
  is_header = read.is_header;
  log_there = read.log_there;
  log = read.log;
  double_there = read.double_there;
  double = read.double;
  checkpoint = read.checkpoint;
  spaces_read = told_spaces spaces homes es m read.spaces_read;
}

-- what a mark keeps is there once it may have been told
pub at_told : (P : List Event → Type 0) (m : Mark) (old new : Past) → ((es : List Event) → P es → P (Tell m ∷ es)) → At P old → MayGrow (Is (Tell m)) old new → At P new
at_told P m old new keeps at (inl same) = subst (At P) (sym same) at
at_told P m old new keeps at (inr (e, is, grown)) = record { here = λ es now. by old refl es (sym grown ∙ now) }
  where
    by : (o : Past) → old ≡ o → (es : List Event) → grow e old ≡ Some es → P es
    by None none es now = absurd (none-some es (ap (λ (o : Past). grow e o) (sym none) ∙ now))
    by (Some before) some es now =
        let same : e ∷ before ≡ es = same_Some (e ∷ before) es (ap (λ (o : Past). grow e o) (sym some) ∙ now) in
        subst P same (subst (λ (x : Event). P (x ∷ before)) (sym is) (keeps before (at.here before some)))

-- and once it was told
pub at_grown : (P : List Event → Type 0) (m : Mark) (old new : Past) → ((es : List Event) → P es → P (Tell m ∷ es)) → At P old → new ≡ grow (Tell m) old → At P new
at_grown P m old new keeps at grown = at_told P m old new keeps at (inr (Tell m, refl, grown))

-- a store at rest that is told as another one but for its disk
pub same_rest : {D : Type 0} (new old : StoreAtRest D) → new.header ≡ old.header → new.spaces ≡ old.spaces → new.homes ≡ old.homes → new.next ≡ old.next → new.sequence ≡ old.sequence → new ≡ with_disk old new.disk
same_rest {D} new old header spaces homes next sequence =
    let a : new ≡ record { disk = new.disk; header = old.header; spaces = new.spaces; homes = new.homes; next = new.next; sequence = new.sequence } =
    ap (λ (h : HeldHeader). record { disk = new.disk; header = h; spaces = new.spaces; homes = new.homes; next = new.next; sequence = new.sequence }) header in
    let b : record { disk = new.disk; header = old.header; spaces = new.spaces; homes = new.homes; next = new.next; sequence = new.sequence } ≡ record { disk = new.disk; header = old.header; spaces = old.spaces; homes = new.homes; next = new.next; sequence = new.sequence } =
    ap (λ (s : List SpaceInfo). record { disk = new.disk; header = old.header; spaces = s; homes = new.homes; next = new.next; sequence = new.sequence }) spaces in
    let d : record { disk = new.disk; header = old.header; spaces = old.spaces; homes = new.homes; next = new.next; sequence = new.sequence } ≡ record { disk = new.disk; header = old.header; spaces = old.spaces; homes = old.homes; next = new.next; sequence = new.sequence } =
    ap (λ (o : List (List Home)). record { disk = new.disk; header = old.header; spaces = old.spaces; homes = o; next = new.next; sequence = new.sequence }) homes in
    let e : record { disk = new.disk; header = old.header; spaces = old.spaces; homes = old.homes; next = new.next; sequence = new.sequence } ≡ record { disk = new.disk; header = old.header; spaces = old.spaces; homes = old.homes; next = old.next; sequence = new.sequence } =
    ap (λ (n : ℕ). record { disk = new.disk; header = old.header; spaces = old.spaces; homes = old.homes; next = n; sequence = new.sequence }) next in
    let f : record { disk = new.disk; header = old.header; spaces = old.spaces; homes = old.homes; next = old.next; sequence = new.sequence } ≡ with_disk old new.disk =
    ap (λ (n : ℕ). record { disk = new.disk; header = old.header; spaces = old.spaces; homes = old.homes; next = old.next; sequence = n }) sequence in
    a ∙ b ∙ d ∙ e ∙ f

-- the refusal of a start, by what the disk answered
pub start_refused : {D : Type 0} (past : D → Past) (faults refusals : D → ℕ) (ring : List RingEntry) (active : ℕ) (old new : StoreAtRest D) (e : DiskError) (why : StartFault) → MayStart ring active old.spaces → IsHandedBack past old new
    → (e ≡ Failed → Rose (faults old.disk) (faults new.disk)) → (e ≡ NoMemory → Rose (refusals old.disk) (refusals new.disk)) → why ≡ start_fault e → IsStartRefusal past faults refusals ring active old new why
start_refused past faults refusals ring active old new Failed why may back failed refused is = subst (IsStartRefusal past faults refusals ring active old new) (sym is) (may, back, failed refl)
start_refused past faults refusals ring active old new NoMemory why may back failed refused is = subst (IsStartRefusal past faults refusals ring active old new) (sym is) (may, inr (back, refused refl))

-- ---- what is known of the homes of a store at rest

none_at : (o : List Home) → AreNoneDirty o → (p : ℕ) → slice_index_or o p Unused ≡ Dirty → ⊥
none_at [] none p is = absurd (cc)
none_at (x ∷ o) none zero is = none 0 x (omega arith) is
none_at (x ∷ o) none (suc p) is = none_at o (λ k d lt. none (suc k) d (omega (arith, lt))) p is

-- none of them is marked as dirty
none_dirty : (hs : List HeldSpace) (ss : List SpaceInfo) (os : List (List Home)) → HaveHomes hs ss os → (s p : ℕ) → slice_index_or (homes_of ss os s) p Unused ≡ Dirty → ⊥
none_dirty hs [] os have s p is = absurd (cc)
none_dirty [] (x ∷ ss) os have s p is = absurd have
none_dirty (h ∷ hs) (x ∷ ss) [] have s p is = absurd have
none_dirty (h ∷ hs) (x ∷ ss) (o ∷ os) (space, pages, key_id, long, none, rest) s p is = by (nat_eq x.space s) is (none_dirty hs ss os rest s p)
  where
    by : (b : Bool) → slice_index_or (if b then o else homes_of ss os s) p Unused ≡ Dirty → (slice_index_or (homes_of ss os s) p Unused ≡ Dirty → ⊥) → ⊥
    by true at later = none_at o none p at
    by false at later = later at

-- each tells what its page is, and page 0 the space
pub record IsSpaceTold (ss : List SpaceInfo) (os : List (List Home)) (s : ℕ) (info : SpaceInfo) (es : List Event) : Type 0 where
  pub homes : (p : ℕ) → p < info.pages → slice_index_or (homes_of ss os s) p Unused ≡ home_told (shown (Space s) page_bytes p es)
  pub mode : ℕ
  pub head : head_of (shown (Space info.space) page_bytes 0 es) ≡ Ok (head_in_mode mode info)

space_told : (ss : List SpaceInfo) (os : List (List Home)) (s : ℕ) (info : SpaceInfo) (es : List Event) → SpacesRead ss os es → space_with_id ss s ≡ Some info → IsSpaceTold ss os s info es
space_told [] os s info es read is = absurd (none-some info is)
space_told (x ∷ ss) [] s info es read is = absurd read
space_told (x ∷ ss) (o ∷ os) s info es read is = by (nat_eq x.space s) refl (λ below. space_told ss os s info es read.1 below)
  where
    by : (b : Bool) → nat_eq x.space s ≡ b → (space_with_id ss s ≡ Some info → IsSpaceTold ss os s info es) → IsSpaceTold (x ∷ ss) (o ∷ os) s info es
    by true test later =
        let e : x ≡ info = same_Some x info (ap (λ (b : Bool). if b then Some x else space_with_id ss s) (sym test) ∙ is) in
        let own : x.space ≡ s = grind (arith, nat_tests) in
        let homes : homes_of (x ∷ ss) (o ∷ os) s ≡ o = ap (λ (b : Bool). if b then o else homes_of ss os s) test in
        record {
          homes = λ p below.
              let same : x.pages ≡ info.pages = ap (λ (i : SpaceInfo). i.pages) e in
              ap (λ (l : List Home). slice_index_or l p Unused) homes ∙ read.0.told p (omega (arith, same, below)) ∙ ap (λ (n : ℕ). home_told (shown (Space n) page_bytes p es)) own;
          mode = read.0.head.0;
          head = subst (λ (i : SpaceInfo). head_of (shown (Space i.space) page_bytes 0 es) ≡ Ok (head_in_mode read.0.head.0 i)) e read.0.head.1;
        }
    by false test later =
        let told = later (ap (λ (b : Bool). if b then Some x else space_with_id ss s) (sym test) ∙ is) in
        let homes : homes_of (x ∷ ss) (o ∷ os) s ≡ homes_of ss os s = ap (λ (b : Bool). if b then o else homes_of ss os s) test in
        record {
          homes = λ p below. ap (λ (l : List Home). slice_index_or l p Unused) homes ∙ told.homes p below;
          mode = told.mode;
          head = told.head;
        }

-- no page is dirty, and none is held
empty_dirty : (header : HeldHeader) (spaces : List SpaceInfo) (homes : List (List Home)) (next sequence : ℕ) (log : LogState) → IsRestForm header spaces homes next sequence → pending_count log ≡ 0
    → AreDirtyOf (record { header = header; spaces = spaces; homes = homes }) log empty_pool
empty_dirty header spaces homes next sequence log form none = record {
  marks = record {
    marked = λ s p is. absurd (true≢false (sym is));
    only = λ s p is. absurd (none_dirty header.spaces spaces homes form.have s p is);
  };
  typed = λ name page is. absurd (none-some page is);
  within = λ k d lt. absurd (omega (arith, lt));
  pending = λ some. absurd (omega (arith, some, none));
}

-- and the disk reads as is told
empty_told : (header : HeldHeader) (spaces : List SpaceInfo) (homes : List (List Home)) (next sequence : ℕ) (es : List Event) → ReadsAtRest header spaces homes next sequence es
    → ReadsAsTold (record { header = header; spaces = spaces; homes = homes }) (empty_log header.blocks next sequence) empty_pool es
empty_told header spaces homes next sequence es read = record {
  front = record { is_header = read.is_header; checkpoint = read.checkpoint };
  homes = λ s p info is below clean. (space_told spaces homes s info es read.spaces_read is).homes p below;
  heads = λ s info is.
      let told = space_told spaces homes s info es read.spaces_read is in
      record { mode = told.mode; home = λ clean. told.head; held = λ page held. absurd (none-some page held) };
}

-- what the type of a session keeps, as it begins
pub session_kept : {D : Type 0} (past : D → Past) (rest : StoreAtRest D) (ring : List RingEntry) (active age : ℕ) (disk : Counted D) (store : StoreSpaces) (journal : List Entry) (log : LogState) (pool : PoolState)
    → IsRestForm rest.header rest.spaces rest.homes rest.next rest.sequence → At (ReadsAtRest rest.header rest.spaces rest.homes rest.next rest.sequence) (past rest.disk) → past disk.disk ≡ grow (Tell Started) (past rest.disk)
    → store ≡ record { header = rest.header; spaces = rest.spaces; homes = rest.homes } → journal ≡ [] → log ≡ empty_log rest.header.blocks rest.next rest.sequence → IsOpen log → pool ≡ empty_pool → MayStart ring active rest.spaces → 1 ≤ active
    → IsSession past (record { disk = disk; ring = ring; store = store; journal = journal; log = log; pool = pool; active = active; age = age; begins = rest.next; acked = 0; batch = 1 })
session_kept {D} past rest ring active age disk store journal log pool form reads told store_is journal_is log_is numbers pool_is may some =
    let own : StoreSpaces = record { header = rest.header; spaces = rest.spaces; homes = rest.homes } in
    let none : List Entry = [] in
    let empty : LogState = empty_log rest.header.blocks rest.next rest.sequence in
    let open_empty : IsOpen empty = subst IsOpen log_is numbers in
    let kept : IsSession past (record { disk = disk; ring = ring; store = own; journal = none; log = empty; pool = empty_pool; active = active; age = age; begins = rest.next; acked = 0; batch = 1 }) = record {
      spaces = rest_spaces rest.header rest.spaces rest.homes rest.next rest.sequence form;
      active = some;
      keyed = may.keyed;
      floors = may.floors;
      ring = refl;
      numbers = open_empty;
      entries = refl;
      acked = omega arith;
      settled = λ k e lt. absurd (omega (arith, lt));
      dirty = empty_dirty rest.header rest.spaces rest.homes rest.next rest.sequence empty form refl;
      files = λ up. at_each (λ es read. rest_files rest.header rest.spaces rest.homes rest.next rest.sequence es read) at_grown_rest;
      reads = λ up. at_each (λ es read. empty_told rest.header rest.spaces rest.homes rest.next rest.sequence es read) at_grown_rest;
    } in
    subst (λ (s : StoreSpaces). IsSession past (record { disk = disk; ring = ring; store = s; journal = journal; log = log; pool = pool; active = active; age = age; begins = rest.next; acked = 0; batch = 1 })) (sym store_is)
    (subst (λ (j : List Entry). IsSession past (record { disk = disk; ring = ring; store = own; journal = j; log = log; pool = pool; active = active; age = age; begins = rest.next; acked = 0; batch = 1 })) (sym journal_is)
    (subst (λ (l : LogState). IsSession past (record { disk = disk; ring = ring; store = own; journal = none; log = l; pool = pool; active = active; age = age; begins = rest.next; acked = 0; batch = 1 })) (sym log_is)
    (subst (λ (p : PoolState). IsSession past (record { disk = disk; ring = ring; store = own; journal = none; log = empty; pool = p; active = active; age = age; begins = rest.next; acked = 0; batch = 1 })) (sym pool_is) kept)))
  where
    at_grown_rest : At (ReadsAtRest rest.header rest.spaces rest.homes rest.next rest.sequence) (past disk.disk)
    at_grown_rest = at_grown (ReadsAtRest rest.header rest.spaces rest.homes rest.next rest.sequence) Started (past rest.disk) (past disk.disk) (λ es read. told_reads rest.header rest.spaces rest.homes rest.next rest.sequence es Started read) reads told

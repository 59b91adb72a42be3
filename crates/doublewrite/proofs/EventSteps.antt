-- The events of homes that are restored, one after another.
use Rattle.std.proofs.Common.{◌≡◌, ℕ, zero, suc, ◌+◌, ◌*◌, ◌<◌, ◌≤◌, ◌≢◌, ◌⊎◌, inl, inr, ⊎_elim, Bool, true, false, is_some, if◌then◌else◌, List, [], ◌∷◌, ◌++◌, length, Option, Some, None, refl, sym, ap, subst, ◌∙◌, append_assoc, length-append, arith, Result, Ok, Err, OnOk, OnErr}
use Rattle.std.proofs.lemmas.Bool.{cases_eq}
use Rattle.std.proofs.lemmas.List.{append-nil}
use Rattle.std.proofs.lemmas.Bool.Decides.{nat_tests}
use Rattle.std.proofs.lemmas.Option.{same_Some, none-some}
use Rattle.disk_model.specs.Event.{Event, Write, Sync, same_file}
use Rattle.disk_model.specs.Does.{AllAre, Since}
use Rattle.disk_model.specs.Past.{Past, At, MayGrow, IsWrite, grow}
use Rattle.disk_model.specs.declared.names.FileName.{FileName}
use Rattle.disk_model.specs.declared.names.FileName.TheVariants.{Space}
use Rattle.disk_model.proofs.Moments.{at_each}
use Rattle.places.specs.Batches.{From}
use Rattle.places.specs.Places.{shown}
use Rattle.places.specs.Beside.{LeavesFile}
use Rattle.places.proofs.FileSteps.{file_left_alone}
use Rattle.places.proofs.LeftAlone.{shown_left_alone}
use Rattle.page_places.specs.Texts.{pages}
use Rattle.space_head.specs.declared.space.SpaceInfo.{SpaceInfo}
use Rattle.doublewrite.specs.Restore.{wanted, space_at, AreSpacesApart, HasSpaceFile, HaveFiles, PagesStay}
use Rattle.doublewrite.specs.Events.{page_write, page_writes, synced, is_any, space_events, spaces_events, calls_to, homes_to, AreFirstEvents, Done, Failed}
use Rattle.doublewrite.specs.declared.listing.Copied.{Copied}
use Rattle.doublewrite.proofs.SpaceSteps.{same_want}

-- what holds whatever the answer is holds at an error
pub at_error : {T X : Type 0} {P : Type 0} (result : Result T X) → P → OnErr result P
at_error (Ok v) p = tt
at_error (Err x) p = p

-- a disk that tells nothing tells nothing behind a call
pub untold_more : (e : Event) (old mid new : Past) → mid ≡ old → new ≡ grow e mid → old ≡ None → new ≡ None
untold_more e old mid new same more none = more ∙ ap (grow e) (same ∙ none)

pub untold_may : (E : Event → Type 0) (old mid new : Past) → mid ≡ old → MayGrow E mid new → old ≡ None → new ≡ None
untold_may E old mid new same (inl stays) none = stays ∙ same ∙ none
untold_may E old mid new same (inr (e, kind, more)) none = untold_more e old mid new same more none

pub untold_by : {T X : Type 0} (result : Result T X) (e : Event) {mid new : Past} → mid ≡ None → OnOk result (new ≡ grow e mid) → OnErr result (new ≡ mid) → new ≡ None
untold_by (Ok v) e {mid} {new} none ok err = untold_more e mid mid new refl ok none
untold_by (Err x) e none ok err = err ∙ none

-- what is known of the end of a stretch, by the moment at which it began
pub at_behind : {R : List Event → List Event → Type 0} {X : List Event → Type 0} {first mid : Past} → ((s m : List Event) → R s m → X m) → (first ≡ None → mid ≡ None) → At (From R first) mid → At X mid
at_behind {first = None} goes untold at = record { here = λ es is. absurd (none-some es (sym (untold refl) ∙ is)) }
at_behind {first = Some s} goes untold at = record { here = λ es is. goes s es ((at.here es is).here s refl) }

-- ---- a front of events

-- nothing was done yet
pub front_none : (all s : List Event) (old new : Past) → old ≡ Some s → new ≡ old → AreFirstEvents all s new
front_none all s old new is same = Done all [] (sym (append-nil all)) (same ∙ is)

-- all were done
pub front_all : (all s : List Event) (new : Past) → new ≡ Some (all ++ s) → AreFirstEvents all s new
front_all all s new is = Done [] all refl is

-- behind events that were done
pub front_behind : (all before s : List Event) (new : Past) → AreFirstEvents all (before ++ s) new → AreFirstEvents (all ++ before) s new
front_behind all before s new (Done rest done is now) =
    Done rest (done ++ before) (ap (λ (l : List Event). l ++ before) is ∙ append_assoc rest done before) (now ∙ ap (λ (l : List Event). Some l) (sym (append_assoc done before s)))
front_behind all before s new (Failed rest done f at bytes e is kind now) =
    Failed rest (done ++ before) f at bytes e (ap (λ (l : List Event). l ++ before) is ∙ append_assoc rest (Write f at bytes bytes ∷ done) before) kind (now ∙ ap (λ (l : List Event). Some (e ∷ l)) (sym (append_assoc done before s)))

-- of more events
pub front_more : (more all s : List Event) (new : Past) → AreFirstEvents all s new → AreFirstEvents (more ++ all) s new
front_more more all s new (Done rest done is now) = Done (more ++ rest) done (ap (λ (l : List Event). more ++ l) is ∙ sym (append_assoc more rest done)) now
front_more more all s new (Failed rest done f at bytes e is kind now) =
    Failed (more ++ rest) done f at bytes e (ap (λ (l : List Event). more ++ l) is ∙ sym (append_assoc more rest (Write f at bytes bytes ∷ done))) kind now

-- the events begin, in their order, with these
pub record BeginsWith (all first : List Event) : Type 0 where
  pub more : List Event
  pub is : all ≡ more ++ first

begins_same : (all : List Event) → BeginsWith all all
begins_same all = record { more = []; is = refl }

begins_more : (e all first : List Event) → BeginsWith all first → BeginsWith (e ++ all) first
begins_more e all first b = record { more = e ++ b.more; is = ap (λ (l : List Event). e ++ l) b.is ∙ sym (append_assoc e b.more first) }

pub front_of : (all first s : List Event) (new : Past) → BeginsWith all first → AreFirstEvents first s new → AreFirstEvents all s new
front_of all first s new b front = subst (λ (l : List Event). AreFirstEvents l s new) (sym b.is) (front_more b.more first s new front)

-- ---- the sync of a space

pub synced_any : (f : FileName) (es : List Event) → true ≡ is_any es → synced f es ≡ Sync f ∷ es
synced_any f [] is = absurd (cc)
synced_any f (e ∷ es) is = refl

pub synced_none : (f : FileName) (es : List Event) → false ≡ is_any es → (synced f es ≡ []) × (es ≡ [])
synced_none f [] is = (refl, refl)
synced_none f (e ∷ es) is = absurd (cc)

pub synced_begins : (f : FileName) (es : List Event) → BeginsWith (synced f es) es
synced_begins f [] = record { more = []; is = refl }
synced_begins f (e ∷ es) = record { more = Sync f ∷ []; is = refl }

-- the part of its writes that was done is one of all
pub synced_part : (f : FileName) (es s : List Event) (new : Past) → AreFirstEvents es s new → AreFirstEvents (synced f es) s new
synced_part f es s new front = front_of (synced f es) es s new (synced_begins f es) front

any_more : (z k : ℕ) (o : Option (List ℕ)) (es : List Event) (w before : Bool) → w ≡ is_some o → before ≡ is_any es → (if w then true else before) ≡ is_any (page_write z k o ++ es)
any_more z k None es w before is earlier = ap (λ (b : Bool). if b then true else before) is ∙ earlier
any_more z k (Some text) es w before is earlier = ap (λ (b : Bool). if b then true else before) is

-- ---- the pages of a space

module _ (copies : List Copied) (z : ℕ) where
  pub pages_none : (s : List Event) → page_writes copies s z 0 ≡ []
  unfolding page_writes
  pages_none s = refl

  pub pages_more : (s : List Event) (k : ℕ) → page_writes copies s z (k + 1) ≡ page_write z k (wanted copies s z k) ++ page_writes copies s z k
  unfolding page_writes
  pages_more s k = let e : k + 1 ≡ suc k = omega arith in ap (page_writes copies s z) e

  -- the writes of more pages begin with those of fewer
  pub pages_begin_with : (s : List Event) (j n : ℕ) → j ≤ n → BeginsWith (page_writes copies s z n) (page_writes copies s z j)
  unfolding page_writes
  pages_begin_with s j zero le = let e : j ≡ 0 = omega (arith, le) in subst (λ (k : ℕ). BeginsWith (page_writes copies s z 0) (page_writes copies s z k)) (sym e) (begins_same (page_writes copies s z 0))
  pages_begin_with s j (suc n) le = ⊎_elim
      (λ (e : j ≡ suc n). subst (λ (k : ℕ). BeginsWith (page_writes copies s z (suc n)) (page_writes copies s z k)) (sym e) (begins_same (page_writes copies s z (suc n))))
      (λ (ne : j ≢ suc n). begins_more (page_write z n (wanted copies s z n)) (page_writes copies s z n) (page_writes copies s z j) (pages_begin_with s j n (omega (arith, le, ne))))
      (cases_eq j (suc n))

  -- the same pages are wanted
  pub same_pages : (s t : List Event) → ((k : ℕ) → wanted copies t z k ≡ wanted copies s z k) → (n : ℕ) → page_writes copies t z n ≡ page_writes copies s z n
  unfolding page_writes
  same_pages s t same zero = refl
  same_pages s t same (suc n) =
      ap (λ (o : Option (List ℕ)). page_write z n o ++ page_writes copies t z n) (same n) ∙ ap (λ (l : List Event). page_write z n (wanted copies s z n) ++ l) (same_pages s t same n)

  module _ (k : ℕ) (old : Past) where
    -- the call on a page that isn't written
    pub page_stays : (new : Past) → new ≡ old → At (λ es. wanted copies es z k ≡ None) old → At (λ es. new ≡ Some (page_write z k (wanted copies es z k) ++ es)) old
    page_stays new same none = record { here = λ es is. same ∙ is ∙ ap (λ (o : Option (List ℕ)). Some (page_write z k o ++ es)) (sym (none.here es is)) }

    -- and on one that is, done or failed
    pub page_done : (mid new : Past) (at : ℕ) (bytes text : List ℕ) → at ≡ k * 16384 → bytes ≡ text → mid ≡ old → new ≡ grow (Write (Space z) at bytes bytes) mid → At (λ es. wanted copies es z k ≡ Some text) old
        → At (λ es. new ≡ Some (page_write z k (wanted copies es z k) ++ es)) old
    page_done mid new at bytes text at_is bytes_is same more want = record {
      here = λ es is.
          more ∙ ap (grow (Write (Space z) at bytes bytes)) (same ∙ is)
          ∙ ap (λ (p : ℕ). Some (Write (Space z) p bytes bytes ∷ es)) at_is
          ∙ ap (λ (l : List ℕ). Some (Write (Space z) (k * 16384) l l ∷ es)) bytes_is
          ∙ ap (λ (o : Option (List ℕ)). Some (page_write z k o ++ es)) (sym (want.here es is));
    }

    pub page_failed : (mid new : Past) (at : ℕ) (bytes text : List ℕ) → at ≡ k * 16384 → bytes ≡ text → mid ≡ old → MayGrow (IsWrite (Space z) at bytes) mid new → At (λ es. wanted copies es z k ≡ Some text) old
        → At (λ es. AreFirstEvents (page_write z k (wanted copies es z k)) es new) old
    page_failed mid new at bytes text at_is bytes_is same may want = record { here = λ es is. part es is may }
      where
        part : (es : List Event) → old ≡ Some es → (new ≡ mid) ⊎ ((e : Event) × IsWrite (Space z) at bytes e × (new ≡ grow e mid)) → AreFirstEvents (page_write z k (wanted copies es z k)) es new
        part es is (inl stays) = front_none (page_write z k (wanted copies es z k)) es old new is (stays ∙ same)
        part es is (inr (e, kind, more)) =
            Failed [] [] (Space z) (k * 16384) text e (ap (page_write z k) (want.here es is))
            (subst (λ (l : List ℕ). IsWrite (Space z) (k * 16384) l e) bytes_is (subst (λ (p : ℕ). IsWrite (Space z) p bytes e) at_is kind)) (more ∙ ap (grow e) (same ∙ is))

    -- nothing was done
    pub page_unread : (new : Past) → new ≡ old → At (λ es. AreFirstEvents (page_write z k (wanted copies es z k)) es new) old
    page_unread new same = record { here = λ es is. front_none (page_write z k (wanted copies es z k)) es old new is same }

-- what is wanted of the next page is what was wanted of it at first
module _ (copies : List Copied) (info : SpaceInfo) (k : ℕ) (first mid : Past) (exact : At (λ s. mid ≡ Some (page_writes copies s info.space k ++ s)) first) (stays : At (From (PagesStay info k) first) mid) where
  abbrev z : ℕ
  z = info.space

  behind_pages : (F : Option (List ℕ) → List Event → Type 0) → At (λ es. F (wanted copies es z k) es) mid → At (λ s. F (wanted copies s z k) (page_writes copies s z k ++ s)) first
  behind_pages F now = record {
    here = λ s is.
        let es : List Event = page_writes copies s z k ++ s in
        let still : PagesStay info k s es = (stays.here es (exact.here s is)).here s is in
        subst (λ (o : Option (List ℕ)). F o es) (same_want copies s es z k (still.rest k (omega arith))) (now.here es (exact.here s is));
  }

  pub next_page : (new : Past) → At (λ es. new ≡ Some (page_write z k (wanted copies es z k) ++ es)) mid → At (λ s. new ≡ Some (page_writes copies s z (k + 1) ++ s)) first
  next_page new now = at_each
      (λ s is. is ∙ ap (λ (l : List Event). Some l) (sym (append_assoc (page_write z k (wanted copies s z k)) (page_writes copies s z k) s) ∙ ap (λ (l : List Event). l ++ s) (sym (pages_more copies z s k))))
      (behind_pages (λ o es. new ≡ Some (page_write z k o ++ es)) now)

  pub next_part : (new : Past) (n : ℕ) → k < n → At (λ es. AreFirstEvents (page_write z k (wanted copies es z k)) es new) mid → At (λ s. AreFirstEvents (page_writes copies s z n) s new) first
  next_part new n lt now = at_each
      (λ s front. front_of (page_writes copies s z n) (page_writes copies s z (k + 1)) s new (pages_begin_with copies z s (k + 1) n (omega (arith, lt)))
      (subst (λ (l : List Event). AreFirstEvents l s new) (sym (pages_more copies z s k)) (front_behind (page_write z k (wanted copies s z k)) (page_writes copies s z k) s new front)))
      (behind_pages (λ o es. AreFirstEvents (page_write z k o) es new) now)

  -- the calls for the pages so far, and for the next one
  pub next_calls : (c0 c1 c2 : ℕ) → At (λ s. c1 ≤ c0 + (k + length (page_writes copies s z k))) first → At (λ es. c2 ≤ c1 + (1 + length (page_write z k (wanted copies es z k)))) mid
      → At (λ s. c2 ≤ c0 + (k + 1 + length (page_writes copies s z (k + 1)))) first
  next_calls c0 c1 c2 earlier now = record {
    here = λ s is.
        let sum : length (page_writes copies s z (k + 1)) ≡ length (page_write z k (wanted copies s z k)) + length (page_writes copies s z k) =
        ap length (pages_more copies z s k) ∙ length-append (page_write z k (wanted copies s z k)) (page_writes copies s z k) in
        omega (arith, earlier.here s is, (behind_pages (λ o es. c2 ≤ c1 + (1 + length (page_write z k o))) now).here s is, sum);
  }

  pub next_told : (w before after : Bool) → after ≡ (if w then true else before) → At (λ s. before ≡ is_any (page_writes copies s z k)) first → At (λ es. w ≡ is_some (wanted copies es z k)) mid
      → At (λ s. after ≡ is_any (page_writes copies s z (k + 1))) first
  next_told w before after after_is earlier now = record {
    here = λ s is.
        after_is ∙ any_more z k (wanted copies s z k) (page_writes copies s z k) w before ((behind_pages (λ o es. w ≡ is_some o) now).here s is) (earlier.here s is)
        ∙ ap is_any (sym (pages_more copies z s k));
  }

-- ---- the spaces, one after the other

all_append : (E : Event → Type 0) (xs ys : List Event) → AllAre E xs → AllAre E ys → AllAre E (xs ++ ys)
all_append E [] ys one two = two
all_append E (x ∷ xs) ys one two = (one.0, all_append E xs ys one.1 two)

-- the events of a space leave another one as it is
module _ (copies : List Copied) (y : ℕ) (info : SpaceInfo) (differs : info.space ≢ y) (s : List Event) where
  other : same_file (Space y) (Space info.space) ≡ false
  other = let flip : y ≢ info.space = λ e. differs (sym e) in grind (arith, nat_tests)

  page_leaves : (k : ℕ) (o : Option (List ℕ)) → AllAre (LeavesFile (Space y)) (page_write info.space k o)
  page_leaves k None = tt
  page_leaves k (Some text) = (other, tt)

  pages_leave : (n : ℕ) → AllAre (LeavesFile (Space y)) (page_writes copies s info.space n)
  unfolding page_writes
  pages_leave zero = tt
  pages_leave (suc n) = all_append (LeavesFile (Space y)) (page_write info.space n (wanted copies s info.space n)) (page_writes copies s info.space n) (page_leaves n (wanted copies s info.space n)) (pages_leave n)

  synced_leaves : (es : List Event) → AllAre (LeavesFile (Space y)) es → AllAre (LeavesFile (Space y)) (synced (Space info.space) es)
  synced_leaves [] all = tt
  synced_leaves (e ∷ es) all = (other, all)

  space_leaves : AllAre (LeavesFile (Space y)) (space_events copies s info)
  space_leaves = synced_leaves (page_writes copies s info.space info.pages) (pages_leave info.pages)

pub homes_none : (spaces : List SpaceInfo) → homes_to spaces 0 ≡ 0
unfolding homes_to
homes_none spaces = refl

pub homes_more : (spaces : List SpaceInfo) (k : ℕ) → homes_to spaces (k + 1) ≡ homes_to spaces k + (space_at spaces k).pages
unfolding homes_to
homes_more spaces k = let e : k + 1 ≡ suc k = omega arith in ap (homes_to spaces) e

pub homes_below : (spaces : List SpaceInfo) (j n : ℕ) → j ≤ n → homes_to spaces j ≤ homes_to spaces n
unfolding homes_to
homes_below spaces j zero le = let e : j ≡ 0 = omega (arith, le) in subst (λ (k : ℕ). homes_to spaces k ≤ homes_to spaces 0) (sym e) (omega arith)
homes_below spaces j (suc n) le = ⊎_elim
    (λ (e : j ≡ suc n). subst (λ (k : ℕ). homes_to spaces k ≤ homes_to spaces (suc n)) (sym e) (omega arith))
    (λ (ne : j ≢ suc n). let earlier = homes_below spaces j n (omega (arith, le, ne)) in omega (arith, earlier))
    (cases_eq j (suc n))

module _ (copies : List Copied) (spaces : List SpaceInfo) where
  pub spaces_none : (s : List Event) → spaces_events copies s spaces 0 ≡ []
  unfolding spaces_events
  spaces_none s = refl

  pub spaces_more : (s : List Event) (k : ℕ) → spaces_events copies s spaces (k + 1) ≡ space_events copies s (space_at spaces k) ++ spaces_events copies s spaces k
  unfolding spaces_events
  spaces_more s k = let e : k + 1 ≡ suc k = omega arith in ap (spaces_events copies s spaces) e

  spaces_begin_with : (s : List Event) (j n : ℕ) → j ≤ n → BeginsWith (spaces_events copies s spaces n) (spaces_events copies s spaces j)
  unfolding spaces_events
  spaces_begin_with s j zero le = let e : j ≡ 0 = omega (arith, le) in subst (λ (k : ℕ). BeginsWith (spaces_events copies s spaces 0) (spaces_events copies s spaces k)) (sym e) (begins_same (spaces_events copies s spaces 0))
  spaces_begin_with s j (suc n) le = ⊎_elim
      (λ (e : j ≡ suc n). subst (λ (k : ℕ). BeginsWith (spaces_events copies s spaces (suc n)) (spaces_events copies s spaces k)) (sym e) (begins_same (spaces_events copies s spaces (suc n))))
      (λ (ne : j ≢ suc n). begins_more (space_events copies s (space_at spaces n)) (spaces_events copies s spaces n) (spaces_events copies s spaces j) (spaces_begin_with s j n (omega (arith, le, ne))))
      (cases_eq j (suc n))

  -- the spaces before it leave a space as it is
  spaces_leave : (y k : ℕ) → ((j : ℕ) → j < k → (space_at spaces j).space ≢ y) → (s : List Event) → AllAre (LeavesFile (Space y)) (spaces_events copies s spaces k)
  unfolding spaces_events
  spaces_leave y zero others s = tt
  spaces_leave y (suc k) others s =
      all_append (LeavesFile (Space y)) (space_events copies s (space_at spaces k)) (spaces_events copies s spaces k) (space_leaves copies y (space_at spaces k) (others k (omega arith)) s)
      (spaces_leave y k (λ j lt. others j (omega (arith, lt))) s)

  left_alone : AreSpacesApart spaces → (k : ℕ) → k < length spaces → (s : List Event) → Since (LeavesFile (Space (space_at spaces k).space)) s (spaces_events copies s spaces k ++ s)
  left_alone apart k more s = record { news = spaces_events copies s spaces k; is = refl; all = spaces_leave (space_at spaces k).space k (λ j lt. apart j k lt more) s }

  -- the next space's file is there
  pub next_file : AreSpacesApart spaces → (k : ℕ) → k < length spaces → (first mid : Past) → At (λ s. mid ≡ Some (spaces_events copies s spaces k ++ s)) first → (first ≡ None → mid ≡ None) → At (HaveFiles spaces) first → At (HasSpaceFile (space_at spaces k)) mid
  next_file apart k more first mid exact untold files = begun first exact untold (at_each (λ s has. has k more) files)
    where
      info : SpaceInfo
      info = space_at spaces k

      begun : (first : Past) → At (λ s. mid ≡ Some (spaces_events copies s spaces k ++ s)) first → (first ≡ None → mid ≡ None) → At (HasSpaceFile info) first → At (HasSpaceFile info) mid
      begun None exact untold has = record { here = λ es is. absurd (none-some es (sym (untold refl) ∙ is)) }
      begun (Some s) exact untold has =
          let now : List Event = spaces_events copies s spaces k ++ s in
          record { here = λ es is. subst (HasSpaceFile info) (same_Some now es (sym (exact.here s refl) ∙ is)) (file_left_alone (Space info.space) (pages info.pages) s now (left_alone apart k more s) (has.here s refl)) }

  module _ (apart : AreSpacesApart spaces) (k : ℕ) (more : k < length spaces) (first mid : Past) (exact : At (λ s. mid ≡ Some (spaces_events copies s spaces k ++ s)) first) where
    abbrev info : SpaceInfo
    info = space_at spaces k

    behind_spaces : (F : List Event → List Event → Type 0) → At (λ es. F (space_events copies es info) es) mid → At (λ s. F (space_events copies s info) (spaces_events copies s spaces k ++ s)) first
    behind_spaces F now = record {
      here = λ s is.
          let es : List Event = spaces_events copies s spaces k ++ s in
          let as_it_was : (p : ℕ) → shown (Space info.space) 16384 p es ≡ shown (Space info.space) 16384 p s = λ p. shown_left_alone (Space info.space) 16384 p s es (left_alone apart k more s) in
          let same = same_pages copies info.space s es (λ p. same_want copies s es info.space p (as_it_was p)) info.pages in
          subst (λ (l : List Event). F (synced (Space info.space) l) es) same (now.here es (exact.here s is));
    }

    pub next_space : (new : Past) → At (λ es. new ≡ Some (space_events copies es info ++ es)) mid → At (λ s. new ≡ Some (spaces_events copies s spaces (k + 1) ++ s)) first
    next_space new now = at_each
        (λ s is. is ∙ ap (λ (l : List Event). Some l) (sym (append_assoc (space_events copies s info) (spaces_events copies s spaces k) s) ∙ ap (λ (l : List Event). l ++ s) (sym (spaces_more s k))))
        (behind_spaces (λ l es. new ≡ Some (l ++ es)) now)

    -- the calls for the spaces so far, and for the next one
    pub next_space_calls : (c0 c1 c2 : ℕ) → At (λ s. c1 ≤ c0 + (homes_to spaces k + length (spaces_events copies s spaces k))) first → At (λ es. c2 ≤ c1 + (info.pages + length (space_events copies es info))) mid
        → At (λ s. c2 ≤ c0 + (homes_to spaces (k + 1) + length (spaces_events copies s spaces (k + 1)))) first
    next_space_calls c0 c1 c2 earlier now = record {
      here = λ s is.
          let sum : length (spaces_events copies s spaces (k + 1)) ≡ length (space_events copies s info) + length (spaces_events copies s spaces k) =
          ap length (spaces_more s k) ∙ length-append (space_events copies s info) (spaces_events copies s spaces k) in
          omega (arith, earlier.here s is, (behind_spaces (λ l es. c2 ≤ c1 + (info.pages + length l)) now).here s is, sum, homes_more spaces k);
    }

    pub next_space_part : (new : Past) → At (λ es. AreFirstEvents (space_events copies es info) es new) mid → At (λ s. AreFirstEvents (spaces_events copies s spaces (length spaces)) s new) first
    next_space_part new now = at_each
        (λ s front. front_of (spaces_events copies s spaces (length spaces)) (spaces_events copies s spaces (k + 1)) s new (spaces_begin_with s (k + 1) (length spaces) (omega (arith, more)))
        (subst (λ (l : List Event). AreFirstEvents l s new) (sym (spaces_more s k)) (front_behind (space_events copies s info) (spaces_events copies s spaces k) s new front)))
        (behind_spaces (λ l es. AreFirstEvents l es new) now)

-- ---- the calls

-- those of some pages of a space are among those of more
pub pages_calls : (copies : List Copied) (z j n : ℕ) (s : List Event) → j ≤ n → length (page_writes copies s z j) ≤ length (page_writes copies s z n)
unfolding page_writes
pages_calls copies z j zero s le = let e : j ≡ 0 = omega (arith, le) in subst (λ (k : ℕ). length (page_writes copies s z k) ≤ length (page_writes copies s z 0)) (sym e) (omega arith)
pages_calls copies z j (suc n) s le = ⊎_elim
    (λ (e : j ≡ suc n). subst (λ (k : ℕ). length (page_writes copies s z k) ≤ length (page_writes copies s z (suc n))) (sym e) (omega arith))
    (λ (ne : j ≢ suc n).
    let earlier = pages_calls copies z j n s (omega (arith, le, ne)) in
    omega (arith, earlier, length-append (page_write z n (wanted copies s z n)) (page_writes copies s z n)))
    (cases_eq j (suc n))

-- a sync is one more
pub synced_calls : (f : FileName) (es : List Event) → length es ≤ length (synced f es)
synced_calls f [] = omega arith
synced_calls f (e ∷ es) = omega arith

pub synced_one : (f : FileName) (es : List Event) → true ≡ is_any es → length (synced f es) ≡ length es + 1
synced_one f [] some = absurd (cc)
synced_one f (e ∷ es) some = omega arith

-- those of some spaces are among those of more
pub spaces_calls : (copies : List Copied) (spaces : List SpaceInfo) (j n : ℕ) (s : List Event) → j ≤ n → length (spaces_events copies s spaces j) ≤ length (spaces_events copies s spaces n)
unfolding spaces_events
spaces_calls copies spaces j zero s le = let e : j ≡ 0 = omega (arith, le) in subst (λ (k : ℕ). length (spaces_events copies s spaces k) ≤ length (spaces_events copies s spaces 0)) (sym e) (omega arith)
spaces_calls copies spaces j (suc n) s le = ⊎_elim
    (λ (e : j ≡ suc n). subst (λ (k : ℕ). length (spaces_events copies s spaces k) ≤ length (spaces_events copies s spaces (suc n))) (sym e) (omega arith))
    (λ (ne : j ≢ suc n).
    let earlier = spaces_calls copies spaces j n s (omega (arith, le, ne)) in
    omega (arith, earlier, length-append (space_events copies s (space_at spaces n)) (spaces_events copies s spaces n)))
    (cases_eq j (suc n))

pub calls_none : (spaces : List SpaceInfo) → calls_to spaces 0 ≡ 0
unfolding calls_to
calls_none spaces = refl

pub calls_more : (spaces : List SpaceInfo) (k : ℕ) → calls_to spaces (k + 1) ≡ calls_to spaces k + ((space_at spaces k).pages * 2 + 1)
unfolding calls_to
calls_more spaces k = let e : k + 1 ≡ suc k = omega arith in ap (calls_to spaces) e

pub calls_below : (spaces : List SpaceInfo) (j n : ℕ) → j ≤ n → calls_to spaces j ≤ calls_to spaces n
unfolding calls_to
calls_below spaces j zero le = let e : j ≡ 0 = omega (arith, le) in subst (λ (k : ℕ). calls_to spaces k ≤ calls_to spaces 0) (sym e) (omega arith)
calls_below spaces j (suc n) le = ⊎_elim
    (λ (e : j ≡ suc n). subst (λ (k : ℕ). calls_to spaces k ≤ calls_to spaces (suc n)) (sym e) (omega arith))
    (λ (ne : j ≢ suc n). let earlier = calls_below spaces j n (omega (arith, le, ne)) in omega (arith, earlier))
    (cases_eq j (suc n))

-- What a run makes of the pages that a pool holds is what it makes of the pages of contents.
use Rattle.std.proofs.Common.{◌≡◌, ◌≢◌, ℕ, ◌+◌, ◌<◌, ◌≤◌, ◌⊎◌, inl, inr, Bool, true, false, nat_le, ◌||◌, if◌then◌else◌, List, [], ◌∷◌, ◌++◌, slice_index_or, Option, Some, None, refl, sym, ap, subst, ◌∙◌, arith}
use Rattle.std.proofs.lemmas.Bool.Decides.{nat_tests}
use Rattle.redo_text.specs.Text.{AreAllowed, IsAllowed}
use Rattle.redo_text.specs.declared.change.Change.{Change}
use Rattle.redo_text.specs.declared.change.Change.TheVariants.{Put, Kind, Touch, Floor, Encrypt}
use Rattle.space_head.specs.declared.space.SpaceInfo.{SpaceInfo}
use Rattle.key_ring.specs.Ring.{RingEntry}
use Rattle.store_files.specs.Header.{HeldHeader}
use Rattle.store_files.specs.Run.{AreLogEntries}
use Rattle.store_image.specs.Recovers.{IsNamedBy, later_by}
use Rattle.store_image.specs.View.{Logged}
use Rattle.store_files.specs.Pages.{Page, Head, Unused, Used, IsTypedInfo, change_names, is_used, mtr_acts, mtr_names, page_after}
use Rattle.store_files.proofs.PageLaws.{mtr_idle, mtr_uses}
use Rattle.store_model.specs.Fold.{floor_set, made_ciphered, used}
use Rattle.store_model.specs.declared.contents.PlainPage.{PlainPage}
use Rattle.page_pool.specs.Changes.{held_after}
use Rattle.page_pool.specs.Contents.{MayStandAt, plain_in_page}
use Rattle.page_pool.specs.Pages.{PoolState, held_page}
use Rattle.page_pool.proofs.FoldLaws.{held_as_fold}
use Rattle.recovery.specs.Applying.{AppliesRun, IsAllowedRun, held_later}
use Rattle.recovery.specs.Changing.{ChangesRange}
use Rattle.recovery.specs.Loading.{name_in}
use Rattle.recovery.specs.Notes.{no_note}
use Rattle.recovery.specs.Rounds.{has_later}
use Rattle.recovery.specs.Walks.{AllHave}
use Rattle.recovery.specs.declared.notes.PageNote.{PageNote}

-- ---- one mini-transaction more

later_more : {M X : Type 0} (acts : M → ℕ → ℕ → X → X) (lsn : ℕ) (es : List (Logged M)) (e : Logged M) (s p : ℕ) (x : X)
    → later_by acts lsn (es ++ e ∷ []) s p x ≡ (if nat_le e.lsn lsn then later_by acts lsn es s p x else acts e.mtr s p (later_by acts lsn es s p x))
later_more acts lsn [] e s p x = refl
later_more acts lsn (d ∷ ds) e s p x = later_more acts lsn ds e s p (if nat_le d.lsn lsn then x else acts d.mtr s p x)

module _ (notes : List PageNote) (last : List ℕ) (s from end : ℕ) where
  pub run_none : (pool : PoolState) → AppliesRun notes last s from end [] pool pool
  run_none pool = record { each = λ p low high later. refl }

  pub run_more : (run : List (Logged (List Change))) (e : Logged (List Change)) (old mid new : PoolState) → AppliesRun notes last s from end run old mid → ChangesRange notes last s from end e.lsn e.mtr mid new
      → AppliesRun notes last s from end (run ++ e ∷ []) old new
  run_more run e old mid new first next = record {
    each = λ p low high later.
        next.each p low high later
        ∙ ap (λ (o : Option PlainPage). if nat_le e.lsn (slice_index_or notes p no_note).lsn then o else held_after e.mtr (name_in s p) o) (first.each p low high later)
        ∙ sym (later_more (λ (changes : List Change) z q. held_after changes (name_in z q)) (slice_index_or notes p no_note).lsn run e s p (held_page (name_in s p) old));
  }

-- ---- of pages of contents

stands_after : (c : Change) (p : ℕ) (x : Page) → MayStandAt p x → MayStandAt p (page_after c x)
stands_after (Put s page at bytes) p (Head info) is = is
stands_after (Put s page at bytes) p Unused is = is
stands_after (Put s page at bytes) p (Used q) is = is
stands_after (Kind s page kind) p (Head info) is = is
stands_after (Kind s page kind) p Unused is = is
stands_after (Kind s page kind) p (Used q) is = is
stands_after (Touch s page) p (Head info) is = is
stands_after (Touch s page) p Unused is = is
stands_after (Touch s page) p (Used q) is = is
stands_after (Floor s v) p (Head info) is = is
stands_after (Floor s v) p Unused is = is
stands_after (Floor s v) p (Used q) is = is
stands_after (Encrypt s) p (Head info) is = is
stands_after (Encrypt s) p Unused is = is
stands_after (Encrypt s) p (Used q) is = is

stands_acts : (cs : List Change) (s p : ℕ) (x : Page) → MayStandAt p x → MayStandAt p (mtr_acts cs s p x)
stands_acts [] s p x is = is
stands_acts (c ∷ cs) s p x is = stands_acts cs s p (if change_names c s p then page_after c x else x) (by (change_names c s p))
  where
    by : (b : Bool) → MayStandAt p (if b then page_after c x else x)
    by true = stands_after c p x is
    by false = is

pub stands_laters : (lsn : ℕ) (run : List (Logged (List Change))) (s p : ℕ) (x : Page) → MayStandAt p x → MayStandAt p (later_by mtr_acts lsn run s p x)
stands_laters lsn [] s p x is = is
stands_laters lsn (e ∷ es) s p x is = stands_laters lsn es s p (if nat_le e.lsn lsn then x else mtr_acts e.mtr s p x) (by (nat_le e.lsn lsn))
  where
    by : (b : Bool) → MayStandAt p (if b then x else mtr_acts e.mtr s p x)
    by true = is
    by false = stands_acts e.mtr s p x is

pub held_laters : (lsn : ℕ) (run : List (Logged (List Change))) (s p : ℕ) (x : Page) → IsAllowedRun run → MayStandAt p x → held_later lsn run s p (plain_in_page x) ≡ plain_in_page (later_by mtr_acts lsn run s p x)
held_laters lsn [] s p x allowed stands = refl
held_laters lsn (e ∷ es) s p x allowed stands = by (nat_le e.lsn lsn) (held_laters lsn es s p x allowed.1 stands) (held_laters lsn es s p (mtr_acts e.mtr s p x) allowed.1 (stands_acts e.mtr s p x stands))
  where
    by : (b : Bool) → held_later lsn es s p (plain_in_page x) ≡ plain_in_page (later_by mtr_acts lsn es s p x) → held_later lsn es s p (plain_in_page (mtr_acts e.mtr s p x)) ≡ plain_in_page (later_by mtr_acts lsn es s p (mtr_acts e.mtr s p x))
        → held_later lsn es s p (if b then plain_in_page x else held_after e.mtr (name_in s p) (plain_in_page x)) ≡ plain_in_page (later_by mtr_acts lsn es s p (if b then x else mtr_acts e.mtr s p x))
    by true same changed = same
    by false same changed = ap (held_later lsn es s p) (held_as_fold e.mtr (name_in s p) x allowed.0 stands) ∙ changed

-- ---- an unused page that is touched

abbrev pub touched : Page
touched = Used (used None)

named_alike : (c : Change) → page_after c touched ≡ page_after c Unused
named_alike (Put s page at bytes) = refl
named_alike (Kind s page kind) = refl
named_alike (Touch s page) = refl
named_alike (Floor s v) = refl
named_alike (Encrypt s) = refl

-- a mini-transaction that names it makes of it what it makes of an unused page
acts_alike : (cs : List Change) (s p : ℕ) → mtr_names cs s p ≡ true → mtr_acts cs s p touched ≡ mtr_acts cs s p Unused
acts_alike [] s p named = cc
acts_alike (c ∷ cs) s p named = by (change_names c s p) named (acts_alike cs s p)
  where
    by : (b : Bool) → (b || mtr_names cs s p) ≡ true → (mtr_names cs s p ≡ true → mtr_acts cs s p touched ≡ mtr_acts cs s p Unused) → mtr_acts cs s p (if b then page_after c touched else touched) ≡ mtr_acts cs s p (if b then page_after c Unused else Unused)
    by true is rest = ap (mtr_acts cs s p) (named_alike c)
    by false is rest = rest is

-- One of the run with an LSN above this one names the page.
abbrev pub NamesLater : ℕ → List (Logged (List Change)) → ℕ → ℕ → Type 0
NamesLater lsn [] s p = ⊥
NamesLater lsn (e ∷ es) s p = ((nat_le e.lsn lsn ≡ false) × (mtr_names e.mtr s p ≡ true)) ⊎ NamesLater lsn es s p

pub later_alike : (lsn : ℕ) (run : List (Logged (List Change))) (s p : ℕ) → NamesLater lsn run s p → later_by mtr_acts lsn run s p touched ≡ later_by mtr_acts lsn run s p Unused
later_alike lsn [] s p names = absurd names
later_alike lsn (e ∷ es) s p (inl (above, named)) = ap (λ (b : Bool). later_by mtr_acts lsn es s p (if b then touched else mtr_acts e.mtr s p touched)) above
    ∙ ap (later_by mtr_acts lsn es s p) (acts_alike e.mtr s p named) ∙ sym (ap (λ (b : Bool). later_by mtr_acts lsn es s p (if b then Unused else mtr_acts e.mtr s p Unused)) above)
later_alike lsn (e ∷ es) s p (inr later) = by (nat_le e.lsn lsn) (mtr_names e.mtr s p) refl (later_alike lsn es s p later)
  where
    by : (b n : Bool) → mtr_names e.mtr s p ≡ n → later_by mtr_acts lsn es s p touched ≡ later_by mtr_acts lsn es s p Unused
        → later_by mtr_acts lsn es s p (if b then touched else mtr_acts e.mtr s p touched) ≡ later_by mtr_acts lsn es s p (if b then Unused else mtr_acts e.mtr s p Unused)
    by true n is rest = rest
    by false true is rest = ap (later_by mtr_acts lsn es s p) (acts_alike e.mtr s p is)
    by false false is rest = ap (later_by mtr_acts lsn es s p) (mtr_idle e.mtr s p touched is) ∙ rest ∙ sym (ap (later_by mtr_acts lsn es s p) (mtr_idle e.mtr s p Unused is))

-- as it is by an entry of the run
pub names_later : (lsn l : ℕ) (run : List (Logged (List Change))) (s p : ℕ) → IsNamedBy mtr_names run s p l → lsn < l → NamesLater lsn run s p
names_later lsn l run s p is above = subst (λ (r : List (Logged (List Change))). NamesLater lsn r s p) (sym is.is) (walk is.before)
  where
    over : nat_le is.entry.lsn lsn ≡ false
    over = let same = is.lsn_is in grind (arith, nat_tests)

    walk : (before : List (Logged (List Change))) → NamesLater lsn (before ++ is.entry ∷ is.behind) s p
    walk [] = inl (over, is.named)
    walk (e ∷ es) = inr (walk es)

-- a page that is used stays so
used_still : (lsn : ℕ) (run : List (Logged (List Change))) (s p : ℕ) (x : Page) → is_used x ≡ true → is_used (later_by mtr_acts lsn run s p x) ≡ true
used_still lsn [] s p x used = used
used_still lsn (e ∷ es) s p x used = used_still lsn es s p (if nat_le e.lsn lsn then x else mtr_acts e.mtr s p x) (by (nat_le e.lsn lsn) (mtr_names e.mtr s p) refl)
  where
    by : (b n : Bool) → mtr_names e.mtr s p ≡ n → is_used (if b then x else mtr_acts e.mtr s p x) ≡ true
    by true n is = used
    by false true is = mtr_uses e.mtr s p x is
    by false false is = ap is_used (mtr_idle e.mtr s p x is) ∙ used

-- and one that is named is used behind it
pub used_later : (lsn : ℕ) (run : List (Logged (List Change))) (s p : ℕ) (x : Page) → NamesLater lsn run s p → is_used (later_by mtr_acts lsn run s p x) ≡ true
used_later lsn [] s p x names = absurd names
used_later lsn (e ∷ es) s p x (inl (above, named)) =
    ap (λ (b : Bool). is_used (later_by mtr_acts lsn es s p (if b then x else mtr_acts e.mtr s p x))) above ∙ used_still lsn es s p (mtr_acts e.mtr s p x) (mtr_uses e.mtr s p x named)
used_later lsn (e ∷ es) s p x (inr later) = used_later lsn es s p (if nat_le e.lsn lsn then x else mtr_acts e.mtr s p x) later

-- ---- the head of a space keeps its widths

typed_after : (c : Change) (info : SpaceInfo) → IsAllowed c → IsTypedInfo info → (new : SpaceInfo) × (page_after c (Head info) ≡ Head new) × IsTypedInfo new
typed_after (Put s page at bytes) info allowed typed = (info, refl, typed)
typed_after (Kind s page kind) info allowed typed = (info, refl, typed)
typed_after (Touch s page) info allowed typed = (info, refl, typed)
typed_after (Floor s v) info allowed typed =
    (floor_set v info, refl, record { space_fits = typed.space_fits; pages_fit = typed.pages_fit; key_id_fits = typed.key_id_fits; floor_fits = allowed.1; salt_long = typed.salt_long })
typed_after (Encrypt s) info allowed typed =
    (made_ciphered info, refl, record { space_fits = typed.space_fits; pages_fit = typed.pages_fit; key_id_fits = typed.key_id_fits; floor_fits = typed.floor_fits; salt_long = typed.salt_long })

abbrev pub IsTypedHead : Page → Type 0
IsTypedHead x = (info : SpaceInfo) × (x ≡ Head info) × IsTypedInfo info

typed_acts : (cs : List Change) (s p : ℕ) (x : Page) → AreAllowed cs → IsTypedHead x → IsTypedHead (mtr_acts cs s p x)
typed_acts [] s p x allowed typed = typed
typed_acts (c ∷ cs) s p x allowed (info, is, typed) = typed_acts cs s p (if change_names c s p then page_after c x else x) allowed.1 (by (change_names c s p))
  where
    by : (b : Bool) → IsTypedHead (if b then page_after c x else x)
    by true = let (new, head, fits) = typed_after c info allowed.0 typed in (new, ap (page_after c) is ∙ head, fits)
    by false = (info, is, typed)

pub typed_later : (lsn : ℕ) (run : List (Logged (List Change))) (s p : ℕ) (x : Page) → IsAllowedRun run → IsTypedHead x → IsTypedHead (later_by mtr_acts lsn run s p x)
typed_later lsn [] s p x allowed typed = typed
typed_later lsn (e ∷ es) s p x allowed typed = typed_later lsn es s p (if nat_le e.lsn lsn then x else mtr_acts e.mtr s p x) allowed.1 (by (nat_le e.lsn lsn))
  where
    by : (b : Bool) → IsTypedHead (if b then x else mtr_acts e.mtr s p x)
    by true = typed
    by false = typed_acts e.mtr s p x allowed.0 typed

-- ---- the run of a log

-- each of its changes is allowed
pub entries_allowed : (header : HeldHeader) (keys : List RingEntry) (file : List ℕ) (n : ℕ) (run : List (Logged (List Change))) (end : ℕ) → AreLogEntries header keys file n run end → IsAllowedRun run
entries_allowed header keys file n [] end is = tt
entries_allowed header keys file n (e ∷ es) end (k, text, whole, has, says, first, lsn, rest) = (says.allowed, entries_allowed header keys file (n + k) es end rest)

-- and each LSN is above 0
pub entries_above : (header : HeldHeader) (keys : List RingEntry) (file : List ℕ) (n : ℕ) (run : List (Logged (List Change))) (end : ℕ) → AreLogEntries header keys file n run end → AllHave (λ e. 0 < e.lsn) run
entries_above header keys file n [] end is = tt
entries_above header keys file n (e ∷ es) end (k, text, whole, has, says, first, lsn, rest) = ((let some = whole.some in omega (arith, lsn, some)), entries_above header keys file (n + k) es end rest)

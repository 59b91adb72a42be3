-- The rounds of a space are applied one after another.
use Rattle.std.proofs.Common.{◌≡◌, ◌≢◌, ◌⊎◌, inl, inr, ⊎_elim, ℕ, ◌+◌, ◌-◌, ◌≤◌, ◌<◌, Bool, true, MatchBool, if◌then◌else◌, List, slice_index_or, Some, None, refl, sym, ap, subst, ◌∙◌, arith}
use Rattle.std.proofs.lemmas.Bool.{cases_lt}
use Rattle.std.proofs.lemmas.Option.{none-some, same_Some}
use Rattle.aes_core.specs.declared.algorithm.Algorithm.{Algorithm}
use Rattle.disk_model.specs.Event.{Event, reads}
use Rattle.disk_model.specs.Does.{SoFar}
use Rattle.disk_model.specs.Past.{Past, At, Later}
use Rattle.disk_model.specs.declared.names.FileName.TheVariants.{Log, Space}
use Rattle.disk_model.proofs.Moments.{at_each}
use Rattle.doublewrite.specs.declared.refuse.OpenRefuse.{OpenRefuse}
use Rattle.doublewrite.specs.declared.refuse.OpenRefuse.TheVariants.{NotFormatted, Mixed, Damaged, MissingKey, BadRecord, VersionBelowFloor, Spent, DiskFault, OutOfMemory}
use Rattle.key_ring.specs.Ring.{RingEntry}
use Rattle.page_places.specs.Texts.{held}
use Rattle.places.specs.Batches.{From}
use Rattle.places.specs.Places.{shown}
use Rattle.redo_text.specs.declared.change.Change.{Change}
use Rattle.space_head.specs.declared.space.SpaceInfo.{SpaceInfo}
use Rattle.store_files.specs.Header.{HeldHeader}
use Rattle.store_files.specs.Run.{AreLogEntries}
use Rattle.store_image.specs.Opening.{held_of}
use Rattle.store_image.specs.View.{Logged}
use Rattle.store_model.specs.Fold.{used}
use Rattle.store_model.specs.declared.contents.PlainPage.{PlainPage}
use Rattle.crash_image.specs.Opened.{StoreOpened}
use Rattle.recovery.specs.Applying.{SaysRun}
use Rattle.recovery.specs.Due.{HasRefusedPage, IsByPage, IsRoundDue}
use Rattle.recovery.specs.Groups.{IsApplyEvent, IsBeside, IsRangeApplied, LeavesOthers, LeavesSince}
use Rattle.recovery.specs.Loading.{HasNoText, HaveTexts, IsHomePage, IsHomeText, is_unread}
use Rattle.recovery.specs.Notes.{no_note}
use Rattle.recovery.specs.Putting.{BetweenGroups, IsAsChosen, MayApplyGroups}
use Rattle.recovery.specs.Rounds.{count_in}
use Rattle.recovery.specs.declared.notes.PageNote.{PageNote}
use Rattle.recovery.proofs.GroupSteps.{IsAppliedTo}
use Rattle.recovery.proofs.OtherHomes.{leaves_none, leaves_then}
use Rattle.recovery.proofs.RoundSteps.{count_to}

-- ---- the disk goes on to tell

pub told_now : (b : List Event) (old cur : Past) → old ≡ Some b → Later old cur → (m : List Event) × (cur ≡ Some m)
told_now b None cur begun later = absurd (none-some b begun)
told_now b (Some x) None begun later = absurd later
told_now b (Some x) (Some m) begun later = (m, refl)

-- ---- pages without later changes

pub none_in : (has : ℕ → Bool) (from end : ℕ) → count_in has from (end - from) ≤ 0 → (p : ℕ) → from ≤ p → p < end → has p ≡ true → ⊥
none_in has from end few p low high is =
    let all = count_to has from p end low high in
    let one : ◌≡◌ {A = ℕ} (if has p then 1 else 0) 1 = ap (λ (b : Bool). if b then 1 else 0) is in
    omega (arith, all, one, few)

module _ (o : StoreOpened) (entry : List Event) (has : ℕ → Bool) (s : ℕ) where
  pub applied_on : (from end next : ℕ) (old cur : Past) → ((p : ℕ) → end ≤ p → p < next → has p ≡ true → ⊥) → SoFar (MayApplyGroups o entry) (IsApplyEvent s) (IsAppliedTo o entry has s from end old) old cur
      → SoFar (MayApplyGroups o entry) (IsApplyEvent s) (IsAppliedTo o entry has s from next old) old cur
  applied_on from end next old cur none so_far = record {
    moments = so_far.moments;
    adds = so_far.adds;
    at = at_each (λ m done. (done.0, at_each (λ b r. longer b m r) done.1)) so_far.at;
  }
    where
      longer : (b m : List Event) → IsRangeApplied o entry has s from end b m → IsRangeApplied o entry has s from next b m
      longer b m r = record {
        between = r.between;
        done = record { each = λ p low high later. ⊎_elim (λ (lt : p < end). r.done.each p low lt later) (λ (ge : end ≤ p). absurd (none p ge high later)) (cases_lt p end) };
        still = r.still;
      }

  -- the pages behind those that are applied are due
  pub rest_due : (number start end high : ℕ) (b m : List Event) → end ≤ high → LeavesOthers s 0 start b m → BetweenGroups o entry m → IsRoundDue o number entry has s 0 high b → IsRoundDue o number entry has s start end m
  rest_due number start end high b m le leaves between due = record {
    opened = due.opened;
    between = between;
    chosen = λ p low below later.
        let (a, chosen, is) = due.chosen p (omega arith) (omega (arith, below, le)) later in
        (a, chosen, ap (held p) (leaves.homes s p (inr (inr low))) ∙ is);
  }

  pub round_at : (number start end high : ℕ) (b : List Event) (old cur : Past) → end ≤ high → old ≡ Some b → Later old cur → LeavesSince s 0 start old cur → At (IsAppliedTo o entry has s 0 start old) cur → IsRoundDue o number entry has s 0 high b → (m : List Event) × (cur ≡ Some m) × IsRoundDue o number entry has s start end m
  round_at number start end high b old cur le begun later leaves applied due =
      let (m, now) = told_now b old cur begun later in
      let (x, there, others) = leaves.since m now in
      let same : LeavesOthers s 0 start b m = subst (λ (y : List Event). LeavesOthers s 0 start y m) (same_Some x b (sym there ∙ begun)) others in
      (m, now, rest_due number start end high b m le same (applied.here m now).0 due)

pub leaves_on : (s from end next : ℕ) (old cur : Past) → from ≤ end → end ≤ next → LeavesSince s from end old cur → LeavesSince s from next old cur
leaves_on s from end next old cur low high leaves = leaves_then s from end next low high old cur cur leaves (leaves_none s end next cur cur refl)

-- the log goes on to say its run
pub says_still : (header : HeldHeader) (keys : List RingEntry) (first stop : ℕ) (s from end : ℕ) (old cur : Past) → LeavesSince s from end old cur → At (SaysRun header keys first stop) old → At (SaysRun header keys first stop) cur
says_still header keys first stop s from end old cur leaves says = record {
  here = λ m now.
      let (b, begun, others) = leaves.since m now in
      let (run, entries) = says.here b begun in
      (run, subst (λ (file : List ℕ). AreLogEntries header keys file first run stop) (sym others.log) entries);
}

-- ---- texts

module _ (ring : List RingEntry) (algorithm : Algorithm) (info : SpaceInfo) (notes : List PageNote) (has : ℕ → Bool) where
  page_back : (note : PageNote) (p : ℕ) (plain : PlainPage) (b m : List Event) → shown (Space info.space) 16384 p m ≡ shown (Space info.space) 16384 p b → IsHomePage ring algorithm info note p plain m → IsHomePage ring algorithm info note p plain b
  page_back note p plain b m same is = subst (λ (h : List ℕ). MatchBool (is_unread note p) (plain ≡ used None) (IsHomeText ring algorithm info p h plain)) same is

  texts_then : (start end : ℕ) (b m : List Event) → LeavesOthers info.space 0 start b m → HaveTexts ring algorithm info notes has 0 start b → HaveTexts ring algorithm info notes has start end m → HaveTexts ring algorithm info notes has 0 end b
  texts_then start end b m leaves first next = record {
    each = λ p low high later.
        ⊎_elim (λ (lt : p < start). first.each p low lt later)
        (λ (ge : start ≤ p). let (plain, page) = next.each p ge high later in (plain, page_back (slice_index_or notes p no_note) p plain b m (leaves.homes info.space p (inr (inr ge))) page)) (cases_lt p start);
  }

  pub texts_more : (start end : ℕ) (old cur : Past) → LeavesSince info.space 0 start old cur → At (HaveTexts ring algorithm info notes has 0 start) old → At (HaveTexts ring algorithm info notes has start end) cur → At (HaveTexts ring algorithm info notes has 0 end) old
  texts_more start end old cur leaves first next = record {
    here = λ b begun.
        let (m, now) = leaves.told b begun in
        let (x, there, others) = leaves.since m now in
        let same : LeavesOthers info.space 0 start b m = subst (λ (y : List Event). LeavesOthers info.space 0 start y m) (same_Some x b (sym there ∙ begun)) others in
        texts_then start end b m same (first.here b begun) (next.here m now);
  }

  pub texts_on : (end next : ℕ) (old : Past) → ((p : ℕ) → end ≤ p → p < next → has p ≡ true → ⊥) → At (HaveTexts ring algorithm info notes has 0 end) old → At (HaveTexts ring algorithm info notes has 0 next) old
  texts_on end next old none texts = at_each (λ b t. record { each = λ p low high later. ⊎_elim (λ (lt : p < end). t.each p low lt later) (λ (ge : end ≤ p). absurd (none p ge high later)) (cases_lt p end) }) texts

  refused_back : (start end high : ℕ) (why : OpenRefuse) (b m : List Event) → end ≤ high → LeavesOthers info.space 0 start b m → HaveTexts ring algorithm info notes has 0 start b → HasRefusedPage ring algorithm info notes has start end why m → HasRefusedPage ring algorithm info notes has 0 high why b
  refused_back start end high why b m le leaves first refused =
      let low = refused.low in
      let below = refused.high in
      record {
        page = refused.page;
        low = omega arith;
        high = omega (arith, below, le);
        later = refused.later;
        before = texts_then start refused.page b m leaves first refused.before;
        fault = subst (λ (h : List ℕ). HasNoText ring algorithm info refused.page h why) (leaves.homes info.space refused.page (inr (inr low))) refused.fault;
      }

  module _ (start end high : ℕ) (le : end ≤ high) (old cur : Past) (leaves : LeavesSince info.space 0 start old cur) (first : At (HaveTexts ring algorithm info notes has 0 start) old) where
    at_back : (why : OpenRefuse) → At (HasRefusedPage ring algorithm info notes has start end why) cur → At (HasRefusedPage ring algorithm info notes has 0 high why) old
    at_back why refused = record {
      here = λ b begun.
          let (m, now) = leaves.told b begun in
          let (x, there, others) = leaves.since m now in
          let same : LeavesOthers info.space 0 start b m = subst (λ (y : List Event). LeavesOthers info.space 0 start y m) (same_Some x b (sym there ∙ begun)) others in
          refused_back start end high why b m le same (first.here b begun) (refused.here m now);
    }

    -- a refusal by a page of a round is one by a page of the space
    pub by_page_back : (why : OpenRefuse) → IsByPage (HasRefusedPage ring algorithm info notes has start end) cur why → IsByPage (HasRefusedPage ring algorithm info notes has 0 high) old why
    by_page_back DiskFault is = tt
    by_page_back OutOfMemory is = tt
    by_page_back (BadRecord n place) is = at_back (BadRecord n place) is
    by_page_back (Damaged file place stored computed) is = at_back (Damaged file place stored computed) is
    by_page_back (MissingKey id version) is = at_back (MissingKey id version) is
    by_page_back NotFormatted is = at_back NotFormatted is
    by_page_back (Mixed file place wanted found) is = at_back (Mixed file place wanted found) is
    by_page_back (VersionBelowFloor space floor version) is = at_back (VersionBelowFloor space floor version) is
    by_page_back (Spent n) is = at_back (Spent n) is

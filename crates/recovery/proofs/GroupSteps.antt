-- A group that is put makes its pages done.
use Rattle.std.proofs.Common.{◌≡◌, ◌⊎◌, inl, inr, ⊎_elim, ℕ, ◌<◌, ◌≤◌, Bool, true, List, length, Option, Some, Result, Ok, Err, subst, arith}
use Rattle.std.proofs.lemmas.Bool.{cases_lt}
use Rattle.std.specs.Prelude.{OnOk}
use Rattle.disk_model.specs.Does.{Does, IsOn, SoFar}
use Rattle.disk_model.specs.Event.{Event}
use Rattle.disk_model.specs.Past.{Past, At}
use Rattle.disk_model.specs.declared.names.FileName.TheVariants.{Double, Space}
use Rattle.disk_model.proofs.Layers.{adds_each, lift, so_far_none}
use Rattle.disk_model.proofs.Moments.{at_each}
use Rattle.disk_model.proofs.Replay.{on_ok}
use Rattle.places.specs.Batches.{From}
use Rattle.places.proofs.Batches.{of_is_on}
use Rattle.doublewrite.specs.Batch.{home_batch, slot_batch}
use Rattle.doublewrite.specs.declared.texts.Texts.{Texts}
use Rattle.page_pool.specs.Pages.{PoolState}
use Rattle.page_text.specs.declared.key.PageKey.{PageKey}
use Rattle.crash_image.specs.Opened.{StoreOpened}
use Rattle.recovery.specs.Groups.{AreDone, AreSealable, IsApplyEvent, IsRangeApplied}
use Rattle.recovery.specs.Loading.{AreDirty}
use Rattle.recovery.specs.Putting.{BetweenGroups, IsGroupApplied, IsGroupEvent, MayApplyGroups}
use Rattle.recovery.specs.Sealing.{AreTextsIn}
use Rattle.recovery.proofs.PutGroups.{from_start}

pub apply_event : (batch : Texts) (e : Event) → IsGroupEvent batch e → IsApplyEvent batch.space e
apply_event batch e (inl slot) = inl (of_is_on Double 16896 (slot_batch batch) (length batch.pages) e slot)
apply_event batch e (inr home) = inr (of_is_on (Space batch.space) 16384 (home_batch batch) (length batch.pages) e home)

module _ (o : StoreOpened) (entry : List Event) (has : ℕ → Bool) (last : List ℕ) (version : ℕ) (key : Option PageKey) (pool : PoolState) (from end : ℕ) (batch : Texts) (are : AreTextsIn has batch.space last version key pool from end batch.pages) where
  range_applied : (b m : List Event) → BetweenGroups o entry m × IsGroupApplied o batch b m → IsRangeApplied o entry has batch.space from end b m
  range_applied b m (between, group) = record {
    between = between;
    done = record { each = λ p low high later. let (t, among) = are.every p low high later in group.done p t among };
    still = group.still;
  }

  pub group_does : {T X : Type 0} (result : Result T X) (old new : Past) → Does (MayApplyGroups o entry) (IsGroupEvent batch) (From (λ b m. BetweenGroups o entry m × IsGroupApplied o batch b m) old) old new result
      → Does (MayApplyGroups o entry) (IsApplyEvent batch.space) (From (IsRangeApplied o entry has batch.space from end) old) old new result
  group_does result old new does = record {
    moments = does.moments;
    adds = adds_each (apply_event batch) does.adds;
    next = on_ok result (λ at. at_each (λ m from_b. at_each (λ b both. range_applied b m both) from_b) at) does.next;
  }

-- ---- the same with the opening's answers

pub done_by : {T U X Y : Type 0} {P Q : List Event → Type 0} {E : Event → Type 0} {old new : Past} {w : U} (r : Result T X) {v : T} → r ≡ Ok v → Does P E Q old new r → Does {T = U} {X = Y} P E Q old new (Ok w)
done_by {Q = Q} {new = new} r is does = record { moments = does.moments; adds = does.adds; next = subst (λ x. OnOk x (At Q new)) is does.next }

pub failed_as : {T U X Y : Type 0} {P Q : List Event → Type 0} {E : Event → Type 0} {old new : Past} (r : Result T X) (y : Y) → Does P E Q old new r → Does {T = U} {X = Y} P E Q old new (Err y)
failed_as r y does = record { moments = does.moments; adds = does.adds; next = tt }

-- between two groups
pub between_may : (o : StoreOpened) (entry m : List Event) → BetweenGroups o entry m → MayApplyGroups o entry m
between_may o entry m between = record { may = between.between.storing.may; files = between.files }

-- ---- groups in a row

module _ (o : StoreOpened) (entry : List Event) (has : ℕ → Bool) (s : ℕ) where
  -- what is done of a range up to a page, between two groups
  abbrev pub IsAppliedTo : ℕ → ℕ → Past → List Event → Type 0
  IsAppliedTo from end old m = BetweenGroups o entry m × From (IsRangeApplied o entry has s from end) old m

  range_then : (from mid end : ℕ) (b t m : List Event) → IsRangeApplied o entry has s from mid b t → IsRangeApplied o entry has s mid end t m → IsRangeApplied o entry has s from end b m
  range_then from mid end b t m first next = record {
    between = next.between;
    done = record { each = λ p low high later. ⊎_elim (λ (lt : p < mid). next.still s p (first.done.each p low lt later)) (λ (ge : mid ≤ p). next.done.each p ge high later) (cases_lt p mid) };
    still = λ z p done. next.still z p (first.still z p done);
  }

  pub applied_from : (from : ℕ) (b : List Event) → BetweenGroups o entry b → IsRangeApplied o entry has s from from b b
  applied_from from b between = record { between = between; done = record { each = λ p low high later. absurd (omega (arith, low, high)) }; still = λ z p done. done }

  pub groups_none : (from : ℕ) (old : Past) → At (BetweenGroups o entry) old → SoFar (MayApplyGroups o entry) (IsApplyEvent s) (IsAppliedTo from from old) old old
  groups_none from old between =
      so_far_none (λ m done. between_may o entry m done.0) (record { here = λ m is. (between.here m is, from_start (IsRangeApplied o entry has s from from) m m is (applied_from from m (between.here m is))) })

  -- one group more, told from the start
  pub groups_then : {T X : Type 0} (from mid end : ℕ) (old between new : Past) (result : Result T X) → At (IsAppliedTo from mid old) between → Does (MayApplyGroups o entry) (IsApplyEvent s) (From (IsRangeApplied o entry has s mid end) between) between new result
      → Does (MayApplyGroups o entry) (IsApplyEvent s) (IsAppliedTo from end old) between new result
  groups_then from mid end old between new result so_far does =
      lift {U = λ t. (between ≡ Some t) × IsAppliedTo from mid old t} (record { here = λ t is. (is, so_far.here t is) }) (λ t m u since p. p)
      (λ t m u since q. let next = q.here t u.0 in (next.between, at_each (λ b first. range_then from mid end b t m first next) u.1.1)) (λ e k. k) does

-- the pages of a part of a range are due
pub part_sealable : (o : StoreOpened) (has : ℕ → Bool) (s : ℕ) (last : List ℕ) (from end low high : ℕ) (pool : PoolState) → from ≤ low → high ≤ end → AreSealable o has s last from end pool → AreSealable o has s last low high pool
part_sealable o has s last from end low high pool below above due = record { each = λ p ge lt later. due.each p (omega (arith, below, ge)) (omega (arith, above, lt)) later }

pub part_dirty : (has : ℕ → Bool) (s from end low high : ℕ) (pool : PoolState) → from ≤ low → high ≤ end → AreDirty has s from end pool → AreDirty has s low high pool
part_dirty has s from end low high pool below above are = record {
  dirty = λ p ge lt later. are.dirty p (omega (arith, below, ge)) (omega (arith, above, lt)) later;
  typed = λ p ge lt later. are.typed p (omega (arith, below, ge)) (omega (arith, above, lt)) later;
}

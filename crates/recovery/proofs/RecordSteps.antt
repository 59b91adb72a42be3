-- The record of writes over groups in a row while a store is opened.
use Rattle.std.proofs.Common.{◌≡◌, ℕ, List, Result, subst}
use Rattle.disk_model.specs.Does.{Does, SoFar}
use Rattle.disk_model.specs.Event.{Event}
use Rattle.disk_model.specs.Past.{At, Past}
use Rattle.disk_model.proofs.Layers.{adds_none}
use Rattle.disk_model.proofs.Moments.{at_both, begins}
use Rattle.crash_image.specs.Opened.{IsOpenedAt, StoreOpened}
use Rattle.recovery.specs.Putting.{BetweenGroups}
use Rattle.recovery.specs.Recorded.{HasRecord, KeepsOpeningRecord}
use Rattle.recovery.proofs.GroupSteps.{between_may}
use Rattle.recovery.proofs.OpeningRecords.{keeps_record, record_moment}
use Rattle.recovery.proofs.PutGroups.{groups_recover}

module _ (o : StoreOpened) (last : ℕ) (s : List Event) (opened : IsOpenedAt o last s) where
  -- between two groups
  pub keeps_between : (h : Past) → At (BetweenGroups o s) h → At (HasRecord o) h → At (KeepsOpeningRecord o) h
  keeps_between h between kept = at_both (λ m b k. let may = between_may o s m b in keeps_record o last s opened m may.files (groups_recover o last s opened m may) (record_moment o m k)) between kept

  -- before the first of them
  pub records_none : (E : Event → Type 0) (h : Past) → At (BetweenGroups o s) h → At (HasRecord o) h → SoFar (KeepsOpeningRecord o) E (HasRecord o) h h
  records_none E h between kept = record { moments = begins (KeepsOpeningRecord o) h (keeps_between h between kept); adds = adds_none E h; at = kept }

-- a call whose disk is as it was at first
pub does_from : {T X : Type 0} (P : List Event → Type 0) (E : Event → Type 0) (Q : List Event → Type 0) (old mid new : Past) (result : Result T X) → mid ≡ old → Does P E Q mid new result → Does P E Q old new result
does_from P E Q old mid new result same does = subst (λ (h : Past). Does P E Q h new result) same does

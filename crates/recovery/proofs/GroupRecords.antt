-- The record of writes over a group of sealed pages that is stored and written home while a store is opened.
use Rattle.std.proofs.Common.{◌≡◌, ◌⊎◌, inl, inr, ⊎_elim, ℕ, zero, suc, ◌^◌, ◌<◌, true, List, [], ◌∷◌, ◌++◌, length, Some, refl, ap, subst, ◌∙◌, arith, Result, Ok, Err, OnOk, OnErr}
use Rattle.disk_model.specs.Event.{Event}
use Rattle.disk_model.specs.Does.{Adds, Does}
use Rattle.disk_model.specs.Past.{At, Past, Throughout}
use Rattle.disk_model.specs.declared.names.FileName.TheVariants.{Double, Space}
use Rattle.disk_model.proofs.Moments.{at_each}
use Rattle.places.specs.Batches.{From}
use Rattle.places.specs.Writes.{IsPart, grows}
use Rattle.page_places.specs.Texts.{page_bytes, slot_size}
use Rattle.redo_text.specs.declared.change.Change.{Change}
use Rattle.store_image.specs.Groups.{IsAmong, item_of}
use Rattle.store_image.specs.LifeStages.{InOpening}
use Rattle.store_image.specs.Opening.{AreSealed}
use Rattle.store_image.specs.Places.{LogView, log_of}
use Rattle.store_image.specs.Recovers.{PageContents, Theory}
use Rattle.store_image.specs.View.{Text, View}
use Rattle.store_image.proofs.LifeGroups.{AreWritable}
use Rattle.store_image.proofs.OpeningToRecord.{sealed_writable}
use Rattle.store_files.specs.Pages.{has_page, pages_of}
use Rattle.crash_image.specs.Opened.{IsOpenedAt, StoreOpened, opened_theory}
use Rattle.crash_image.proofs.OpeningsOverBytes.{opened_journal}
use Rattle.doublewrite.specs.Batch.{home_batch, home_events, slot_batch, slot_events}
use Rattle.doublewrite.specs.Group.{group_of}
use Rattle.doublewrite.specs.Layer.{ArePagesDistinct, HomesSettled, HomesWriting, IsHomeEvent, IsInside, IsSlotEvent, SlotsSettled}
use Rattle.doublewrite.specs.Text.{ArePageTexts}
use Rattle.doublewrite.specs.declared.texts.Texts.{Texts}
use Rattle.session_image.proofs.BatchRecords.{homed_ready, homes_kept, homing_kept, stored_ready, stores_kept, storing_kept}
use Rattle.recovery.specs.Putting.{IsSealedBatch}
use Rattle.recovery.specs.Recorded.{HasRecord, IsRecordMoment, opened_stage}
use Rattle.recovery.proofs.OpeningRecords.{named_there, record_moment}
use Rattle.recovery.proofs.PutGroups.{at_grown}

module _ (o : StoreOpened) (last : ℕ) (s : List Event) (opened : IsOpenedAt o last s) (batch : Texts) (texts : ArePageTexts batch.pages) (small : batch.space < 2 ^ 32) (sealed : IsSealedBatch o batch) where
  abbrev T : Theory
  T = opened_theory o

  abbrev v : View (List Change)
  v = o.view

  abbrev c : PageContents T
  c = pages_of o.contents

  abbrev N : ℕ
  N = o.header.blocks

  abbrev z : ℕ
  z = batch.space

  abbrev may_log : LogView (List Change) → Type 0
  may_log l = l ≡ log_of v

  -- each page of the group is one of the store
  at_there : (xs : List (ℕ × Text)) → AreSealed T v c o.active z xs → (j : ℕ) → j < length xs → has_page o.header.spaces z (item_of z xs j).page ≡ true
  at_there [] are j below = absurd (omega (arith, below))
  at_there (x ∷ xs) are zero below = named_there o last s opened z x.0 x.1.lsn are.0.named
  at_there (x ∷ xs) are (suc j) below = at_there xs are.1 j (omega (arith, below))

  among_there : (xs : List (ℕ × Text)) → AreSealed T v c o.active z xs → (p : ℕ) (t : Text) → IsAmong p t xs → has_page o.header.spaces z p ≡ true
  among_there [] are p t among = absurd among
  among_there (x ∷ xs) are p t (inl (page, text)) = subst (λ (q : ℕ). has_page o.header.spaces z q ≡ true) page (named_there o last s opened z x.0 x.1.lsn are.0.named)
  among_there (x ∷ xs) are p t (inr among) = among_there xs are.1 p t among

  there : (j : ℕ) → j < length (group_of batch) → has_page o.header.spaces z (item_of z (group_of batch) j).page ≡ true
  there = at_there (group_of batch) sealed

  writable : AreWritable T N (opened_stage o) z (group_of batch)
  writable = sealed_writable T v c o.active N (opened_journal o last s opened) z (group_of batch) (among_there (group_of batch) sealed) sealed

  -- each moment of a `store` that was refused
  pub storing_recorded : (old new : Past) → At (HasRecord o) old → IsPart Double slot_size (slot_batch batch) (length batch.pages) old new → Throughout (IsRecordMoment o) old new
  storing_recorded old new kept part = storing_kept T N may_log (opened_stage o) batch texts there writable small old new (at_each (λ m k. record_moment o m k) kept) part

  -- behind one that was answered Ok
  pub store_recorded : (old mid : Past) → At (HasRecord o) old → mid ≡ grows (slot_events batch) old → Adds (IsSlotEvent batch) old mid → At (From (SlotsSettled batch) old) mid → At (HasRecord o) mid
  store_recorded old mid kept exact adds settled =
      at_grown {P = λ es. (old ≡ Some es) × HasRecord o es} {Q = HasRecord o} (slot_events batch)
      (λ es k.
      let here : mid ≡ Some (slot_events batch ++ es) = exact ∙ ap (grows (slot_events batch)) k.0 in
      stored_ready T N may_log (opened_stage o) batch texts there writable small tt es (slot_events batch ++ es) k.1 refl (adds.since es (slot_events batch ++ es) k.0 here) ((settled.here (slot_events batch ++ es) here).here es k.0))
      old mid exact (record { here = λ es is. (is, kept.here es is) })

  -- and each moment of it
  pub stores_recorded : (old mid : Past) → At (HasRecord o) old → mid ≡ grows (slot_events batch) old → At (HasRecord o) mid → Throughout (IsRecordMoment o) old mid
  stores_recorded old mid kept exact now = stores_kept T N may_log (opened_stage o) batch texts there writable small old mid (at_each (λ m k. record_moment o m k) kept) exact (at_each (λ m k. record_moment o m k) now)

  -- a `home` behind it
  home_recorded : (mid new : Past) → At (λ t. HasRecord o t × ((count : ℕ) × IsInside batch count t)) mid → ArePagesDistinct batch → new ≡ grows (home_events batch) mid → Adds (IsHomeEvent batch) mid new → At (From (HomesSettled batch) mid) new → At (HasRecord o) new
  home_recorded mid new kept distinct exact adds settled =
      at_grown {P = λ es. (mid ≡ Some es) × (HasRecord o es × ((count : ℕ) × IsInside batch count es))} {Q = HasRecord o} (home_events batch)
      (λ es k.
      let here : new ≡ Some (home_events batch ++ es) = exact ∙ ap (grows (home_events batch)) k.0 in
      homed_ready T N may_log (opened_stage o) batch texts there writable tt es (home_events batch ++ es) k.1.0 refl k.1.1.0 k.1.1.1 distinct (adds.since es (home_events batch ++ es) k.0 here) ((settled.here (home_events batch ++ es) here).here es k.0))
      mid new exact (record { here = λ es is. (is, kept.here es is) })

  pub homes_recorded : {U X : Type 0} (result : Result U X) (mid new : Past) → At (λ t. HasRecord o t × ((count : ℕ) × IsInside batch count t)) mid → ArePagesDistinct batch
      → Does (From (HomesWriting batch) mid) (IsHomeEvent batch) (From (HomesSettled batch) mid) mid new result → OnOk result (new ≡ grows (home_events batch) mid) → OnErr result (IsPart (Space z) page_bytes (home_batch batch) (length batch.pages) mid new)
      → Throughout (IsRecordMoment o) mid new × OnOk result (At (HasRecord o) new)
  homes_recorded (Ok x) mid new kept distinct does exact part =
      let now : At (HasRecord o) new = home_recorded mid new kept distinct exact does.adds does.next in
      (homes_kept T N may_log (opened_stage o) batch texts there writable mid new (at_each (λ m k. record_moment o m k.0) kept) exact (at_each (λ m k. record_moment o m k) now), now)
  homes_recorded (Err y) mid new kept distinct does exact part = (homing_kept T N may_log (opened_stage o) batch texts there writable mid new (at_each (λ m k. record_moment o m k.0) kept) part, tt)

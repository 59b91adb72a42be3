-- What a creation is to a disk, once its events are known.
use Rattle.std.proofs.Common.{◌≡◌, ◌⊎◌, ℕ, List, [], ◌∷◌, Some, refl, sym, ap, ◌∙◌, subst, inl, inr, arith}
use Rattle.std.proofs.lemmas.Option.{same_Some}
use Rattle.crash_image.specs.Rest.{HasNonePending, IsAtRest}
use Rattle.disk_model.specs.Event.{Event}
use Rattle.disk_model.specs.Past.{Past, At, Throughout}
use Rattle.disk_model.specs.declared.names.FileName.TheVariants.{Log}
use Rattle.disk_model.proofs.Moments.{at_each, at_is, begins}
use Rattle.key_ring.specs.Ring.{RingEntry}
use Rattle.places.specs.Batches.{From}
use Rattle.space_head.specs.declared.space.Home.{Home}
use Rattle.space_head.specs.declared.space.SpaceInfo.{SpaceInfo}
use Rattle.store_files.specs.Header.{HeldHeader}
use Rattle.store_model.specs.Fold.{empty}
use Rattle.store_form.specs.CreateAnswer.{IsBegun}
use Rattle.store_form.specs.Created.{HasNoFile, LeaveNoneOrEmpty, RecordsCreation, WritesFirstPages}
use Rattle.store_form.specs.Creation.{creation, events_after, past_after}
use Rattle.store_form.specs.Made.{CanBeMade}
use Rattle.store_form.specs.Plan.{homes_made}
use Rattle.store_form.specs.Rest.{IsRestForm, ReadsAtRest}
use Rattle.store_form.proofs.CreatedRecord.{record_means, record_none}
use Rattle.store_form.proofs.CreationFiles.{creation_ends, m_header}
use Rattle.store_form.proofs.CreationMoments.{images_of_creation, record_of_creation}
use Rattle.store_form.proofs.CreationRest.{created_form, reads_created, rests_created}
use Rattle.store_form.proofs.CreationSteps.{AtEach, at_after, each_weaker, moments_after, moments_stopped, past_after-some}

module _ (header : HeldHeader) (spaces : List SpaceInfo) (old new : Past) where
  abbrev steps : List Event
  steps = creation header spaces

  abbrev P : List Event → Type 0
  P = LeaveNoneOrEmpty spaces

  abbrev W : List Event → Type 0
  W = From (WritesFirstPages spaces) old

  -- ---- images

  before : At (HasNoFile spaces) old → At (LeaveNoneOrEmpty spaces) old
  before at = at_each (λ es none image is lucky keys. inl (inl (is.made Log ∙ none.log))) at

  each_image : CanBeMade header spaces → At (HasNoFile spaces) old → At (AtEach (LeaveNoneOrEmpty spaces) (creation header spaces)) old
  each_image can at = at_each (λ es none. images_of_creation header spaces es can.writable can.spaces_are can.differ none.log) at

  pub images_done : CanBeMade header spaces → new ≡ past_after (creation header spaces) old → At (HasNoFile spaces) old → Throughout (LeaveNoneOrEmpty spaces) old new
  images_done can is at = subst (λ (h : Past). Throughout P old h) (sym is) (moments_after P steps old (each_image can at))

  pub images_begun : IsBegun header spaces old new → At (HasNoFile spaces) old → Throughout (LeaveNoneOrEmpty spaces) old new
  images_begun (inl same) at = subst (λ (h : Past). Throughout P old h) (sym same) (begins P old (before at))
  images_begun (inr (can, stop)) at = moments_stopped P steps old new (each_image can at) stop

  -- ---- the record of writes

  from_first : (es m : List Event) → old ≡ Some es → WritesFirstPages spaces es m → From (WritesFirstPages spaces) old m
  from_first es m is wrote = record { here = λ s that. let same : es ≡ s = same_Some es s (sym is ∙ that) in subst (λ (t : List Event). WritesFirstPages spaces t m) same wrote }

  none_written : At (From (WritesFirstPages spaces) old) old
  none_written = record { here = λ es is. from_first es es is (record { told = refl; items = []; is = refl; first = tt }) }

  each_written : CanBeMade header spaces → At (AtEach (From (WritesFirstPages spaces) old) (creation header spaces)) old
  each_written can = record { here = λ es is. each_weaker steps es (λ m wrote. from_first es m is wrote) (record_of_creation header spaces es can.made) }

  pub written_done : CanBeMade header spaces → new ≡ past_after (creation header spaces) old → Throughout (From (WritesFirstPages spaces) old) old new
  written_done can is = subst (λ (h : Past). Throughout W old h) (sym is) (moments_after W steps old (each_written can))

  pub written_begun : IsBegun header spaces old new → Throughout (From (WritesFirstPages spaces) old) old new
  written_begun (inl same) = subst (λ (h : Past). Throughout W old h) (sym same) (begins W old none_written)
  written_begun (inr (can, stop)) = moments_stopped W steps old new (each_written can) stop

  -- ---- the record is that of a new store

  abbrev R : List Event → Type 0
  R = From (RecordsCreation header spaces) old

  from_recorded : (es m : List Event) → old ≡ Some es → RecordsCreation header spaces es m → From (RecordsCreation header spaces) old m
  from_recorded es m is records = record { here = λ s that. let same : es ≡ s = same_Some es s (sym is ∙ that) in subst (λ (t : List Event). RecordsCreation header spaces t m) same records }

  none_recorded : At (From (RecordsCreation header spaces) old) old
  none_recorded = record { here = λ es is. from_recorded es es is (record_none header spaces es) }

  each_recorded : CanBeMade header spaces → At (AtEach (From (RecordsCreation header spaces) old) (creation header spaces)) old
  each_recorded can = record { here = λ es is. each_weaker steps es (λ m wrote. from_recorded es m is (record_means header spaces can es m wrote)) (record_of_creation header spaces es can.made) }

  pub recorded_done : CanBeMade header spaces → new ≡ past_after (creation header spaces) old → Throughout (From (RecordsCreation header spaces) old) old new
  recorded_done can is = subst (λ (h : Past). Throughout R old h) (sym is) (moments_after R steps old (each_recorded can))

  pub recorded_begun : IsBegun header spaces old new → Throughout (From (RecordsCreation header spaces) old) old new
  recorded_begun (inl same) = subst (λ (h : Past). Throughout R old h) (sym same) (begins R old none_recorded)
  recorded_begun (inr (can, stop)) = moments_stopped R steps old new (each_recorded can) stop

  -- ---- the store at rest

  pub rests_done : CanBeMade header spaces → new ≡ past_after (creation header spaces) old → At (λ es. HasNonePending es → (keys : List RingEntry) → At (λ now. IsAtRest now keys (empty spaces) 2) new) old
  rests_done can done = record {
    here = λ es is none keys. record {
      here = λ now that.
          let ends : Some (events_after steps es) ≡ Some now = sym (past_after-some steps es) ∙ ap (past_after steps) (sym is) ∙ sym done ∙ that in
          let same : m_header header spaces es ≡ now = sym (creation_ends header spaces es) ∙ same_Some (events_after steps es) now ends in
          subst (λ (n : List Event). IsAtRest n keys (empty spaces) 2) same (rests_created header spaces es can.writable can.spaces_are can.differ none keys);
    };
  }

  pub reads_done : CanBeMade header spaces → new ≡ past_after (creation header spaces) old → At (ReadsAtRest header spaces (homes_made spaces) 2 1) new
  reads_done can done =
      at_is done (at_after {P = λ es. Unit {0}} steps old
      (λ es any. subst (λ (n : List Event). ReadsAtRest header spaces (homes_made spaces) 2 1 n) (sym (creation_ends header spaces es)) (reads_created header spaces es can.writable can.spaces_are can.differ))
      (record { here = λ es is. tt }))

-- the same of a header, spaces and homes that are these
module _ (h k : HeldHeader) (ss ts : List SpaceInfo) (os : List (List Home)) (header : h ≡ k) (spaces : ss ≡ ts) (homes : os ≡ homes_made ts) where
  pub form_as : CanBeMade k ts → IsRestForm h ss os 2 1
  form_as can =
      subst (λ (x : HeldHeader). IsRestForm x ss os 2 1) (sym header) (subst (λ (x : List SpaceInfo). IsRestForm k x os 2 1) (sym spaces) (subst (λ (x : List (List Home)). IsRestForm k ts x 2 1) (sym homes) (created_form k ts can.writable can.spaces_are)))

  pub reads_as_made : (now : Past) → At (ReadsAtRest k ts (homes_made ts) 2 1) now → At (ReadsAtRest h ss os 2 1) now
  reads_as_made now at =
      subst (λ (x : HeldHeader). At (ReadsAtRest x ss os 2 1) now) (sym header) (subst (λ (x : List SpaceInfo). At (ReadsAtRest k x os 2 1) now) (sym spaces) (subst (λ (x : List (List Home)). At (ReadsAtRest k ts x 2 1) now) (sym homes) at))

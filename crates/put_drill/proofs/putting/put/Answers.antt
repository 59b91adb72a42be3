use Rattle.std.proofs.Common.{length, inl, inr, refl}
use Rattle.disk_model.specs.declared.names.FileName.TheVariants.{Double, Space}
use Rattle.disk_model.proofs.Moments.{at_each}
use Rattle.disk_model.proofs.Layers.{does_then, does_err, since_each}
use Rattle.places.proofs.Batches.{with_since, from_each, carried, at_end, of_is_on}
use Rattle.places.proofs.FileSteps.{file_of_places}
use Rattle.places.proofs.Others.{places_since}
use Rattle.page_places.specs.Texts.{pages, slots}
use Rattle.doublewrite.specs.Batch.{slot_batch}
use Rattle.put_drill.specs.Put.{Storing, Homing, IsBatchStored}
use Rattle.put_drill.proofs.putting.put.Goals as goal

pub store-requires-clause-places : goal.store-requires-clause-places
store-requires-clause-places g c = at_each (file_of_places Double slots) c.requires.places

pub home-requires-clause-inside : goal.home-requires-clause-inside
home-requires-clause-inside g c =
    let batch = c.args.batch.now in
    let stored = with_since (c.in_ok-store.ensures.does c.requires.places) in
    at_end (λ s m known w. (
      known.0,
      record {
        file = file_of_places (Space batch.space) (pages known.0) m
            (places_since Double (Space batch.space) refl (pages known.0) s m (since_each (of_is_on Double 16896 (slot_batch batch) (length batch.pages)) w.0) known.1.places);
        within = known.1.within;
      },
    )) stored.moments.later c.requires.inside stored.next

pub returns-in_err-store-clause-does : goal.returns-in_err-store-clause-does
returns-in_err-store-clause-does g c =
    let batch = c.args.batch.now in
    does_err _ _ c.from_residual.ensures.1 (from_each {S' = IsBatchStored batch} (λ s m w. Storing w.0 w.1) (λ s m w. record { since = w.0; settled = w.1 }) (λ e k. inl k) (with_since (c.in_err-store.ensures.does c.requires.places)))

pub returns-clause-does : goal.returns-clause-does
returns-clause-does g c =
    let stored = from_each {S' = IsBatchStored c.args.batch.now} (λ s m w. Storing w.0 w.1) (λ s m w. record { since = w.0; settled = w.1 }) (λ e k. inl k) (with_since (c.in_ok-store.ensures.does c.requires.places)) in
    does_then stored
    (carried stored.next (λ s t m a w. Homing t a w.0 w.1) (λ s t m a w. record { middle = t; stored = a; since = w.0; settled = w.1 }) (λ e k. inr k) (with_since c.home.ensures.does))

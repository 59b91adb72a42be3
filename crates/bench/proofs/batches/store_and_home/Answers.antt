use Rattle.std.proofs.Common.{ℕ, length, refl, sym, subst}
use Rattle.disk_model.specs.Past.{At}
use Rattle.disk_model.specs.declared.names.FileName.TheVariants.{Double, Space}
use Rattle.disk_model.proofs.Moments.{at_each}
use Rattle.disk_model.proofs.Layers.{since_each}
use Rattle.doublewrite.specs.Batch.{slot_batch, home_batch}
use Rattle.doublewrite.specs.Layer.{IsInside}
use Rattle.page_places.specs.Texts.{pages, slots}
use Rattle.places.specs.Places.{HasFile, HasPlaces}
use Rattle.places.proofs.Batches.{with_since, at_end, of_is_on}
use Rattle.places.proofs.FileSteps.{file_of_places}
use Rattle.places.proofs.Others.{places_since}
use Rattle.bench.proofs.batches.store_and_home.Goals as goal

pub store-requires-clause-places : goal.store-requires-clause-places
store-requires-clause-places g c = at_each (file_of_places Double slots) c.requires.double

pub home-requires-clause-inside : goal.home-requires-clause-inside
home-requires-clause-inside g c =
    let batch = c.args.batch.now in
    let count = c.args.count in
    let stored = with_since (c.in-Ok.ensures.does c.requires.double) in
    at_end (λ s m known w. (
      count,
      record {
        file = subst (λ (k : ℕ). HasFile (Space k) (pages count) m) (sym c.requires.five) (file_of_places (Space 5) (pages count) m (places_since Double (Space 5) refl (pages count) s m (since_each (of_is_on Double 16896 (slot_batch batch) (length batch.pages)) w.0) known));
        within = c.requires.within;
      },
    )) stored.moments.later c.requires.space stored.next

pub returns-clause-double : goal.returns-clause-double
returns-clause-double g c =
    let batch = c.args.batch.now in
    let stored = with_since (c.in-Ok.ensures.does c.requires.double) in
    let homed = with_since c.in-Ok-home.ensures.does in
    let double : At (HasPlaces Double slots) (g.D.Disk.past c.store.new.disk) = at_end (λ s m known w. w.1.wrote.writing.places) stored.moments.later c.requires.double stored.next in
    at_end (λ s m known w. places_since (Space batch.space) Double refl slots s m (since_each (of_is_on (Space batch.space) 16384 (home_batch batch) (length batch.pages)) w.0) known) homed.moments.later double homed.next

pub returns-clause-space : goal.returns-clause-space
returns-clause-space g c =
    let batch = c.args.batch.now in
    let count = c.args.count in
    let stored = with_since (c.in-Ok.ensures.does c.requires.double) in
    let homed = with_since c.in-Ok-home.ensures.does in
    let within : At (IsInside batch count) (g.D.Disk.past c.store.new.disk) =
    at_end (λ s m known w. record {
      places = subst (λ (k : ℕ). HasPlaces (Space k) (pages count) m) (sym c.requires.five) (places_since Double (Space 5) refl (pages count) s m (since_each (of_is_on Double 16896 (slot_batch batch) (length batch.pages)) w.0) known);
      within = c.requires.within;
    }) stored.moments.later c.requires.space stored.next in
    at_end (λ s m known w. subst (λ (k : ℕ). HasPlaces (Space k) (pages count) m) c.requires.five (w.1 count known).wrote.writing.places) homed.moments.later within homed.next

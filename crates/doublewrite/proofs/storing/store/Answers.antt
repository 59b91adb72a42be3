use Rattle.std.proofs.Common.{◌<◌, ◌^◌, rules}
use Rattle.places.proofs.Batches.{from_known, with_since}
use Rattle.doublewrite.proofs.ImageSteps.{slots_may, slots_hold}
use Rattle.doublewrite.proofs.storing.store.Goals as goal

pub returns-clause-images : goal.returns-clause-images
returns-clause-images g c = λ has honest.
    let batch = c.args.batch.now in
    let texts = c.are_texts.ensures in
    let small : batch.space < 2 ^ 32 = search rules in
    from_known honest (λ s m h w. slots_may batch texts s m small h w.0 w.1) (λ s m h w. slots_hold batch texts s m small w.0 w.1) (λ e k. k) (with_since (c.store_slots.ensures.does has))

use Rattle.std.proofs.Common.{ℕ}
use Rattle.disk_model.specs.Past.{At}
use Rattle.disk_model.proofs.Moments.{at_both}
use Rattle.places.proofs.Batches.{from_known, with_since}
use Rattle.doublewrite.specs.Images.{AreHomesHonest}
use Rattle.doublewrite.specs.Layer.{IsInside}
use Rattle.doublewrite.proofs.ImageSteps.{homes_may, homes_hold}
use Rattle.doublewrite.proofs.homes.home.Goals as goal

pub returns-clause-images : goal.returns-clause-images
returns-clause-images g c = λ inside honest.
    let batch = c.args.batch.now in
    let texts = c.are_texts.ensures in
    let known : At (λ es. AreHomesHonest batch.space es × ((count : ℕ) × IsInside batch count es)) (g.D.Disk.past c.args.disk.now) = at_both (λ es h i. (h, i)) honest inside in
    from_known known (λ s m k w. homes_may batch texts s m k.1.0 k.1.1 k.0 w.0 w.1) (λ s m k w. homes_hold batch texts s m k.1.0 k.1.1 w.0 w.1) (λ e k. k) (with_since c.bring_home.ensures.does)

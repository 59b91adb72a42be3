use Rattle.std.proofs.Common.{◌*◌, take, drop, ap, ◌∙◌, ℕ}
use Rattle.disk_model.specs.Event.{reads}
use Rattle.disk_model.specs.declared.names.FileName.TheVariants.{Space}
use Rattle.disk_model.proofs.Moments.{at_each}
use Rattle.places.proofs.Steps.{shown_read}
use Rattle.store_form.proofs.reading.read_home.Goals as goal

pub returns-in-Ok-clause-bytes : goal.returns-in-Ok-clause-bytes
returns-in-Ok-clause-bytes g c =
    let f = Space c.args.space in
    at_each (λ es is. is
    ∙ ap (λ (n : ℕ). take n (drop (c.from-at.result * 16384) (reads f es))) c.requires.long
    ∙ ap (λ (p : ℕ). take 16384 (drop (p * 16384) (reads f es))) c.from-at.ensures
    ∙ shown_read f 16384 c.args.page es) c.in-Ok.ensures.bytes

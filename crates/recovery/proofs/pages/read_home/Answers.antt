use Rattle.std.proofs.Common.{◌*◌, ◌∙◌, ap, take, drop, ℕ}
use Rattle.disk_model.specs.Event.{reads}
use Rattle.disk_model.specs.declared.names.FileName.TheVariants.{Space}
use Rattle.disk_model.proofs.Moments.{at_each}
use Rattle.disk_model.proofs.Replay.{on_ok}
use Rattle.places.proofs.Steps.{shown_read}
use Rattle.recovery.proofs.pages.read_home.Goals as goal

pub returns-clause-bytes : goal.returns-clause-bytes
returns-clause-bytes g c =
    let f = Space c.args.space in
    on_ok c.read.result (λ at. at_each (λ es is. is
    ∙ ap (λ (n : ℕ). take n (drop (c.from.result * 16384) (reads f es))) c.requires.long
    ∙ ap (λ (p : ℕ). take 16384 (drop (p * 16384) (reads f es))) c.from.ensures
    ∙ shown_read f 16384 c.args.page es) at) c.read.ensures.bytes

use Rattle.std.proofs.Common.{◌≡◌, ◌+◌, ◌*◌, ◌%◌, ◌∙◌, ap, take, drop, ℕ, refl}
use Rattle.disk_model.specs.Event.{Event, reads}
use Rattle.disk_model.specs.declared.names.FileName.TheVariants.{Log}
use Rattle.disk_model.proofs.Moments.{at_each}
use Rattle.disk_model.proofs.Replay.{on_ok}
use Rattle.places.specs.Places.{shown}
use Rattle.places.proofs.Steps.{shown_read}
use Rattle.store_files.specs.Run.{block_at}
use Rattle.recovery.proofs.run_text.read_number.Goals as goal
use Rattle.std.specs.Prelude.{List}

shown_is : (blocks n : ℕ) (es : List Event) → shown Log 4096 (3 + n % blocks) es ≡ block_at blocks (reads Log es) n
shown_is blocks n es = refl

pub returns-clause-bytes : goal.returns-clause-bytes
returns-clause-bytes g c =
    on_ok c.read.result (λ at. at_each (λ es is. is
    ∙ ap (λ (n : ℕ). take n (drop c.byte_of.result (reads Log es))) c.requires.long
    ∙ ap (λ (p : ℕ). take 4096 (drop p (reads Log es))) c.byte_of.ensures
    ∙ shown_read Log 4096 (3 + c.args.number % c.args.blocks) es
    ∙ shown_is c.args.blocks c.args.number es) at) c.read.ensures.bytes

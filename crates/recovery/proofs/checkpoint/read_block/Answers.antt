use Rattle.std.proofs.Common.{◌+◌, ◌*◌, ◌≤◌, ◌∙◌, ap, length, take, drop, ℕ, arith}
use Rattle.disk_model.specs.Event.{reads}
use Rattle.disk_model.specs.declared.names.FileName.TheVariants.{Log}
use Rattle.disk_model.proofs.Moments.{at_each}
use Rattle.disk_model.proofs.Replay.{on_ok}
use Rattle.places.proofs.Steps.{shown_read}
use Rattle.recovery.proofs.checkpoint.read_block.Goals as goal

pub read-requires : goal.read-requires
read-requires g c = record { inside = at_each (λ es has. record { there = has.there; within = let h = has.long in let l = c.requires.long in let p = c.requires.place in omega (arith, h, l, p) }) c.requires.inside }

pub returns-clause-bytes : goal.returns-clause-bytes
returns-clause-bytes g c =
    on_ok c.read.result (λ at. at_each (λ es is. is ∙ ap (λ (n : ℕ). take n (drop (c.args.place * 4096) (reads Log es))) c.requires.long ∙ shown_read Log 4096 c.args.place es) at) c.read.ensures.bytes

use Rattle.std.proofs.Common.{◌+◌, ◌*◌, ◌≤◌, ◌∙◌, length, take, drop, ap, arith}
use Rattle.std.proofs.lemmas.Result.{on_ok_weaker}
use Rattle.disk_model.specs.Event.{reads}
use Rattle.disk_model.specs.declared.names.FileName.TheVariants.{Log}
use Rattle.disk_model.proofs.Moments.{at_each}
use Rattle.plain_engine.proofs.Places.{place_high}
use Rattle.plain_engine.proofs.reading.read_ring_block.Goals as goal
use Rattle.plain_engine.specs.Block.{log_bytes}

pub overflow_mul-ring_place : goal.overflow_mul-ring_place
overflow_mul-ring_place g c = let high = place_high c.args.number in omega (arith, high, c.ring_place.ensures)

pub read-requires : goal.read-requires
read-requires g c =
    let high = place_high c.args.number in
    let fits : c.ring_place.result * 4096 + length c.args.buffer.now ≤ log_bytes = omega (arith, high, c.ring_place.ensures, c.requires.size) in
    at_each (λ es i. record { there = i.there; within = omega (arith, fits, i.within) }) c.requires.inside

pub returns-clause-block : goal.returns-clause-block
returns-clause-block g c = on_ok_weaker c.read.result
    (at_each (λ es is. is ∙ ap (λ n. take n (drop (c.ring_place.result * 4096) (reads Log es))) c.requires.size ∙ ap (λ n. take 4096 (drop (n * 4096) (reads Log es))) c.ring_place.ensures))
    c.read.ensures.bytes

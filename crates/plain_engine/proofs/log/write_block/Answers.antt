use Rattle.std.proofs.Common.{◌≡◌, ◌+◌, ◌∙◌, ◌*◌, [], refl, arith}
use Rattle.std.proofs.lemmas.List.{get_or_read}
use Rattle.disk_model.specs.Event.{Write}
use Rattle.disk_model.specs.Past.{IsWrite}
use Rattle.disk_model.specs.declared.names.FileName.TheVariants.{Log}
use Rattle.disk_model.proofs.Moments.{one_call, at_each}
use Rattle.plain_engine.proofs.Events.{ready_moment, entry_fits, write_next, write_each}
use Rattle.plain_engine.proofs.Places.{place_high}
use Rattle.plain_engine.specs.Layer.{entry}
use Rattle.plain_engine.proofs.log.write_block.Goals as goal

pub overflow_mul-ring_place : goal.overflow_mul-ring_place
overflow_mul-ring_place g c = let high = place_high (c.args.i + 2) in omega (arith, high, c.ring_place.ensures)

pub write-requires : goal.write-requires
write-requires g c =
    let body = get_or_read _ c.args.i _ c.requires.more c.index.ensures [] in
    let is : c.bytes.result.now ≡ entry c.args.log.now.blocks.items c.args.i = c.bytes.ensures ∙ body in
    rw c.ring_place.ensures (at_each (entry_fits c.args.log.now.blocks.items c.args.log.now.settled c.args.i c.args.log.now.acked c.requires.more c.bytes.result.now is) c.requires.ready)

pub returns-clause-step : goal.returns-clause-step
returns-clause-step g c =
    let blocks = c.args.log.now.blocks.items in
    let settled = c.args.log.now.settled in
    let i = c.args.i in
    let acked = c.args.log.now.acked in
    let bytes = c.bytes.result.now in
    let body = get_or_read _ i _ c.requires.more c.index.ensures [] in
    let is : bytes ≡ entry blocks i = c.bytes.ensures ∙ body in
    let at = c.ring_place.result * 4096 in
    one_call (IsWrite Log at bytes) (Write Log at bytes bytes) c.requires.ready (ready_moment blocks settled i acked)
    (rw c.ring_place.ensures (write_each blocks settled i acked c.requires.more bytes is)) (bytes, refl, refl) (rw c.ring_place.ensures (write_next blocks settled i acked c.requires.more bytes is))
    c.write.ensures.ok c.write.ensures.err

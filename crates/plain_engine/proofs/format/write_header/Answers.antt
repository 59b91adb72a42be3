use Rattle.std.proofs.Common.{◌≡◌, length, ap, ◌∙◌, refl, arith}
use Rattle.std.proofs.lemmas.Result.{on_ok_weaker}
use Rattle.disk_model.specs.Event.{put, zeros}
use Rattle.disk_model.proofs.Moments.{at_each}
use Rattle.plain_engine.specs.Block.{log_bytes, IsHeader}
use Rattle.plain_engine.proofs.Fresh.{now_inside, now_synced, after_two, length-header, length_one, ready_made, headed_made}
use Rattle.plain_engine.proofs.format.write_header.Goals as goal

pub write-requires : goal.write-requires
write-requires g c =
    let size : length c.bytes.result.now ≡ 4096 = ap length c.bytes.ensures ∙ length-header c.requires.header in
    at_each (λ es h. now_inside (put 8192 h.block (zeros log_bytes)) 0 c.bytes.result.now (omega (arith, size, length_one h.block h.is)) es h.now) c.requires.now

pub returns-clause-ok : goal.returns-clause-ok
returns-clause-ok g c =
    let block = c.bytes.result.now in
    let is : IsHeader c.args.spaces.now block = rw c.bytes.ensures c.requires.header in
    on_ok_weaker c.sync.result
    (after_two 0 block (λ es h. ready_made log_bytes refl h.block block h.is c.args.spaces.now is _ (now_synced (put 8192 h.block (zeros log_bytes)) 0 block es h.now)) c.requires.now c.in_ok-write.ensures.ok) c.sync.ensures.ok

pub returns-clause-header : goal.returns-clause-header
returns-clause-header g c =
    let block = c.bytes.result.now in
    let is : IsHeader c.args.spaces.now block = rw c.bytes.ensures c.requires.header in
    on_ok_weaker c.sync.result
    (after_two 0 block (λ es h. headed_made log_bytes refl h.block block h.is c.args.spaces.now is _ (now_synced (put 8192 h.block (zeros log_bytes)) 0 block es h.now)) c.requires.now c.in_ok-write.ensures.ok) c.sync.ensures.ok

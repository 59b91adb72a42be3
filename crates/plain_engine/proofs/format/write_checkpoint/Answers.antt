use Rattle.std.proofs.Common.{◌≡◌, length, ap, ◌∙◌, arith}
use Rattle.std.proofs.lemmas.Result.{on_ok_weaker}
use Rattle.disk_model.specs.Event.{zeros}
use Rattle.disk_model.proofs.Moments.{at_each}
use Rattle.plain_engine.specs.Block.{log_bytes, IsCheckpoint}
use Rattle.plain_engine.proofs.Fresh.{now_inside, now_synced, after_two, length-zeros, length-checkpoint}
use Rattle.plain_engine.proofs.format.write_checkpoint.Goals as goal

pub write-requires : goal.write-requires
write-requires g c =
    let size : length c.bytes.result.now ≡ 4096 = ap length c.bytes.ensures ∙ length-checkpoint c.requires.checkpoint in
    at_each (now_inside (zeros log_bytes) 8192 c.bytes.result.now (omega (arith, size, length-zeros log_bytes))) c.requires.now

pub returns-clause-ok : goal.returns-clause-ok
returns-clause-ok g c =
    let block = c.bytes.result.now in
    let is : IsCheckpoint 1 2 block = rw c.bytes.ensures c.requires.checkpoint in
    on_ok_weaker c.sync.result
    (after_two 8192 block (λ es n. record { block = block; is = is; now = now_synced (zeros log_bytes) 8192 block es n }) c.requires.now c.in_ok-write.ensures.ok) c.sync.ensures.ok

use Rattle.std.proofs.Common.{◌+◌, ◌-◌, ◌*◌, ◌/◌, arith}
use Rattle.aes_core.proofs.WordKeys.{opened_words}
use Rattle.aes_core.proofs.key.BlockKey.planes.Goals as goal

pub returns : goal.returns
returns c =
    let i = c.self.inside in
    let e = opened_words i.words i.back i.key_len (4 * (i.key_len / 4 + 6 + 1) - 0) c.args.self.now c.self.invariant (omega arith) c.self.view_is in
    rw (← e.0, ← e.1) c.key_planes.ensures

use Rattle.std.proofs.Common.{ℕ, ◌<◌, ◌≤◌, length, get_or, arith}
use Rattle.session_core.proofs.FloorLaws.{first_at, none_next, own_at}
use Rattle.session_core.proofs.missing.first_above.Goals as goal

pub returns-then-version-info : goal.returns-then-version-info
returns-then-version-info c =
    let lt : c.loop-info.info-index < length c.args.spaces.now = omega arith in
    first_at c.args.version c.loop-info.info-index c.args.spaces.now _ lt (own_at c.args.spaces.now c.loop-info.info-index _ lt) c.if-version-info.true c.loop-info.invariant

pub loop-info-preserved : goal.loop-info-preserved
loop-info-preserved c =
    let lt : c.loop-info.info-index < length c.args.spaces.now = omega arith in
    none_next c.args.version c.loop-info.info-index c.args.spaces.now _ lt (own_at c.args.spaces.now c.loop-info.info-index _ lt) c.if-version-info.false c.loop-info.invariant

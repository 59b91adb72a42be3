use Rattle.std.proofs.Common.{◌≡◌, length, arith}
use Rattle.redo_log.proofs.append.known_key.Goals as goal

pub returns : goal.returns
returns c =
    let long : length c.args.key.now.local ≡ 16 = c.known_local.ensures.long in
    record {
      cipher = record { whole = omega (arith, long); some = omega (arith, long); bytes = c.known_local.ensures.bytes };
      some = c.requires;
      small = c.known_version.ensures;
    }

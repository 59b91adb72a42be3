use Rattle.std.proofs.Common.{List, ap}
use Rattle.store_files.specs.Header.{HeldHeader, HeldSpace}
use Rattle.image_log.proofs.header.listed.Goals as goal

pub returns : goal.returns
returns c =
    let h = c.args.header.now in
    let told : List HeldSpace → HeldHeader = λ spaces. record { algorithm = h.algorithm; blocks = h.blocks; salt = h.salt; spaces = spaces } in
    ap told c.in_ok-spaces.ensures

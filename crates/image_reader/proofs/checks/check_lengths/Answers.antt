use Rattle.std.proofs.Common.{◌≡◌, ◌∙◌, ap, sym, subst, length, arith, List, Option}
use Rattle.store_files.specs.Header.{HeldSpace}
use Rattle.image_reader.specs.Files.{image_of}
use Rattle.image_reader.specs.Lengths.{IsFirstOther}
use Rattle.image_reader.proofs.checks.check_lengths.Goals as goal

pub returns-in-Some-clause-fault : goal.returns-in-Some-clause-fault
returns-in-Some-clause-fault c =
    let log = ap length c.log.ensures in
    let blocks = c.blocks-2.ensures in
    let from = c.from.ensures in
    let double = ap length c.double.ensures in
    let first = c.if-log-from.false in
    let second = c.if-double.false in (
      omega (arith, log, blocks, from, first),
      omega (arith, double, second),
      subst (λ (hs : List HeldSpace). IsFirstOther (image_of c.args.files.now) hs c.in-Some.space) c.spaces.ensures c.in-Some.ensures.some,
    )

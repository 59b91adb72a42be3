use Rattle.std.proofs.Common.{◌<◌, length, refl, rules, arith}
use Rattle.hex.proofs.HexLemmas.{decode_of-ok}
use Rattle.script_core.specs.Words.{IsHex}
use Rattle.script_core.proofs.HexLemmas.{empty_no_hex}
use Rattle.script_core.proofs.fields.bytes_of.Goals as goal

pub returns-then-is_empty-clause-err : goal.returns-then-is_empty-clause-err
returns-then-is_empty-clause-err c = (refl, λ bytes is. empty_no_hex c.args.word.now bytes (search (rules, c.is_empty.ensures, c.if-is_empty.true)) is)

pub returns-in-Ok-clause-ok : goal.returns-in-Ok-clause-ok
returns-in-Ok-clause-ok c =
    let some : 0 < length c.args.word.now = search (rules, c.is_empty.ensures, c.if-is_empty.false) in
    let ok = decode_of-ok c.args.word.now c.in-Ok.bytes.items c.in-Ok.ensures.ok in
    let is : IsHex c.args.word.now c.in-Ok.bytes.items = record { digits = c.in-Ok.ensures.ok; some = omega (arith, some, ok.2) } in
    is

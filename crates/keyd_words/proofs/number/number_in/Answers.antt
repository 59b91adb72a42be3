use Rattle.std.proofs.Common.{rules, ◌≡◌, ◌<◌, length, get_or, arith, sym, subst}
use Rattle.std.specs.Fmt.{decimal}
use Rattle.std.proofs.lemmas.Fmt.{IsAscii-decimal}
use Rattle.std.proofs.lemmas.Str.{IsUtf8-from_ascii}
use Rattle.std.specs.Str.{IsUtf8}
use Rattle.std.specs.Str.Parse.{ParsesUnsigned}
use Rattle.keyd_words.proofs.NumberLemmas.{no_empty, no_sign, no_leading_zero, parsed}
use Rattle.keyd_words.proofs.number.number_in.Goals as goal
use Rattle.keyd_words.proofs.number.number_in.Goals.{else-text-eq48-via-then-text-eq48+else-text-gt1, else-text-eq48-via-else-text-eq48}

pub returns-then-is_empty : goal.returns-then-is_empty
returns-then-is_empty c n small is =
    let some = no_empty c.args.text.now n small is in search (rules, some)

pub returns-then-text-eq43 : goal.returns-then-text-eq43
returns-then-text-eq43 c n small is = no_sign c.args.text.now n small is c.if-text-eq43.true

pub returns-then-text-gt1 : goal.returns-then-text-gt1
returns-then-text-gt1 c n small is = no_leading_zero c.args.text.now n small is c.if-text-eq48.true c.if-text-gt1.true

pub returns-in_default : goal.returns-in_default
returns-in_default c n small is =
    let text = subst IsUtf8 (sym is) (IsUtf8-from_ascii (decimal n) (IsAscii-decimal n small)) in search (rules, text)

pub returns : goal.returns
returns c =
    let text = c.args.text.now in
    let same : c.in-Ok.text.now ≡ text = c.in-Ok.ensures.cases.0 in
    let gives = subst (λ t. ParsesUnsigned 64 10 t c.parse.result) same c.parse.ensures.value.0 in
    let some : 0 < length text = search (rules, c.is_empty.ensures, c.if-is_empty.false) in
    let lone : get_or text 0 0 ≡ 48 → length text ≡ 1 =
    elim c.else-text-eq48.branch [
      | else-text-eq48-via-then-text-eq48+else-text-gt1 w ↦ λ zeroed. omega (arith, some, w.if-text-gt1.false)
      | else-text-eq48-via-else-text-eq48 w ↦ λ zeroed. absurd (w.if-text-eq48.false zeroed)
    ] in
    rw c.ok.ensures.value (parsed text c.parse.result gives c.if-text-eq43.false lone)

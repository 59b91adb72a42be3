use Rattle.std.proofs.Common.{arith, rules, inl, inr, refl}
use Rattle.script_core.specs.Words.{IsNumeral}
use Rattle.script_core.proofs.NumberLemmas.{numeral_utf8, numeral_number, parse_numeral, past_u32, parsed_value}
use Rattle.script_core.proofs.number.number_of.Goals as goal

pub returns-in_default-clause-err : goal.returns-in_default-clause-err
returns-in_default-clause-err c = inl (refl, λ is. let text = numeral_utf8 c.args.word.now is in search (rules, text))

pub returns-then-not-is_numeral-clause-err : goal.returns-then-not-is_numeral-clause-err
returns-then-not-is_numeral-clause-err c = inl (refl, λ is. let yes = c.is_numeral.ensures.1 is in search (rules, yes))

pub returns-in_default-parse-clause-err : goal.returns-in_default-parse-clause-err
returns-in_default-parse-clause-err c =
    let word = c.args.word.now in
    let is : IsNumeral word = search (rules, c.is_numeral.ensures, c.if-not-is_numeral.false) in
    let gives = parse_numeral word c.in-Ok.text.now c.parse.result c.in-Ok.ensures.cases.0 is c.parse.ensures.value.0 in
    let past = past_u32 word c.parse.result c.in_default-parse.field-0 gives c.in_default-parse.is is in
    inr (refl, is, inr (omega (arith, past, c.ranges.high.fits)))

pub returns-then-number-low-clause-err : goal.returns-then-number-low-clause-err
returns-then-number-low-clause-err c =
    let word = c.args.word.now in
    let is : IsNumeral word = search (rules, c.is_numeral.ensures, c.if-not-is_numeral.false) in
    let gives = parse_numeral word c.in-Ok.text.now c.parse.result c.in-Ok.ensures.cases.0 is c.parse.ensures.value.0 in
    let value = parsed_value word c.parse.result c.in-Ok-parse.number gives c.in-Ok-parse.is in
    inr (refl, is, search (rules, value))

pub returns-clause-ok : goal.returns-clause-ok
returns-clause-ok c =
    let word = c.args.word.now in
    let is : IsNumeral word = search (rules, c.is_numeral.ensures, c.if-not-is_numeral.false) in
    let gives = parse_numeral word c.in-Ok.text.now c.parse.result c.in-Ok.ensures.cases.0 is c.parse.ensures.value.0 in
    let value = parsed_value word c.parse.result c.in-Ok-parse.number gives c.in-Ok-parse.is in
    numeral_number word c.args.low c.args.high c.in-Ok-parse.number (omega (arith, c.ranges.high.fits)) is value (omega arith) (omega arith)

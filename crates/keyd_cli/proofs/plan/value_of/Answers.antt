use Rattle.std.proofs.Common.{rules, ◌≡◌, ◌+◌, ◌<◌, [], length, map, get_or, string_bytes, arith, sym, ◌∙◌, ap, Some}
use Rattle.std.proofs.lemmas.List.{length-map}
use Rattle.keyd_cli.specs.Words.{flag_word}
use Rattle.keyd_cli.proofs.Values.{word_is, value_here, value_behind, value_none}
use Rattle.keyd_cli.proofs.plan.value_of.Goals as goal

pub returns-then-eq : goal.returns-then-eq
returns-then-eq c =
    let strings = c.args.options.now in
    let ws = map string_bytes strings in
    let at = c.loop-at.at in
    let inside : at < length strings = omega (arith, c.loop-at-test.true) in
    let low : at + 1 < length ws = omega (arith, length-map strings string_bytes, c.loop-at-test.true) in
    let word = word_is string_bytes strings at c.index-options-at.result c.as_str.result.now inside c.index-options-at.is c.as_str.ensures.value in
    let value = word_is string_bytes strings (at + 1) c.index-options-at-then-eq.result c.as_str-then-eq.result.now c.loop-at-test.true c.index-options-at-then-eq.is c.as_str-then-eq.ensures.value in
    let same : c.as_str.result.now ≡ c.name.result.now = search (rules, c.eq.ensures, c.if-eq.true) in
    let named : get_or ws at [] ≡ flag_word c.args.flag = word ∙ same ∙ c.name.ensures in
    sym c.loop-at.invariant.same ∙ value_here c.args.flag ws at low named ∙ ap Some value

pub loop-at-preserved : goal.loop-at-preserved
loop-at-preserved c =
    let strings = c.args.options.now in
    let ws = map string_bytes strings in
    let at = c.loop-at.at in
    let inside : at < length strings = omega (arith, c.loop-at-test.true) in
    let low : at + 1 < length ws = omega (arith, length-map strings string_bytes, c.loop-at-test.true) in
    let word = word_is string_bytes strings at c.index-options-at.result c.as_str.result.now inside c.index-options-at.is c.as_str.ensures.value in
    let other : get_or ws at [] ≡ flag_word c.args.flag → ⊥ =
    λ named. let same : c.as_str.result.now ≡ c.name.result.now = sym word ∙ named ∙ sym c.name.ensures in search (rules, c.eq.ensures, c.if-eq.false, same) in
    record { same = sym (value_behind c.args.flag ws at low other) ∙ c.loop-at.invariant.same; low = omega (arith, c.loop-at-test.true) }

pub returns : goal.returns
returns c =
    let strings = c.args.options.now in
    let ws = map string_bytes strings in
    sym c.loop-at.invariant.same ∙ value_none c.args.flag ws c.loop-at.at (λ low. omega (arith, length-map strings string_bytes, low, c.loop-at-test.false))

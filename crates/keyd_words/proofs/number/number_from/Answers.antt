use Rattle.std.proofs.Common.{◌≡◌, ◌<◌, ◌^◌, arith}
use Rattle.keyd_words.proofs.SpaceLemmas.{no_other_number}
use Rattle.keyd_words.proofs.number.number_from.Goals as goal

pub returns-then-number-low : goal.returns-then-number-low
returns-then-number-low c n is =
    let top : c.args.high < 2 ^ 32 = omega (arith, c.ranges.high.fits) in
    let same : c.in_ok-number.number ≡ n =
    no_other_number c.args.text.now c.args.low c.args.high c.in_ok-number.number n c.in_ok-number.ensures.1 top c.in_ok-number.ensures.0 is in
    omega (arith, same, c.if-number-low.true, is.from)

pub returns-then-high-number : goal.returns-then-high-number
returns-then-high-number c n is =
    let top : c.args.high < 2 ^ 32 = omega (arith, c.ranges.high.fits) in
    let same : c.in_ok-number.number ≡ n =
    no_other_number c.args.text.now c.args.low c.args.high c.in_ok-number.number n c.in_ok-number.ensures.1 top c.in_ok-number.ensures.0 is in
    omega (arith, same, c.if-high-number.true, is.to)

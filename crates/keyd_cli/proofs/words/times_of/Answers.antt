use Rattle.std.proofs.Common.{◌≡◌, ℕ, length, map, string_bytes, arith, ap, Bool, cond, refl}
use Rattle.std.proofs.lemmas.List.{length-map}
use Rattle.keyd_cli.specs.Words.{option_words}
use Rattle.keyd_cli.proofs.Options.{times_step}
use Rattle.keyd_cli.proofs.words.times_of.Goals as goal
use Rattle.keyd_cli.proofs.words.times_of.Goals.{then-stands_at, else-stands_at}

pub loop-i-init : goal.loop-i-init
unfolding option_words
loop-i-init c = record { count = refl; low = omega arith }

abbrev num : Bool → ℕ
num b = cond b 1 0

pub loop-i-preserved : goal.loop-i-preserved
loop-i-preserved c =
    let words = map string_bytes c.args.options.now in
    let size : length words ≡ length c.args.options.now = length-map c.args.options.now string_bytes in
    let step = times_step c.args.flag words c.loop-i.i (omega (arith, size, c.loop-i-test.true)) in
    elim c.if-stands_at.branch [
      | then-stands_at w ↦ let one : num c.stands_at.result ≡ 1 = ap num w.if-stands_at.true in
          let same = ap num c.stands_at.ensures in
          record { count = omega (arith, step, one, same, w.count-is, c.loop-i.invariant.count); low = omega (arith, w.count-is, c.loop-i.invariant.low) }
      | else-stands_at w ↦ let none : num c.stands_at.result ≡ 0 = ap num w.if-stands_at.false in
          let same = ap num c.stands_at.ensures in
          record { count = omega (arith, step, none, same, w.count-is, c.loop-i.invariant.count); low = omega (arith, w.count-is, c.loop-i.invariant.low) }
    ]

use Rattle.std.proofs.Common.{rules, ◌≡◌, ◌<◌, length, map, get_or, arith, sym, ◌∙◌, ap}
use Rattle.std.proofs.lemmas.List.{length-map, take_all}
use Rattle.std.proofs.lemmas.List.{get_or-map}
use Rattle.disk_model.specs.declared.calls.Choice.TheVariants.{Lost}
use Rattle.keyd_words.specs.Values.{choice_letter, IsValueOf}
use Rattle.keyd_words.proofs.value.choices_of.Goals as goal

pub returns-then-is_empty-clause-err : goal.returns-then-is_empty-clause-err
unfolding IsValueOf
returns-then-is_empty-clause-err c cs e is =
    let size : length c.args.word.now ≡ length cs = ap length e ∙ length-map cs choice_letter in
    let none : length c.args.word.now ≡ 0 = search (rules, c.is_empty.ensures, c.if-is_empty.true) in
    omega (arith, size, none, is.0)

pub returns-then-word-gt-MOST_CHOICES-clause-err : goal.returns-then-word-gt-MOST_CHOICES-clause-err
unfolding IsValueOf
returns-then-word-gt-MOST_CHOICES-clause-err c cs e is =
    let size : length c.args.word.now ≡ length cs = ap length e ∙ length-map cs choice_letter in
    omega (arith, size, c.if-word-gt-MOST_CHOICES.true, is.1)

pub returns-in_default-clause-err : goal.returns-in_default-clause-err
returns-in_default-clause-err c cs e is =
    let i = c.loop-letter.letter-index in
    let size : length c.args.word.now ≡ length cs = ap length e ∙ length-map cs choice_letter in
    let low : i < length cs = omega (arith, size, c.loop-letter-test.true) in
    c.in_default.ensures (get_or cs i Lost) (ap (λ w. get_or w i 0) e ∙ get_or-map choice_letter cs i Lost 0 low)

pub returns-clause-ok : goal.returns-clause-ok
unfolding IsValueOf
returns-clause-ok c =
    let read : map choice_letter c.loop-letter.choices.items ≡ c.args.word.now = c.loop-letter.invariant ∙ take_all c.loop-letter.letter-index c.args.word.now (omega (arith, c.loop-letter-test.false)) in
    let size : length c.args.word.now ≡ length c.loop-letter.choices.items = ap length (sym read) ∙ length-map c.loop-letter.choices.items choice_letter in
    let same : c.of.result ≡ c.loop-letter.choices.items = c.of.ensures in
    let some : 0 < length c.args.word.now = search (rules, c.is_empty.ensures, c.if-is_empty.false) in
    rw same (sym read, (omega (arith, size, some), omega (arith, size, c.if-word-gt-MOST_CHOICES.false)))

use Rattle.std.proofs.Common.{◌≡◌, ℕ, ◌<◌, length, arith}
use Rattle.doublewrite.specs.Batch.{text_at}
use Rattle.doublewrite.specs.Text.{page_number_of}
use Rattle.put_drill.proofs.tests.crash_at.Goals as goal

pub drill-requires-clause-distinct : goal.drill-requires-clause-distinct
drill-requires-clause-distinct c = λ i j lt below same.
    let order = c.are_in_order.ensures c.if-not-are_in_order.false in
    let a : page_number_of (text_at c.args.batch.now i) ≡ i = order i (omega (arith, lt, below)) in
    let b : page_number_of (text_at c.args.batch.now j) ≡ j = order j below in
    omega (arith, lt, a, b, same)

pub drill-requires-clause-numbers : goal.drill-requires-clause-numbers
drill-requires-clause-numbers c = λ i lt.
    let order = c.are_in_order.ensures c.if-not-are_in_order.false in
    let a : page_number_of (text_at c.args.batch.now i) ≡ i = order i lt in
    omega (arith, lt, a, c.requires.low, c.len.ensures)

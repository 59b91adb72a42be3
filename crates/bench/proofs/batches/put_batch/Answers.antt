use Rattle.std.proofs.Common.{arith}
use Rattle.bench.proofs.batches.put_batch.Goals as goal

pub store_and_home-requires-clause-distinct : goal.store_and_home-requires-clause-distinct
store_and_home-requires-clause-distinct g c = λ i j lt below same.
    let order = c.are_in_order.ensures c.if-not-are_in_order.false in
    let a = order i (omega (arith, lt, below)) in
    let b = order j below in
    omega (arith, lt, a, b, same)

pub store_and_home-requires-clause-within : goal.store_and_home-requires-clause-within
store_and_home-requires-clause-within g c = λ i lt.
    let order = c.are_in_order.ensures c.if-not-are_in_order.false in
    let a = order i lt in
    omega (arith, lt, a, c.len-len.ensures)

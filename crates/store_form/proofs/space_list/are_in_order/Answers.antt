use Rattle.std.proofs.Common.{◌≡◌, ℕ, ◌+◌, ◌<◌, List, ◌∷◌, length, slice_index_or, drop, map, sym, ap, ◌∙◌, arith}
use Rattle.store_files.specs.Header.{are_in_order}
use Rattle.store_form.specs.Said.{space_said}
use Rattle.store_form.specs.declared.header.HeaderSpace.{HeaderSpace}
use Rattle.store_form.proofs.SpaceLists.{rest_at, rest_none, order_more, order_ends}
use Rattle.store_form.proofs.space_list.are_in_order.Goals as goal
use Rattle.store_files.proofs.SpacesInOrder.{order_none}

abbrev zero_space : HeaderSpace
zero_space = record { space = 0; pages = 0; key_id = 0 }

-- the rest, as the definition has it
here : (id : ℕ) (xs : List HeaderSpace) (i : ℕ) → i < length xs → are_in_order id (space_said (slice_index_or xs i zero_space) ∷ map space_said (drop (i + 1) xs)) ≡ are_in_order id (map space_said (drop i xs))
here id xs i lt = ap (λ (l : List HeaderSpace). are_in_order id (map space_said l)) (sym (rest_at xs i zero_space lt))

pub returns-then-not-is_behind : goal.returns-then-not-is_behind
returns-then-not-is_behind c =
    let xs = c.args.spaces.now in
    let i = c.loop-i.i in
    sym (order_ends c.loop-i.id (space_said (slice_index_or xs i zero_space)) (map space_said (drop (i + 1) xs)) (sym c.is_behind.ensures ∙ c.if-not-is_behind.true))
    ∙ here c.loop-i.id xs i (omega (arith, c.loop-i-test.true)) ∙ c.loop-i.invariant

pub loop-i-preserved : goal.loop-i-preserved
loop-i-preserved c =
    let xs = c.args.spaces.now in
    let i = c.loop-i.i in
    sym (order_more c.loop-i.id (space_said (slice_index_or xs i zero_space)) (map space_said (drop (i + 1) xs)) (sym c.is_behind.ensures ∙ c.if-not-is_behind.false))
    ∙ here c.loop-i.id xs i (omega (arith, c.loop-i-test.true)) ∙ c.loop-i.invariant

pub returns : goal.returns
returns c =
    let xs = c.args.spaces.now in
    let all : c.loop-i.i ≡ length xs = omega (arith, c.loop-i.auto.i-end, c.loop-i-test.false) in
    sym (order_none c.loop-i.id) ∙ ap (λ (l : List HeaderSpace). are_in_order c.loop-i.id (map space_said l)) (sym (rest_none xs c.loop-i.i all)) ∙ c.loop-i.invariant

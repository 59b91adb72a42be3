use Rattle.std.proofs.Common.{◌≡◌, ◌+◌, ◌<◌, ◌^◌, List, length, slice_index_or, drop, map, ap, ◌∙◌, arith, rules}
use Rattle.store_files.specs.Header.{pages_together}
use Rattle.store_form.specs.Said.{space_said}
use Rattle.store_form.specs.declared.header.HeaderSpace.{HeaderSpace}
use Rattle.store_form.proofs.SpaceLists.{rest_at, rest_none}
use Rattle.store_form.proofs.space_list.pages_together.Goals as goal
use Rattle.store_files.proofs.SpacesInOrder.{pages_none, pages_more}

abbrev zero_space : HeaderSpace
zero_space = record { space = 0; pages = 0; key_id = 0 }

pub loop-i-preserved : goal.loop-i-preserved
loop-i-preserved c =
    let xs = c.args.spaces.now in
    let i = c.loop-i.i in
    let y = slice_index_or xs i zero_space in
    let rest : pages_together (map space_said (drop i xs)) ≡ y.pages + pages_together (map space_said (drop (i + 1) xs)) =
    ap (λ (l : List HeaderSpace). pages_together (map space_said l)) (rest_at xs i zero_space (omega (arith, c.loop-i-test.true))) ∙ pages_more (space_said y) (map space_said (drop (i + 1) xs)) in
    let small : y.pages < 2 ^ 32 = search rules in
    (omega (arith, rest, c.loop-i.invariant.0, c.from-pages.ensures), omega (arith, small, c.loop-i.invariant.1, c.from-pages.ensures))

pub returns : goal.returns
returns c =
    let xs = c.args.spaces.now in
    let all : c.loop-i.i ≡ length xs = omega (arith, c.loop-i.auto.i-end, c.loop-i-test.false) in
    let rest : pages_together (map space_said (drop c.loop-i.i xs)) ≡ 0 = ap (λ (l : List HeaderSpace). pages_together (map space_said l)) (rest_none xs c.loop-i.i all) ∙ pages_none in
    omega (arith, rest, c.loop-i.invariant.0)

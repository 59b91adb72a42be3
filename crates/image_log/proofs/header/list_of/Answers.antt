use Rattle.std.proofs.Common.{◌∙◌, ◌+◌, ◌++◌, [], ◌∷◌, List, ap, sym, drop, map, slice_index_or, append_assoc, arith}
use Rattle.std.proofs.lemmas.List.{append-nil, drop_all}
use Rattle.store_files.specs.Header.{HeldSpace}
use Rattle.store_form.specs.Said.{space_said}
use Rattle.store_form.specs.declared.header.HeaderSpace.{HeaderSpace}
use Rattle.store_form.proofs.SpaceLists.{rest_at}
use Rattle.image_log.proofs.header.list_of.Goals as goal

abbrev none : HeaderSpace
none = record { space = 0; pages = 0; key_id = 0 }

pub loop-space-preserved : goal.loop-space-preserved
loop-space-preserved c =
    let i = c.loop-space.space-index in
    let x = slice_index_or c.args.spaces.now i none in
    let rest = map space_said (drop (i + 1) c.args.spaces.now) in
    let left = rest_at c.args.spaces.now i none (omega (arith, c.loop-space-test.true)) in
    (λ k. c.in_ok-push.ensures.items k ++ rest)
    ∙ ap (λ (y : HeldSpace). (c.loop-space.list.items ++ y ∷ []) ++ rest) c.space_of.ensures
    ∙ append_assoc c.loop-space.list.items (space_said x ∷ []) rest
    ∙ ap (λ (l : List HeaderSpace). c.loop-space.list.items ++ map space_said l) (sym left)
    ∙ c.loop-space.invariant

pub returns : goal.returns
returns c =
    let all = drop_all c.loop-space.space-index c.args.spaces.now (omega arith) in
    sym (append-nil c.loop-space.list.items) ∙ ap (λ (l : List HeaderSpace). c.loop-space.list.items ++ map space_said l) (sym all) ∙ c.loop-space.invariant

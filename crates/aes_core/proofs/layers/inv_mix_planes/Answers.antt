use Rattle.std.proofs.Common.{◌≡◌, map, ap, ◌∙◌}
use Rattle.aes_core.specs.Cipher.{mix_columns, xored}
use Rattle.aes_core.specs.Field.{times}
use Rattle.aes_core.specs.Planes.{block_in}
use Rattle.aes_core.proofs.PlaneLists.{block_is}
use Rattle.aes_core.proofs.PlaneSteps.{inv_mixed, rows_up}
use Rattle.aes_core.proofs.layers.inv_mix_planes.Goals as goal

pub returns-clause-blocks : goal.returns-clause-blocks
returns-clause-blocks c b lt =
    let s = block_in c.args.planes b in
    let sums : block_in c.add_planes-sums.result b ≡ xored s (rows_up 2 s) = c.add_planes-sums.ensures.blocks b lt ∙ ap (xored s) (c.planes_up_two.ensures.blocks b lt) in
    let twice : block_in c.double_planes.result b ≡ map (times 2) (xored s (rows_up 2 s)) = c.double_planes.ensures.blocks b lt ∙ ap (map (times 2)) sums in
    let fourfold : block_in c.double_planes-2.result b ≡ map (times 2) (map (times 2) (xored s (rows_up 2 s))) = c.double_planes-2.ensures.blocks b lt ∙ ap (map (times 2)) twice in
    c.mix_planes.ensures.blocks b lt ∙ ap mix_columns (c.add_planes.ensures.blocks b lt ∙ ap (xored s) fourfold) ∙ inv_mixed s (block_is c.args.planes c.requires.count b)

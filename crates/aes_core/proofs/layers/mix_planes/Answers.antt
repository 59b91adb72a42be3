use Rattle.std.proofs.Common.{◌≡◌, map, ap, ap₂, ◌∙◌}
use Rattle.aes_core.specs.Cipher.{xored}
use Rattle.aes_core.specs.Field.{times}
use Rattle.aes_core.specs.Planes.{block_in}
use Rattle.aes_core.proofs.PlaneLists.{block_is}
use Rattle.aes_core.proofs.PlaneSteps.{mixed, rows_up}
use Rattle.aes_core.proofs.layers.mix_planes.Goals as goal

pub returns-clause-blocks : goal.returns-clause-blocks
returns-clause-blocks c b lt =
    let s = block_in c.args.planes b in
    let next : block_in c.planes_up_one-next.result b ≡ rows_up 1 s = c.planes_up_one-next.ensures.blocks b lt in
    let sums : block_in c.add_planes-sums.result b ≡ xored s (rows_up 1 s) = c.add_planes-sums.ensures.blocks b lt ∙ ap (xored s) next in
    let twice : block_in c.double_planes.result b ≡ map (times 2) (xored s (rows_up 1 s)) = c.double_planes.ensures.blocks b lt ∙ ap (map (times 2)) sums in
    let after : block_in c.planes_up_two.result b ≡ rows_up 2 (xored s (rows_up 1 s)) = c.planes_up_two.ensures.blocks b lt ∙ ap (rows_up 2) sums in
    c.add_planes-2.ensures.blocks b lt ∙ ap₂ xored (c.add_planes.ensures.blocks b lt ∙ ap₂ xored twice next) after ∙ mixed s (block_is c.args.planes c.requires.count b)

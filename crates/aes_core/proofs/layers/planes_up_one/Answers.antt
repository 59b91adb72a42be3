use Rattle.std.proofs.Common.{◌≡◌, List, ℕ, [], ◌∷◌, subst, sym, ap, ◌∙◌}
use Rattle.aes_core.specs.Planes.{ArePlanes, block_in}
use Rattle.aes_core.proofs.PlaneLists.{eight, plane_at}
use Rattle.aes_core.proofs.PlaneSteps.{rows_up, up_one_blocks, up_planes}
use Rattle.aes_core.proofs.layers.planes_up_one.Goals as goal

pub returns : goal.returns
returns c =
    let p = c.args.planes in
    let is : c.up_one.result ∷ c.up_one-2.result ∷ c.up_one-3.result ∷ c.up_one-4.result ∷ c.up_one-5.result ∷ c.up_one-6.result ∷ c.up_one-7.result ∷ c.up_one-8.result ∷ []
    ≡ eight (λ i. rows_up 1 (plane_at p i)) =
    (λ t. c.up_one.ensures t ∷ c.up_one-2.ensures t ∷ c.up_one-3.ensures t ∷ c.up_one-4.ensures t ∷ c.up_one-5.ensures t ∷ c.up_one-6.ensures t ∷ c.up_one-7.ensures t ∷ c.up_one-8.ensures t ∷ []) in
    record {
      planes = subst ArePlanes (sym is) (up_planes 1 p c.requires);
      blocks = λ b lt. ap (λ (ps : List (List ℕ)). block_in ps b) is ∙ up_one_blocks p c.requires b;
    }

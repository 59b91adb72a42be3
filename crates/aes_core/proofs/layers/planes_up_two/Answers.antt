use Rattle.std.proofs.Common.{◌≡◌, List, ℕ, [], ◌∷◌, subst, sym, ap, ◌∙◌}
use Rattle.aes_core.specs.Planes.{ArePlanes, block_in}
use Rattle.aes_core.proofs.PlaneLists.{eight, plane_at}
use Rattle.aes_core.proofs.PlaneSteps.{rows_up, up_planes, up_two_blocks}
use Rattle.aes_core.proofs.layers.planes_up_two.Goals as goal

pub returns : goal.returns
returns c =
    let p = c.args.planes in
    let is : c.up_two.result ∷ c.up_two-2.result ∷ c.up_two-3.result ∷ c.up_two-4.result ∷ c.up_two-5.result ∷ c.up_two-6.result ∷ c.up_two-7.result ∷ c.up_two-8.result ∷ []
    ≡ eight (λ i. rows_up 2 (plane_at p i)) =
    (λ t. c.up_two.ensures t ∷ c.up_two-2.ensures t ∷ c.up_two-3.ensures t ∷ c.up_two-4.ensures t ∷ c.up_two-5.ensures t ∷ c.up_two-6.ensures t ∷ c.up_two-7.ensures t ∷ c.up_two-8.ensures t ∷ []) in
    record {
      planes = subst ArePlanes (sym is) (up_planes 2 p c.requires);
      blocks = λ b lt. ap (λ (ps : List (List ℕ)). block_in ps b) is ∙ up_two_blocks p c.requires b;
    }

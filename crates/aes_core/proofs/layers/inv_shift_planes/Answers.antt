use Rattle.std.proofs.Common.{◌≡◌, List, ℕ, [], ◌∷◌, subst, sym, ap, ◌∙◌}
use Rattle.aes_core.specs.Cipher.{inv_shift_rows}
use Rattle.aes_core.specs.Planes.{ArePlanes, block_in}
use Rattle.aes_core.proofs.PlaneLists.{eight, plane_at}
use Rattle.aes_core.proofs.PlaneSteps.{inv_shifted_blocks, inv_shifted_planes}
use Rattle.aes_core.proofs.layers.inv_shift_planes.Goals as goal

pub returns : goal.returns
returns c =
    let p = c.args.planes in
    let is : c.inv_shifted.result ∷ c.inv_shifted-2.result ∷ c.inv_shifted-3.result ∷ c.inv_shifted-4.result ∷ c.inv_shifted-5.result ∷ c.inv_shifted-6.result ∷ c.inv_shifted-7.result ∷ c.inv_shifted-8.result ∷ []
    ≡ eight (λ i. inv_shift_rows (plane_at p i)) =
    (λ t. c.inv_shifted.ensures t ∷ c.inv_shifted-2.ensures t ∷ c.inv_shifted-3.ensures t ∷ c.inv_shifted-4.ensures t ∷ c.inv_shifted-5.ensures t ∷ c.inv_shifted-6.ensures t ∷ c.inv_shifted-7.ensures t ∷ c.inv_shifted-8.ensures t ∷ []) in
    record {
      planes = subst ArePlanes (sym is) (inv_shifted_planes p c.requires);
      blocks = λ b lt. ap (λ (ps : List (List ℕ)). block_in ps b) is ∙ inv_shifted_blocks p c.requires b;
    }

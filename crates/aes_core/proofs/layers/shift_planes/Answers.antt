use Rattle.std.proofs.Common.{◌≡◌, List, ℕ, [], ◌∷◌, subst, sym, ap, ◌∙◌}
use Rattle.aes_core.specs.Cipher.{shift_rows}
use Rattle.aes_core.specs.Planes.{ArePlanes, block_in}
use Rattle.aes_core.proofs.PlaneLists.{eight, plane_at}
use Rattle.aes_core.proofs.PlaneSteps.{shifted_blocks, shifted_planes}
use Rattle.aes_core.proofs.layers.shift_planes.Goals as goal

pub returns : goal.returns
returns c =
    let p = c.args.planes in
    let is : c.shifted.result ∷ c.shifted-2.result ∷ c.shifted-3.result ∷ c.shifted-4.result ∷ c.shifted-5.result ∷ c.shifted-6.result ∷ c.shifted-7.result ∷ c.shifted-8.result ∷ []
    ≡ eight (λ i. shift_rows (plane_at p i)) =
    (λ t. c.shifted.ensures t ∷ c.shifted-2.ensures t ∷ c.shifted-3.ensures t ∷ c.shifted-4.ensures t ∷ c.shifted-5.ensures t ∷ c.shifted-6.ensures t ∷ c.shifted-7.ensures t ∷ c.shifted-8.ensures t ∷ []) in
    record {
      planes = subst ArePlanes (sym is) (shifted_planes p c.requires);
      blocks = λ b lt. ap (λ (ps : List (List ℕ)). block_in ps b) is ∙ shifted_blocks p c.requires b;
    }

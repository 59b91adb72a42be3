use Rattle.std.proofs.Common.{ℕ, List, [], ◌++◌, ap}
use Rattle.std.proofs.lemmas.Simd.{pick_l_whole}
use Rattle.aes_core.specs.Circuit.{planes_of, PRODUCTS}
use Rattle.aes_core.proofs.circuit.products.Goals as goal

-- y of known length is the list of its elements, and then each place in y ++ t computes
pub returns : goal.returns
unfolding PRODUCTS
returns c = ap (λ (l : List (List ℕ)). planes_of PRODUCTS (l ++ c.args.t)) (pick_l_whole [] c.args.y 22 c.requires)

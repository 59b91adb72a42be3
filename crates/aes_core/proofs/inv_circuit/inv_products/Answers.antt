use Rattle.std.proofs.Common.{ℕ, List, [], ◌++◌, ap}
use Rattle.std.proofs.lemmas.Simd.{pick_l_whole}
use Rattle.aes_core.specs.Circuit.{planes_of, INV_PRODUCTS}
use Rattle.aes_core.proofs.inv_circuit.inv_products.Goals as goal

-- t of known length is the list of its elements, and then each place in t ++ inverse computes
pub returns : goal.returns
unfolding INV_PRODUCTS
returns c = ap (λ (l : List (List ℕ)). planes_of INV_PRODUCTS (l ++ c.args.inverse)) (pick_l_whole [] c.args.t 28 c.requires)

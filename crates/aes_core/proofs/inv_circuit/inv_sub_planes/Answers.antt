use Rattle.std.proofs.Common.{◌≡◌, ◌∙◌, ℕ, List, ap, sym, subst}
use Rattle.aes_core.specs.Planes.{ArePlanes, block_in}
use Rattle.aes_core.proofs.Wires.{circuit_planes, inv_sub_circuit, inv_sub_planes-are, inv_sub_planes-block}
use Rattle.aes_core.proofs.inv_circuit.inv_sub_planes.Goals as goal

pub returns : goal.returns
returns c =
    let is : c.inv_sums_out.result ≡ circuit_planes inv_sub_circuit c.args.planes = cc in
    record {
      planes = subst ArePlanes (sym is) (inv_sub_planes-are c.args.planes c.requires);
      blocks = λ b h. ap (λ (planes : List (List ℕ)). block_in planes b) is ∙ inv_sub_planes-block c.args.planes b c.requires h;
    }

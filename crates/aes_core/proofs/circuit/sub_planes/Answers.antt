use Rattle.std.proofs.Common.{◌≡◌, ◌∙◌, ℕ, List, ap, sym, subst}
use Rattle.aes_core.specs.Planes.{ArePlanes, block_in}
use Rattle.aes_core.proofs.Wires.{circuit_planes, sub_circuit, sub_planes-are, sub_planes-block}
use Rattle.aes_core.proofs.circuit.sub_planes.Goals as goal

pub returns : goal.returns
returns c =
    let is : c.sums_out.result ≡ circuit_planes sub_circuit c.args.planes = cc in
    record {
      planes = subst ArePlanes (sym is) (sub_planes-are c.args.planes c.requires);
      blocks = λ b h. ap (λ (planes : List (List ℕ)). block_in planes b) is ∙ sub_planes-block c.args.planes b c.requires h;
    }

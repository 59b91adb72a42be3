use Rattle.std.proofs.Common.{[], ◌∷◌, rules, sym}
use Rattle.aes_core.specs.Planes.{ArePlanes}
use Rattle.aes_core.proofs.Transposition.{flipped, transposed, transposed_whole, unpacked}
use Rattle.aes_core.proofs.transpose.transpose.Goals as goal

pub returns : goal.returns
returns c =
    let planes : ArePlanes (c.exchange_fours.result.0 ∷ c.exchange_fours-2.result.0 ∷ c.exchange_fours-3.result.0 ∷ c.exchange_fours-4.result.0
    ∷ c.exchange_fours.result.1 ∷ c.exchange_fours-2.result.1 ∷ c.exchange_fours-3.result.1 ∷ c.exchange_fours-4.result.1 ∷ []) = search rules in
    let bits = transposed_whole c.requires (transposed c.exchange_ones.ensures c.exchange_ones-2.ensures c.exchange_ones-3.ensures c.exchange_ones-4.ensures
    c.exchange_twos.ensures c.exchange_twos-2.ensures c.exchange_twos-3.ensures c.exchange_twos-4.ensures
    c.exchange_fours.ensures c.exchange_fours-2.ensures c.exchange_fours-3.ensures c.exchange_fours-4.ensures) in
    record {
      planes = planes;
      unpacks = unpacked planes bits;
      packs = λ b h. sym (unpacked c.requires (flipped c.requires planes bits) b h);
    }

use Rattle.std.proofs.Common.{◌≡◌, ℕ, ◌+◌, ◌*◌, ◌/◌, bit_and, ap, ◌∙◌, arith}
use Rattle.std.proofs.lemmas.Nat.{and_mask}
use Rattle.aes_core.proofs.BigEndian.{digits_back, digits_back_are}
use Rattle.aes_core.proofs.modes.big_endian_lanes.Goals as goal

pub returns : goal.returns
returns c =
    let n : ℕ = c.args.n in
    let halves : bit_and n 18446744073709551615 + 18446744073709551616 * (n / 18446744073709551616 + 0) ≡ n = omega (arith, and_mask n 64) in
    ap digits_back halves ∙ digits_back_are n

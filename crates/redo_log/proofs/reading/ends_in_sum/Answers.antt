use Rattle.std.proofs.Common.{ℕ, nat_eq, ap, ap₂, ◌∙◌, arith}
use Rattle.bytes_core.specs.Crc.{crc32c}
use Rattle.redo_log.proofs.SumLaws.{sum_test}
use Rattle.redo_log.proofs.reading.ends_in_sum.Goals as goal

pub returns : goal.returns
returns c =
    ap₂ (λ (x y : ℕ). nat_eq x y) c.be32_at.ensures (c.crc32c.ensures ∙ ap crc32c c.front.ensures)
    ∙ sum_test c.args.block.now c.requires (λ i. omega (arith, c.type_inv.block i))

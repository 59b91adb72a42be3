use Rattle.std.proofs.Common.{sym, rules}
use Rattle.bytes_core.specs.LastByte.{EndsInCrc32c}
use Rattle.page_places.proofs.Sums.{ends_in_sum-ends, ends-ends_in_sum, not_true}
use Rattle.store_form.proofs.header.ends_in_sum.Goals as goal

pub returns-then-not-ends_in_crc32c : goal.returns-then-not-ends_in_crc32c
returns-then-not-ends_in_crc32c c =
    let none : EndsInCrc32c c.args.block.now → ⊥ = search rules in
    sym (not_true _ (λ is. none (ends_in_sum-ends c.args.block.now is)))

pub returns : goal.returns
returns c =
    let ends : EndsInCrc32c c.args.block.now = search rules in
    sym (ends-ends_in_sum c.args.block.now ends)

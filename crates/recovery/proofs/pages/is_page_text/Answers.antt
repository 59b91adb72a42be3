use Rattle.std.proofs.Common.{◌∙◌, ap, sym, nat_eq, rules}
use Rattle.bytes_core.specs.LastByte.{EndsInCrc32c}
use Rattle.page_places.proofs.Sums.{ends_in_sum-ends, ends-ends_in_sum, not_true}
use Rattle.page_places.proofs.Texts.{text_read, no_text}
use Rattle.recovery.proofs.pages.is_page_text.Goals as goal

pub returns-then-ends_in_crc32c : goal.returns-then-ends_in_crc32c
returns-then-ends_in_crc32c c =
    let ends : EndsInCrc32c c.args.text.now = search rules in
    ap (λ n. nat_eq n c.args.page) c.be32_at.ensures ∙ text_read c.args.page c.args.text.now (ends-ends_in_sum c.args.text.now ends)

pub returns-else-ends_in_crc32c : goal.returns-else-ends_in_crc32c
returns-else-ends_in_crc32c c =
    let none : EndsInCrc32c c.args.text.now → ⊥ = search rules in
    c.if-ends_in_crc32c.false ∙ sym (no_text c.args.page c.args.text.now (not_true _ (λ is. none (ends_in_sum-ends c.args.text.now is))))

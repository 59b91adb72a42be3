use Rattle.std.proofs.Common.{◌≡◌, ◌∙◌, sym, true, rules}
use Rattle.bytes_core.specs.LastByte.{EndsInCrc32c}
use Rattle.page_places.specs.Placed.{Unmatched}
use Rattle.page_places.specs.Texts.{are_zero, ends_in_sum}
use Rattle.page_places.proofs.Sums.{ends_in_sum-ends, ends-ends_in_sum, not_true}
use Rattle.image_pages.proofs.Placing.{own_placed, zero_placed, not_placed}
use Rattle.image_pages.proofs.choosing.is_placed.Goals as goal
use Rattle.page_places.proofs.Texts.{zero_bytes, bytes_zero}

pub returns-then-is_page_text-clause-yes : goal.returns-then-is_page_text-clause-yes
returns-then-is_page_text-clause-yes c = λ _. own_placed c.args.page c.args.home.now (sym c.is_page_text.ensures ∙ c.if-is_page_text.true)

pub returns-then-are_zero-clause-yes : goal.returns-then-are_zero-clause-yes
returns-then-are_zero-clause-yes c = λ _. zero_placed c.args.page c.args.home.now (sym c.is_page_text.ensures ∙ c.if-is_page_text.false) (zero_bytes c.args.home.now (c.are_zero.ensures.yes c.if-are_zero.true))

pub returns-then-ends_in_crc32c-clause-no : goal.returns-then-ends_in_crc32c-clause-no
returns-then-ends_in_crc32c-clause-no c =
    let other : c.are_zero.result ≡ true → ⊥ = search rules in
    let ends : EndsInCrc32c c.args.home.now = search rules in
    λ _. not_placed c.args.page c.args.home.now (sym c.is_page_text.ensures ∙ c.if-is_page_text.false) (not_true (are_zero c.args.home.now) (λ is. other (c.are_zero.ensures.no (bytes_zero c.args.home.now is)))) (ends-ends_in_sum c.args.home.now ends)

pub returns-clause-yes : goal.returns-clause-yes
returns-clause-yes c =
    let none : EndsInCrc32c c.args.home.now → ⊥ = search rules in
    λ _. Unmatched (not_true (ends_in_sum c.args.home.now) (λ is. none (ends_in_sum-ends c.args.home.now is)))

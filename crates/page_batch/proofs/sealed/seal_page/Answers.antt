use Rattle.std.proofs.Common.{◌≡◌, ◌∙◌, length, subst, sym, ap}
use Rattle.doublewrite.specs.Text.{IsPageText}
use Rattle.page_places.specs.Texts.{page_bytes}
use Rattle.page_batch.proofs.TextLaws.{text_is_whole, written_whole}
use Rattle.page_batch.proofs.sealed.seal_page.Goals as goal

pub unreachable-requires : goal.unreachable-requires
unreachable-requires c =
    let copied : length c.copied.inside.copy.items ≡ page_bytes = ap length c.copied.invariant.copied ∙ c.copied.invariant.long in
    let long : c.copied.inside.copy.len ≡ page_bytes = sym c.as_mut_slice.ensures.len ∙ ap length c.as_mut_slice.ensures.value ∙ copied in
    let whole = text_is_whole _ _ _ _ _ _ _ c.known_number.ensures c.seal_text.ensures.long c.seal_text.ensures.text in
    let same = written_whole c.copied.inside.copy.len c.seal_text.new.bytes c.copied.inside.copy.items (c.seal_text.ensures.long ∙ sym long) (copied ∙ sym long) in
    c.in_default.ensures.none (subst IsPageText (sym same) whole)

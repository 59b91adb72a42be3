use Rattle.std.proofs.Common.{rules, ◌≡◌, ◌∙◌, length, subst, sym, ap}
use Rattle.doublewrite.specs.Text.{IsPageText}
use Rattle.page_places.specs.Texts.{page_bytes}
use Rattle.recovery.proofs.SealSteps.{text_is_whole, written_whole}
use Rattle.recovery.proofs.sealing.seal_bytes.Goals as goal

pub unreachable-requires : goal.unreachable-requires
unreachable-requires c =
    let copied : length c.in_ok-bytes.bytes.items ≡ page_bytes = search rules in
    let long : c.in_ok-bytes.bytes.len ≡ page_bytes = sym c.as_mut_slice.ensures.len ∙ ap length c.as_mut_slice.ensures.value ∙ copied in
    let whole = text_is_whole _ _ _ _ _ _ _ c.known_number.ensures c.write_text.ensures.long c.write_text.ensures.text in
    let same = written_whole c.in_ok-bytes.bytes.len c.write_text.new.bytes c.in_ok-bytes.bytes.items (c.write_text.ensures.long ∙ sym long) (copied ∙ sym long) in
    c.in_default.ensures.none (subst IsPageText (sym same) whole)

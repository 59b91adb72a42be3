use Rattle.std.proofs.Common.{◌∙◌, ap, take, drop, ℕ, List}
use Rattle.page_places.specs.Texts.{slot_page}
use Rattle.page_places.proofs.Texts.{text_part}
use Rattle.image_pages.proofs.copies.slot_text.Goals as goal

pub returns-clause-bytes : goal.returns-clause-bytes
returns-clause-bytes c =
    let rest = c.split_at.ensures.back in
    text_part c.place.result.now _ _ _ c.split_at.ensures.front (c.split_at-2.ensures.front ∙ ap (λ (l : List ℕ). take 4 l) rest) (c.split_at-2.ensures.back ∙ ap (λ (l : List ℕ). drop 4 l) rest)
    ∙ ap slot_page c.place.ensures.bytes

use Rattle.std.proofs.Common.{◌≡◌, ◌∙◌, ap, sym, subst, Some}
use Rattle.page_places.specs.Texts.{text_in}
use Rattle.places.specs.Places.{place}
use Rattle.store_image.specs.View.{Text, IsChosen}
use Rattle.image_pages.specs.Choosing.{page_view, no_log}
use Rattle.image_pages.proofs.CopyParts.{copy_text}
use Rattle.image_pages.proofs.pages.chosen_bytes.Goals as goal

pub slot_text-requires-clause-index : goal.slot_text-requires-clause-index
slot_text-requires-clause-index c = c.in-Copy.ensures.2

pub returns-in-Copy : goal.returns-in-Copy
returns-in-Copy c =
    let x = place 16896 c.in-Copy.index c.args.double.now in
    let t = c.in-Copy.ensures.0 in
    let e : t ≡ text_in c.slot_text.result.now = copy_text x c.args.space c.args.number t c.in-Copy.ensures.1 ∙ ap text_in (sym c.slot_text.ensures.bytes) in
    (c.slot_text.ensures.long, subst (λ (u : Text). IsChosen (page_view no_log c.args.home.now c.args.double.now) c.args.space c.args.number (Some u)) e c.in-Copy.ensures.3)

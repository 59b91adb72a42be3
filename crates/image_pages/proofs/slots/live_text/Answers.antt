use Rattle.std.proofs.Common.{◌∙◌, ap, sym, subst, ℕ, List}
use Rattle.page_places.specs.Texts.{slot_held, text_in}
use Rattle.store_image.specs.View.{IsLive}
use Rattle.image_pages.specs.Choosing.{page_view, no_log}
use Rattle.image_pages.proofs.CopyAges.{live_copy}
use Rattle.image_pages.proofs.slots.live_text.Goals as goal

pub returns : goal.returns
returns c =
    let copy = c.in_ok-lsn.ensures in
    let is = ap slot_held (sym c.place.ensures.bytes) ∙ copy.1 in
    let newest = c.is_newest.ensures.yes c.if-not-is_newest.false in (
      c.slot_text.ensures.long,
      subst (λ (l : List ℕ). IsLive (page_view no_log c.args.home.now c.args.double.now) c.args.space c.args.number c.args.index (text_in l)) (sym c.slot_text.ensures.bytes)
          (live_copy c.args.home.now c.args.double.now c.args.space c.args.number c.in_ok-lsn.lsn c.args.index copy.0 c.requires.index is copy.2 newest),
    )

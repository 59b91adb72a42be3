use Rattle.std.proofs.Common.{◌≡◌, ◌∙◌, ℕ, ap}
use Rattle.image_reader.specs.Files.{space_bytes}
use Rattle.image_reader.proofs.NameLaws.{on_ok, space_adds}
use Rattle.image_reader.proofs.naming.add_space.Goals as goal

pub returns : goal.returns
returns c =
    let bytes = c.space.ensures ∙ ap (λ (n : ℕ). space_bytes c.args.files.now.spaces n) c.space-number.ensures in
    on_ok c.add_pages.result _ _
    (λ pages. space_adds c.args.files.now c.args.active c.args.space.now c.key_id-id.result c.space-number.result c.pages-pages.result c.space.result.now c.double.result.now _ _ _ c.key_id-id.ensures c.space-number.ensures c.pages-pages.ensures bytes c.double.ensures c.in_ok-add.ensures pages) c.add_pages.ensures

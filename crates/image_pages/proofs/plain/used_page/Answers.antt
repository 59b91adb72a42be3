use Rattle.std.proofs.Common.{◌∙◌, ap, ℕ}
use Rattle.std.specs.Prelude.{option_map}
use Rattle.key_ring.specs.Local.{local_key}
use Rattle.image_pages.proofs.Meanings.{used_result}
use Rattle.image_pages.proofs.plain.used_page.Goals as goal

pub returns : goal.returns
returns c =
    used_result c.args.keys.now.header.now c.args.keys.now.ring.now c.args.space c.args.number c.args.keys.now.salt.now c.args.text.now c.args.keys.now.key_id c.page_key-key.result c.plain_page.result
    (c.page_key-key.ensures.value ∙ ap (λ (n : ℕ). option_map (λ local. record { local = local; algorithm = c.args.keys.now.header.now.algorithm }) (local_key c.args.keys.now.ring.now c.args.keys.now.key_id n c.args.keys.now.salt.now)) c.be32_at.ensures)
    c.requires.key_id c.requires.number c.page_key-key.ensures.known c.plain_page.ensures

use Rattle.std.proofs.Common.{◌≡◌, ◌∙◌, ℕ, Option, ap, subst, option_map}
use Rattle.byte_list.specs.Fields.{be32_at}
use Rattle.key_ring.specs.Local.{local_key}
use Rattle.page_text.specs.declared.key.PageKey.{PageKey}
use Rattle.store_form.specs.PageRead.{IsHomeOpened, TakesTexts}
use Rattle.store_form.proofs.reading.open_home.Goals as goal

pub returns-clause-opened : goal.returns-clause-opened
returns-clause-opened c =
    let key : c.page_key-key.result ≡ option_map (λ local. record { local = local; algorithm = c.args.algorithm }) (local_key c.args.ring.now c.args.info.now.key_id (be32_at c.args.into.now 0) c.args.info.now.salt) =
    c.page_key-key.ensures ∙ ap (λ (n : ℕ). option_map (λ local. record { local = local; algorithm = c.args.algorithm }) (local_key c.args.ring.now c.args.info.now.key_id n c.args.info.now.salt)) c.be32_at-version.ensures in
    subst (λ (k : Option PageKey). IsHomeOpened c.args.info.now.space c.args.page c.args.info.now.key_id k c.args.into.now c.open_home_with.new.into c.open_home_with.result) key c.open_home_with.ensures.opened

pub returns-clause-taken : goal.returns-clause-taken
returns-clause-taken c =
    let key : c.page_key-key.result ≡ option_map (λ local. record { local = local; algorithm = c.args.algorithm }) (local_key c.args.ring.now c.args.info.now.key_id (be32_at c.args.into.now 0) c.args.info.now.salt) =
    c.page_key-key.ensures ∙ ap (λ (n : ℕ). option_map (λ local. record { local = local; algorithm = c.args.algorithm }) (local_key c.args.ring.now c.args.info.now.key_id n c.args.info.now.salt)) c.be32_at-version.ensures in
    subst (λ (k : Option PageKey). TakesTexts c.args.info.now.space c.args.page k c.args.into.now c.open_home_with.new.into c.open_home_with.result) key c.open_home_with.ensures.taken

use Rattle.std.proofs.Common.{◌∙◌, ap, subst, ℕ, List, None}
use Rattle.byte_list.specs.Fields.{be16_at}
use Rattle.page_text.specs.Text.{IsText, Plain, plain_of}
use Rattle.store_form.proofs.FirstPages.{created_kind, created_plain, head_read}
use Rattle.store_form.proofs.first_page.fill_first_page.Goals as goal

pub seal_first-requires-clause-kind : goal.seal_first-requires-clause-kind
seal_first-requires-clause-kind c = ap (λ (l : List ℕ). be16_at l 24) c.write_fields.ensures ∙ created_kind c.args.info.now c.known_info.ensures

pub returns-clause-text : goal.returns-clause-text
returns-clause-text c =
    subst (λ (plain : Plain). IsText 16384 c.args.info.now.space 0 8192 0 None plain c.seal_first.new.page) (ap plain_of c.write_fields.ensures ∙ created_plain c.args.info.now c.known_info.ensures) c.seal_first.ensures.text

pub returns-clause-head : goal.returns-clause-head
returns-clause-head c =
    let text = subst (λ (plain : Plain). IsText 16384 c.args.info.now.space 0 8192 0 None plain c.seal_first.new.page) (ap plain_of c.write_fields.ensures ∙ created_plain c.args.info.now c.known_info.ensures) c.seal_first.ensures.text in
    head_read c.args.info.now.space 8192 c.args.info.now c.seal_first.new.page c.seal_first.ensures.long c.known_info.ensures text

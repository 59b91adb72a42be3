use Rattle.std.proofs.Common.{◌≡◌, ◌∙◌, ap, sym, take, drop, ℕ, List, rules}
use Rattle.byte_list.specs.Fields.{be64_at}
use Rattle.page_places.specs.Texts.{slot_page, text_in}
use Rattle.page_places.proofs.Texts.{text_part}
use Rattle.image_pages.proofs.CopyParts.{no_slot, fields, is_copy, copy_lsn}
use Rattle.image_pages.proofs.copies.copy_in.Goals as goal

pub returns-then-not-is_slot : goal.returns-then-not-is_slot
returns-then-not-is_slot c = no_slot c.args.slot.now c.args.space c.args.page (sym c.is_slot.ensures ∙ c.if-not-is_slot.true)

pub returns-then-be32_at-space : goal.returns-then-be32_at-space
returns-then-be32_at-space c =
    let differ : c.be32_at.result ≡ c.args.space → ⊥ = search rules in
    λ t e. differ (c.be32_at.ensures ∙ (fields c.args.slot.now c.args.space c.args.page (sym c.is_slot.ensures ∙ c.if-not-is_slot.false) t e).0)

pub returns-then-be32_at-page : goal.returns-then-be32_at-page
returns-then-be32_at-page c =
    let differ : c.be32_at-2.result ≡ c.args.page → ⊥ = search rules in
    λ t e. differ (c.be32_at-2.ensures ∙ (fields c.args.slot.now c.args.space c.args.page (sym c.is_slot.ensures ∙ c.if-not-is_slot.false) t e).1)

pub returns : goal.returns
returns c =
    let x = c.args.slot.now in
    let space : c.be32_at.result ≡ c.args.space = search rules in
    let page : c.be32_at-2.result ≡ c.args.page = search rules in
    let rest = c.split_at.ensures.back in
    let text : c.split_at-2.result.1.now ≡ slot_page x = text_part x _ _ _ c.split_at.ensures.front (c.split_at-2.ensures.front ∙ ap (λ (l : List ℕ). take 4 l) rest) (c.split_at-2.ensures.back ∙ ap (λ (l : List ℕ). drop 4 l) rest) in (
      text_in (slot_page x),
      is_copy x c.args.space c.args.page (sym c.is_slot.ensures ∙ c.if-not-is_slot.false) (sym c.be32_at.ensures ∙ space) (sym c.be32_at-2.ensures ∙ page),
      copy_lsn x c.args.space c.args.page ∙ ap (λ (l : List ℕ). be64_at l 16) (sym text) ∙ sym c.be64_at.ensures,
    )

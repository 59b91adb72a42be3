use Rattle.std.proofs.Common.{◌≡◌, ◌∙◌, ap, sym, take, drop, true, ℕ, List}
use Rattle.page_places.specs.Texts.{is_page_text, slot_page, slot_sums_up}
use Rattle.page_places.proofs.Texts.{no_magic, no_sum, slot_read, sums_read, text_part}
use Rattle.image_pages.proofs.texts.is_slot.Goals as goal

pub returns-then-not-has_magic : goal.returns-then-not-has_magic
returns-then-not-has_magic c = sym (no_magic c.args.slot.now (sym c.has_magic.ensures ∙ c.if-not-has_magic.true))

pub returns-then-not-has_sum : goal.returns-then-not-has_sum
returns-then-not-has_sum c =
    let x = c.args.slot.now in
    let rest = c.split_at.ensures.back in
    let sums = sums_read x _ _ _ c.split_at.ensures.front (c.split_at-2.ensures.front ∙ ap (λ (l : List ℕ). take 4 l) rest) (c.split_at-2.ensures.back ∙ ap (λ (l : List ℕ). drop 4 l) rest) in
    sym (no_sum x (sym sums ∙ sym c.has_sum.ensures ∙ c.if-not-has_sum.true))

pub returns : goal.returns
returns c =
    let x = c.args.slot.now in
    let rest = c.split_at.ensures.back in
    let sum_is = c.split_at-2.ensures.front ∙ ap (λ (l : List ℕ). take 4 l) rest in
    let text_is = c.split_at-2.ensures.back ∙ ap (λ (l : List ℕ). drop 4 l) rest in
    let sums = sums_read x _ _ _ c.split_at.ensures.front sum_is text_is in
    let magic = sym c.has_magic.ensures ∙ c.if-not-has_magic.false in
    let right : slot_sums_up x ≡ true = sym sums ∙ sym c.has_sum.ensures ∙ c.if-not-has_sum.false in
    c.is_page_text.ensures
    ∙ ap (λ (l : List ℕ). is_page_text c.be32_at.result l) (text_part x _ _ _ c.split_at.ensures.front sum_is text_is)
    ∙ ap (λ (n : ℕ). is_page_text n (slot_page x)) c.be32_at.ensures
    ∙ slot_read x magic right

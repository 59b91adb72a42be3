use Rattle.std.proofs.Common.{◌≡◌, ◌∙◌, ap, sym, take, drop, ℕ, List, rules, ◌<◌, ◌^◌, true}
use Rattle.byte_list.specs.Fields.{be32_at}
use Rattle.doublewrite.specs.Copies.{as_copied}
use Rattle.page_places.specs.Texts.{is_slot, slot_page}
use Rattle.page_places.proofs.Texts.{none_read, text_part}
use Rattle.doublewrite.proofs.CopyLemmas.{copied_text, listed_slot}
use Rattle.doublewrite.proofs.reading.read_copy.Goals as goal

pub returns-then-not-is_slot : goal.returns-then-not-is_slot
returns-then-not-is_slot c = ap (as_copied c.args.index) (sym (none_read c.args.slot.now (sym c.is_slot.ensures ∙ c.if-not-is_slot.true)))

pub returns-in_default : goal.returns-in_default
returns-in_default c =
    let x = c.args.slot.now in
    let rest = c.split_at.ensures.back in
    let text : c.split_at-2.result.1.now ≡ slot_page x =
    text_part x _ _ _ c.split_at.ensures.front (c.split_at-2.ensures.front ∙ ap (λ (l : List ℕ). take 4 l) rest) (c.split_at-2.ensures.back ∙ ap (λ (l : List ℕ). drop 4 l) rest) in
    let items : c.in_ok-to_vec.field-0.items ≡ c.split_at-2.result.1.now = search rules in
    let is : is_slot x ≡ true = sym c.is_slot.ensures ∙ c.if-not-is_slot.false in
    let small : be32_at x 12 < 2 ^ 32 = rw (← c.be32_at-page.ensures) c.be32_at-page.type_inv in
    absurd (c.in_default.ensures.none (rw (items, text) (copied_text x c.requires is small)))

pub returns : goal.returns
returns c =
    let x = c.args.slot.now in
    let rest = c.split_at.ensures.back in
    let text : c.split_at-2.result.1.now ≡ slot_page x =
    text_part x _ _ _ c.split_at.ensures.front (c.split_at-2.ensures.front ∙ ap (λ (l : List ℕ). take 4 l) rest) (c.split_at-2.ensures.back ∙ ap (λ (l : List ℕ). drop 4 l) rest) in
    let items : c.in_ok-to_vec.field-0.items ≡ c.split_at-2.result.1.now = search rules in
    let is : is_slot x ≡ true = sym c.is_slot.ensures ∙ c.if-not-is_slot.false in
    rw (c.be32_at.ensures, c.be32_at-page.ensures, c.be64_at-lsn.ensures, c.be32_at-version.ensures, c.in-Some.ensures.some, items, text) (sym (listed_slot c.args.index x is))

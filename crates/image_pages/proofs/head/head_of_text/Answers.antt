use Rattle.std.proofs.Common.{◌≡◌, subst, Option, None, rules}
use Rattle.store_model.specs.declared.contents.PlainPage.{PlainPage}
use Rattle.image_pages.specs.Meaning.{IsPlainOf}
use Rattle.image_pages.proofs.HeadTexts.{no_plain, no_body, other_space, own_space}
use Rattle.image_pages.proofs.head.head_of_text.Goals as goal

pub returns-in_default : goal.returns-in_default
returns-in_default c = no_plain c.args.space c.args.text.now c.in_ok-page.field-0 c.in_ok-page.ensures c.in_default.is

pub returns-in_default-2 : goal.returns-in_default-2
returns-in_default-2 c =
    let plain = subst (λ (o : Option PlainPage). IsPlainOf c.args.space 0 None c.args.text.now o) c.in-Some.is c.in_ok-page.ensures in
    no_body c.args.space c.args.text.now c.in-Some.page plain c.bytes.result.now c.in_ok-info.field-0 c.bytes.ensures c.in_ok-info.ensures c.in_default-2.is

pub returns-then-info-space : goal.returns-then-info-space
returns-then-info-space c =
    let plain = subst (λ (o : Option PlainPage). IsPlainOf c.args.space 0 None c.args.text.now o) c.in-Some.is c.in_ok-page.ensures in
    let other : c.in-Some-2.info.space ≡ c.args.space → ⊥ = search rules in
    other_space c.args.space c.args.text.now c.in-Some.page plain c.bytes.result.now c.in_ok-info.field-0 c.in-Some-2.info c.bytes.ensures c.in_ok-info.ensures c.in-Some-2.is other

pub returns : goal.returns
returns c =
    let plain = subst (λ (o : Option PlainPage). IsPlainOf c.args.space 0 None c.args.text.now o) c.in-Some.is c.in_ok-page.ensures in
    let own : c.in-Some-2.info.space ≡ c.args.space = search rules in
    own_space c.args.space c.args.text.now c.in-Some.page plain c.bytes.result.now c.in_ok-info.field-0 c.in-Some-2.info c.bytes.ensures c.in_ok-info.ensures c.in-Some-2.is own

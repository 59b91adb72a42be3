use Rattle.std.proofs.Common.{◌≡◌, ◌∙◌, subst, ℕ, List, Option, rules}
use Rattle.std.specs.Prelude.{Result, IfOk}
use Rattle.cause_core.specs.declared.want.OutOfMemory.{OutOfMemory}
use Rattle.page_text.specs.Text.{key_lent}
use Rattle.store_model.specs.declared.contents.PlainPage.{PlainPage}
use Rattle.image_pages.specs.Meaning.{IsPlainOf}
use Rattle.page_text.specs.declared.key.PageKey.{PageKey}
use Rattle.image_pages.proofs.plain.plain_page.Goals as goal

taken : (s p : ℕ) (k key : Option PageKey) (m text : List ℕ) (r : Result (Option PlainPage) OutOfMemory) → m ≡ text → k ≡ key → IfOk r (IsPlainOf s p k m) → IfOk r (IsPlainOf s p key text)
taken s p k key m text r same keyed is = subst (λ (t : List ℕ). IfOk r (IsPlainOf s p key t)) same (subst (λ (q : Option PageKey). IfOk r (IsPlainOf s p q m)) keyed is)

pub returns : goal.returns
returns c =
    let items : c.in_ok-page.page.items ≡ c.args.text.now = search rules in
    taken c.args.space c.args.number (key_lent c.as_ref.result) c.args.key c.as_mut_slice.result.now c.args.text.now c.opened.result (c.as_mut_slice.ensures.value ∙ items) c.as_ref.ensures.value c.opened.ensures

use Rattle.std.proofs.Common.{◌≡◌, ◌∙◌, ◌+◌, ap, sym, length, ℕ, List, arith, inl, inr, true≢false}
use Rattle.std.proofs.lemmas.Slice.Eq.{bytes_eq-Decides}
use Rattle.std.proofs.lemmas.Option.{same_Some, none-some}
use Rattle.byte_list.specs.Bytes.{put, zeros}
use Rattle.byte_list.proofs.RangeLaws.{length-zeros}
use Rattle.page_text.specs.Parts.{body}
use Rattle.space_head.specs.Head.{with_head}
use Rattle.space_head.specs.declared.space.SpaceInfo.{SpaceInfo}
use Rattle.store_files.specs.Pages.{head_of_space}
use Rattle.image_pages.proofs.HeadPages.{long_put, body_back, page_is, no_head, head_is}
use Rattle.image_pages.proofs.head.head_in.Goals as goal

fits : (b : List ℕ) → length b ≡ 16338 → length b + 46 ≡ length (zeros 16384)
fits b long = let z = length-zeros 16384 in omega (arith, long, z)

pub read_head-requires : goal.read_head-requires
read_head-requires c = inr (inr (inl (ap length (c.deref.ensures.value ∙ c.in_ok-page.ensures) ∙ long_put (zeros 16384) (length-zeros 16384) c.args.body.now (fits c.args.body.now c.requires) ∙ length-zeros 16384)))

pub returns-in_default : goal.returns-in_default
returns-in_default c = no_head (zeros 16384) (length-zeros 16384) c.args.body.now c.deref.result.now c.in_default.field-0 (c.deref.ensures.value ∙ c.in_ok-page.ensures) (sym c.in_default.ensures.value)

pub returns-in_default-space_of : goal.returns-in_default-space_of
returns-in_default-space_of c = λ info typed is.
    none-some info (sym c.in_default-space_of.is ∙ c.space_of.ensures info (head_is (zeros 16384) (length-zeros 16384) c.args.body.now c.deref.result.now c.in-Ok.head (c.deref.ensures.value ∙ c.in_ok-page.ensures) (sym c.in-Ok.ensures.value) info typed is))

pub returns-then-not-are_same : goal.returns-then-not-are_same
returns-then-not-are_same c = λ info typed is.
    let found : c.in-Some.info ≡ info = same_Some c.in-Some.info info (sym c.in-Some.is ∙ c.space_of.ensures info (head_is (zeros 16384) (length-zeros 16384) c.args.body.now c.deref.result.now c.in-Ok.head (c.deref.ensures.value ∙ c.in_ok-page.ensures) (sym c.in-Ok.ensures.value) info typed is)) in
    let same : c.deref-2.result.now ≡ c.deref-3.result.now = c.deref-2.ensures.value ∙ c.in_ok-written.ensures ∙ ap (λ (i : SpaceInfo). with_head (head_of_space i) (zeros 16384)) found ∙ sym (page_is (zeros 16384) (length-zeros 16384) c.args.body.now info typed is) ∙ sym c.in_ok-page.ensures ∙ sym c.deref-3.ensures.value in
    true≢false (sym ((bytes_eq-Decides _ _).1 same) ∙ sym c.are_same.ensures ∙ c.if-not-are_same.true)

pub returns : goal.returns
returns c =
    let same : c.deref-2.result.now ≡ c.deref-3.result.now = (bytes_eq-Decides _ _).0 (sym c.are_same.ensures ∙ c.if-not-are_same.false) in
    let pages : put 38 c.args.body.now (zeros 16384) ≡ with_head (head_of_space c.in-Some.info) (zeros 16384) = sym (c.deref-3.ensures.value ∙ c.in_ok-page.ensures) ∙ sym same ∙ c.deref-2.ensures.value ∙ c.in_ok-written.ensures in
    (c.known_info.ensures, sym (body_back (zeros 16384) (length-zeros 16384) c.args.body.now (fits c.args.body.now c.requires)) ∙ ap body pages)

use Rattle.std.proofs.Common.{◌≡◌, sym, subst, length, ℕ, List, Option}
use Rattle.byte_list.specs.Fields.{be16_at}
use Rattle.page_text.specs.Parts.{body}
use Rattle.page_text.specs.Text.{Plain, IsText, key_lent}
use Rattle.page_text.specs.declared.key.PageKey.{PageKey}
use Rattle.store_model.specs.declared.contents.PlainPage.{PlainPage}
use Rattle.image_pages.proofs.plain.opened.Goals as goal

sized : (s p lsn version n : ℕ) (key : Option PageKey) (plain : Plain) (text : List ℕ) → n ≡ 16384 → IsText 16384 s p lsn version key plain text → IsText n s p lsn version key plain text
sized s p lsn version n key plain text long is = subst (λ (m : ℕ). IsText m s p lsn version key plain text) (sym long) is

of_plain : (s p lsn version n : ℕ) (key : Option PageKey) (plain : PlainPage) (page text : List ℕ) → n ≡ 16384 → plain.kind ≡ be16_at page 24 → plain.body ≡ body page → IsText n s p lsn version key (record { kind = be16_at page 24; bytes = body page }) text
    → IsText 16384 s p lsn version key (record { kind = plain.kind; bytes = plain.body }) text
of_plain s p lsn version n key plain page text long kind bytes is =
    subst (λ (q : Plain). IsText 16384 s p lsn version key q text) (λ i. record { kind = sym kind i; bytes = sym bytes i }) (subst (λ (m : ℕ). IsText m s p lsn version key (record { kind = be16_at page 24; bytes = body page }) text) long is)

pub returns-then-not-unseals : goal.returns-then-not-unseals
returns-then-not-unseals c = λ plain is. c.unseals.ensures.refused c.if-not-unseals.true _ _ plain (sized c.args.space c.args.number _ _ (length c.args.bytes.now) (key_lent c.args.key) plain c.args.bytes.now c.requires.long is)

pub returns : goal.returns
returns c =
    of_plain c.args.space c.args.number _ _ (length c.args.bytes.now) (key_lent c.args.key) c.in_ok-plain.plain c.unseals.new.bytes c.args.bytes.now c.requires.long c.in_ok-plain.ensures.kind c.in_ok-plain.ensures.body (c.unseals.ensures.accepted c.if-not-unseals.false)

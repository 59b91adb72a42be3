use Rattle.std.proofs.Common.{◌≡◌, sym, subst, ap, ℕ, List, Option, Ok}
use Rattle.byte_list.specs.Fields.{be32_at}
use Rattle.page_text.specs.Text.{IsText, Plain, key_lent}
use Rattle.page_text.specs.declared.key.PageKey.{PageKey}
use Rattle.space_head.specs.declared.space.Home.TheVariants.{Clean}
use Rattle.store_form.proofs.reading.open_text.Goals as goal

keyed : (s p lsn version : ℕ) (key other : Option PageKey) (plain : Plain) (bytes : List ℕ) → other ≡ key → IsText 16384 s p lsn version key plain bytes → IsText 16384 s p lsn version other plain bytes
keyed s p lsn version key other plain bytes same is = subst (λ (k : Option PageKey). IsText 16384 s p lsn version k plain bytes) (sym same) is

pub returns-in-Ok-clause-taken : goal.returns-in-Ok-clause-taken
returns-in-Ok-clause-taken c =
    λ lsn plain text.
    let both = c.take_apart.ensures.taken lsn plain (keyed c.args.info.now.space c.args.page lsn (be32_at c.args.into.now 0) c.args.key (key_lent c.as_ref.result) plain c.args.into.now c.as_ref.ensures.value text) in
    (ap (λ (n : ℕ). Ok (Clean n)) c.requires.version, both.1)

pub returns-in-Err-clause-taken : goal.returns-in-Err-clause-taken
returns-in-Err-clause-taken c =
    λ lsn plain text.
    let both = c.take_apart.ensures.taken lsn plain (keyed c.args.info.now.space c.args.page lsn (be32_at c.args.into.now 0) c.args.key (key_lent c.as_ref.result) plain c.args.into.now c.as_ref.ensures.value text) in
    let bad = both.0 in
    let is = c.in-Err.is in
    absurd (cc)

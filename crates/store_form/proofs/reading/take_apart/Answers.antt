use Rattle.std.proofs.Common.{rules, ◌≡◌, sym, subst, ℕ, List, length}
use Rattle.byte_list.specs.Fields.{be32_at}
use Rattle.page_text.specs.Text.{IsText, Plain, key_lent, plain_of}
use Rattle.store_form.proofs.reading.take_apart.Goals as goal

sized : (s p lsn version : ℕ) (key : _) (plain : Plain) (old bytes : List ℕ) → length old ≡ 16384 → bytes ≡ old → IsText 16384 s p lsn version key plain old → IsText (length bytes) s p lsn version key plain bytes
sized s p lsn version key plain old bytes long same is =
    subst (λ (b : List ℕ). IsText (length b) s p lsn version key plain b) (sym same) (subst (λ (n : ℕ). IsText n s p lsn version key plain old) (sym long) is)

pub returns-clause-taken : goal.returns-clause-taken
returns-clause-taken c =
    λ lsn plain text.
    let moved = sized c.args.space c.args.page lsn (be32_at c.args.bytes.now 0) (key_lent c.args.key) plain c.args.bytes.now c.of-text.result.bytes.now c.requires.long c.of-text.ensures.value text in
    let both = c.unseal.ensures.taken lsn (be32_at c.args.bytes.now 0) plain moved in
    let left : plain_of c.unseal.new.page.bytes.now ≡ plain = both.1 in
    (both.0, search rules)

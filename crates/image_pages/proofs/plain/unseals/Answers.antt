use Rattle.std.proofs.Common.{sym, subst, ℕ, List, length}
use Rattle.page_text.specs.Text.{IsText, key_lent}
use Rattle.image_pages.proofs.plain.unseals.Goals as goal

pub returns-in-Err-clause-refused : goal.returns-in-Err-clause-refused
returns-in-Err-clause-refused c =
    λ e lsn version plain text.
    let moved : IsText (length c.of-page.result.bytes.now) c.args.space c.args.number lsn version (key_lent c.args.key) plain c.of-page.result.bytes.now = subst (λ (b : List ℕ). IsText (length b) c.args.space c.args.number lsn version (key_lent c.args.key) plain b) (sym c.of-page.ensures.value) text in
    let bad = (c.in-Err.ensures.taken lsn version plain moved).0 in
    absurd cc

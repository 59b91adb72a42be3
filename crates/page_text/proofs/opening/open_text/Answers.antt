use Rattle.std.proofs.Common.{◌≡◌, ℕ, List, length, sym, ap, subst, ◌∙◌, arith}
use Rattle.std.specs.Prelude.{Option}
use Rattle.std.proofs.lemmas.Result.{err_from_is_err_and}
use Rattle.byte_list.specs.Fields.{be32_at, be64_at}
use Rattle.byte_list.specs.Bytes.{AreBytes}
use Rattle.page_text.specs.Opening.{in_clear, inner_check, left_after}
use Rattle.page_text.specs.Text.{IsText, key_lent, plain_of}
use Rattle.page_text.specs.declared.key.PageKey.{PageKey}
use Rattle.page_text.proofs.Keys.{key_lent-some}
use Rattle.page_text.proofs.Opened.{FieldsFit, clear_ok, clear_taken, inner_ok, inside_taken, left_as_it_was, left_in_clear, opened_is}
use Rattle.page_text.proofs.opening.open_text.Goals as goal

pub returns-in_err-check_clear-clause-left : goal.returns-in_err-check_clear-clause-left
returns-in_err-check_clear-clause-left c =
    let p = err_from_is_err_and c.from_residual.result c.from_residual.ensures.1 in
    rw (p.1, p.2) (sym (left_as_it_was c.args.page.now (in_clear c.args.space c.args.number (key_lent c.args.key) c.args.page.now) c.args.number
    c.in_err-check_clear.field-0.0 (sym c.check_clear.ensures.value ∙ c.in_err-check_clear.was)))

pub returns-in_err-check_clear-clause-taken : goal.returns-in_err-check_clear-clause-taken
returns-in_err-check_clear-clause-taken c = λ lsn version plain t.
    let taken = clear_taken c.args.page.now c.args.space c.args.number lsn version (key_lent c.args.key) plain (omega arith) (omega arith) c.check_clear.ensures.sum_fits t in
    let bad = sym taken ∙ sym c.check_clear.ensures.value ∙ c.in_err-check_clear.was in
    absurd (cc)

pub returns-clause-left : goal.returns-clause-left
returns-clause-left c =
    let o : List ℕ = c.args.page.now in
    let clear : List ℕ = in_clear c.args.space c.args.number (key_lent c.args.key) o in
    c.decipher_part.ensures.value ∙ sym (ap (λ r. left_after r o clear) c.check_inner.ensures ∙ left_in_clear o clear c.decipher_part.new.page c.args.space)

pub returns-clause-accepted : goal.returns-clause-accepted
returns-clause-accepted c = λ ok.
    let o : List ℕ = c.args.page.now in
    let space : ℕ = c.args.space in
    let number : ℕ = c.args.number in
    let key : Option PageKey = key_lent c.args.key in
    let p : List ℕ = in_clear space number key o in
    let made : c.decipher_part.new.page ≡ p = c.decipher_part.ensures.value in
    let B : List ℕ → Type 0 = λ l. AreBytes l in
    let T : List ℕ → Type 0 = λ l. IsText (length o) space number (be64_at o 16) (be32_at o 0) key (plain_of l) o in
    let are_clear : AreBytes p = subst B made c.known_page-2.ensures.bytes in
    let fit : FieldsFit o = record { version = c.known_fields.ensures.version; lsn = c.known_fields.ensures.lsn; kind = c.known_fields.ensures.kind } in
    let held = inner_ok p space (ap (λ (l : List ℕ). inner_check l space) (sym made) ∙ sym c.check_inner.ensures ∙ ok) in
    let clear = clear_ok o number (sym c.check_clear.ensures.value ∙ c.in_ok-check_clear.was) in
    subst T (sym made)
    (opened_is o space number key c.requires.sized (omega arith) c.known_page.ensures.bytes fit (λ h. key_lent-some c.args.key (c.requires.keyed h)) clear c.decipher_part.ensures.undoes are_clear held)

pub returns-clause-taken : goal.returns-clause-taken
returns-clause-taken c = λ lsn version plain t.
    let o : List ℕ = c.args.page.now in
    let made = c.decipher_part.ensures.value in
    let taken = inside_taken o c.args.space c.args.number lsn version (key_lent c.args.key) plain (omega arith) (omega arith) c.check_clear.ensures.sum_fits t c.decipher_part.ensures.undoes in
    (c.check_inner.ensures ∙ ap (λ (l : List ℕ). inner_check l c.args.space) made ∙ taken.inside, ap plain_of made ∙ taken.back)

use Rattle.std.proofs.Common.{◌≡◌, ◌∷◌, ◌≤◌, List, ℕ, length, ap, refl, sym, ◌∙◌, arith}
use Rattle.byte_list.specs.Fields.{be16_at, be32_at}
use Rattle.redo_text.proofs.ChangeReads.{two_and_half, same_16, same_32, kind_allowed}
use Rattle.redo_text.proofs.changes.kind.Goals as goal

pub returns-then-not-may_have-clause-none : goal.returns-then-not-may_have-clause-none
returns-then-not-may_have-clause-none c = λ change rest b.
    let old : List ℕ = c.args.cursor.now in
    let room : 10 ≤ length old = c.in_ok-fields.ensures.some.0 refl in
    let allowed = kind_allowed old change rest b in
    let page : c.be32_at-page.result ≡ be32_at old 4 = c.be32_at-page.ensures ∙ sym (same_32 old c.in_ok-fields.fields.now c.take.new.self 10 c.in_ok-fields.ensures.value c.known_bytes.ensures room c.in_ok-fields.ensures.rest 4 (omega arith)) in
    let kind : c.be16_at-kind.result ≡ be16_at old 8 = c.be16_at-kind.ensures ∙ sym (same_16 old c.in_ok-fields.fields.now c.take.new.self 10 c.in_ok-fields.ensures.value c.known_bytes.ensures room c.in_ok-fields.ensures.rest 8 (omega arith)) in
    c.may_have.ensures.no c.if-not-may_have.true (omega (arith, page, allowed.1)) (λ e. allowed.4 (sym kind ∙ e)) (λ e. allowed.5 (sym kind ∙ e))

pub returns-clause-some : goal.returns-clause-some
returns-clause-some c =
    let may = c.may_have.ensures.yes c.if-not-may_have.false in
    record {
      allowed = (omega arith, may.0, omega arith, omega arith, may.1, may.2);
      is = ap (λ (l : List ℕ). 2 ∷ l) (rw (c.be32_at-space.ensures, c.be32_at-page.ensures, c.be16_at-kind.ensures) (two_and_half c.args.cursor.now c.in_ok-fields.fields.now c.take.new.self 10 c.in_ok-fields.ensures.value c.known_bytes.ensures (c.in_ok-fields.ensures.some.0 refl) c.in_ok-fields.ensures.rest refl));
    }

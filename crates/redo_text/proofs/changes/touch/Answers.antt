use Rattle.std.proofs.Common.{◌∷◌, List, ℕ, ap, refl, arith}
use Rattle.redo_text.proofs.ChangeReads.{two_words}
use Rattle.redo_text.proofs.changes.touch.Goals as goal

pub returns-clause-some : goal.returns-clause-some
returns-clause-some c = record {
  allowed = (omega arith, omega arith);
  is = ap (λ (l : List ℕ). 3 ∷ l) (rw (c.be32_at-space.ensures, c.be32_at-page.ensures) (two_words c.args.cursor.now c.in_ok-fields.fields.now c.take.new.self 8 c.in_ok-fields.ensures.value c.known_bytes.ensures (c.in_ok-fields.ensures.some.0 refl) c.in_ok-fields.ensures.rest refl));
}

use Rattle.std.proofs.Common.{◌∷◌, List, ℕ, ap, refl, arith}
use Rattle.redo_text.proofs.ChangeReads.{one_word}
use Rattle.redo_text.proofs.changes.encrypt.Goals as goal

pub returns-clause-some : goal.returns-clause-some
returns-clause-some c = record {
  allowed = omega arith;
  is = ap (λ (l : List ℕ). 5 ∷ l) (rw c.be32_at-space.ensures (one_word c.args.cursor.now c.in_ok-fields.fields.now c.take.new.self 4 c.in_ok-fields.ensures.value c.known_bytes.ensures (c.in_ok-fields.ensures.some.0 refl) c.in_ok-fields.ensures.rest refl));
}

use Rattle.std.proofs.Common.{◌≡◌, ◌<◌, ◌≤◌, ℕ, List, ◌∙◌, sym, ap, subst, arith, ⊎_elim}
use Rattle.std.specs.Prelude.{slice_index_or}
use Rattle.std.proofs.lemmas.Bool.{cases_lt}
use Rattle.image_reader.proofs.Additions.{same_default}
use Rattle.image_reader.proofs.naming.has_name.Goals as goal
use Rattle.image_reader.proofs.naming.has_name.Goals.{else-name-id-via-then-name-id+else-name-version, else-name-id-via-else-name-id}

pub loop-name-preserved : goal.loop-name-preserved
loop-name-preserved c = λ k lt is.
    ⊎_elim (λ (l : k < c.loop-name.name-index). c.loop-name.invariant k l is)
    (λ (ge : c.loop-name.name-index ≤ k).
    let e : k ≡ c.loop-name.name-index = omega (arith, lt, ge) in
    let here : slice_index_or c.args.names.now c.loop-name.name-index (c.args.id, c.args.version) ≡ (c.args.id, c.args.version) = subst (λ (n : ℕ). slice_index_or c.args.names.now n (c.args.id, c.args.version) ≡ (c.args.id, c.args.version)) e is in
    let found = same_default c.args.names.now c.loop-name.name-index (0, 0) (c.args.id, c.args.version) c.loop-name-test.true ∙ here in
    elim c.else-name-id.branch [
      | else-name-id-via-then-name-id+else-name-version w ↦ w.if-name-version.false (ap (λ (q : ℕ × ℕ). q.1) found)
      | else-name-id-via-else-name-id w ↦ w.if-name-id.false (ap (λ (q : ℕ × ℕ). q.0) found)
    ]) (cases_lt k c.loop-name.name-index)

pub returns-clause-no : goal.returns-clause-no
returns-clause-no c = λ _ there. let lt = there.1 in let end = c.loop-name-test.false in c.loop-name.invariant there.0 (omega (arith, lt, end)) there.2

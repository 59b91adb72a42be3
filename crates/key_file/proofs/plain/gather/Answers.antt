use Rattle.std.proofs.Common.{◌≡◌, ℕ, ◌<◌, List, [], length, map, get_or, Bor, arith, sym, ap, ◌∙◌, inl, inr}
use Rattle.std.proofs.lemmas.List.{get_or-map, length-map}
use Rattle.std.proofs.lemmas.Result.{err_from_is_err_and}
use Rattle.key_file.specs.Plain.{first_fault, lines_of}
use Rattle.key_file.proofs.Gathering.{fault_here, fault_step, keys_step}
use Rattle.key_file.proofs.plain.gather.Goals as goal

pub returns-in_err-take_line : goal.returns-in_err-take_line
returns-in_err-take_line c =
    let p = err_from_is_err_and c.from_residual-in_err-take_line.result c.from_residual-in_err-take_line.ensures.1 in
    let items : List (Bor (List ℕ)) = c.deref-line-items.result.now in
    let none : Bor (List ℕ) = record { ref_ptr = (0, 0); now = [] } in
    let line : List ℕ = (get_or items c.loop-i.i none).now in
    let lines : List (List ℕ) = map (λ (l : Bor (List ℕ)). l.now) items in
    let at : get_or lines c.loop-i.i line ≡ line = get_or-map (λ (l : Bor (List ℕ)). l.now) items c.loop-i.i none line c.loop-i-test.true in
    let within : c.loop-i.i < length lines = omega (arith, length-map items (λ (l : Bor (List ℕ)). l.now), c.loop-i-test.true) in
    let all : lines ≡ lines_of c.args.bytes.now = ap (map (λ (l : Bor (List ℕ)). l.now)) c.deref-line-items.ensures.value ∙ c.in_ok-lines.ensures in
    rw (p.1, p.2) (elim c.in_err-take_line.ensures.refused [
      | inl memory ↦ inl memory
      | inr refused ↦ inr (ap (first_fault 1) (sym all) ∙ fault_here lines c.loop-i.i line _ within at refused c.loop-i.invariant.0)
    ])

pub loop-i-preserved : goal.loop-i-preserved
loop-i-preserved c =
    let items : List (Bor (List ℕ)) = c.deref-line-items.result.now in
    let none : Bor (List ℕ) = record { ref_ptr = (0, 0); now = [] } in
    let line : List ℕ = (get_or items c.loop-i.i none).now in
    let lines : List (List ℕ) = map (λ (l : Bor (List ℕ)). l.now) items in
    let at : get_or lines c.loop-i.i line ≡ line = get_or-map (λ (l : Bor (List ℕ)). l.now) items c.loop-i.i none line c.loop-i-test.true in
    let within : c.loop-i.i < length lines = omega (arith, length-map items (λ (l : Bor (List ℕ)). l.now), c.loop-i-test.true) in
    let takes = c.in_ok-take_line.ensures.taken in
    (fault_step lines c.loop-i.i line within at takes.accepted c.loop-i.invariant.0, keys_step lines c.loop-i.i line _ _ within at takes c.loop-i.invariant.1)

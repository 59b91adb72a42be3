use Rattle.std.proofs.Common.{◌≡◌, ℕ, ◌+◌, subst, ◌∙◌, arith}
use Rattle.std.proofs.lemmas.Result.{on_ok_weaker}
use Rattle.log_drill.specs.Kept.{KeepsJournal}
use Rattle.log_drill.proofs.session.append_eight.Goals as goal

pub returns-clause-journal : goal.returns-clause-journal
returns-clause-journal c = λ keys count es has k.
    let one = c.in_ok-append_put.ensures.journal keys count es has k in
    let two = c.in_ok-append_put-2.ensures.journal keys (count + 1) es has one.0 in
    let all : count + 1 + 1 + 1 ≡ count + 3 = omega arith in
    on_ok_weaker c.append_put-3.result (λ three. (subst (λ (n : ℕ). KeepsJournal keys n c.append_put-3.new.log es) all three.0, three.1 ∙ two.1 ∙ one.1)) (c.append_put-3.ensures.journal keys (count + 1 + 1) es has two.0)

use Rattle.std.proofs.Common.{◌≡◌, ⊎_elim, ℕ, ◌+◌, ◌-◌, ◌≤◌, ◌<◌, ◌∙◌, ap, sym, arith}
use Rattle.std.proofs.lemmas.Bool.{cases_lt}
use Rattle.recovery.specs.Rounds.{count_in, has_later}
use Rattle.recovery.proofs.RoundSteps.{count_none, count_with}
use Rattle.recovery.proofs.round.whole_groups.Goals as goal

pub loop-at-smaller : goal.loop-at-smaller
loop-at-smaller c =
    let has = has_later c.args.notes.now c.args.last.now in
    let at = c.loop-at.at in
    let next = c.next_range-next.result in
    let low = c.next_range-next.ensures.begins in
    let high = c.next_range-next.ensures.ends in
    let lt = c.loop-at-test.true in
    ⊎_elim (λ (more : at < next). omega (arith, more, c.if-next-end.false, lt))
    (λ (le : next ≤ at).
    let same : next ≡ at = omega (arith, le, low) in
    let full = (c.next_range-next.ensures.longest (omega (arith, same, lt))).0 in
    let none : count_in has at (next - at) ≡ 0 = ap (λ (q : ℕ). count_in has at (q - at)) same ∙ count_none has at in
    absurd (omega (arith, full, none)))
    (cases_lt at next)

pub returns-then-next-end-clause-few : goal.returns-then-next-end-clause-few
returns-then-next-end-clause-few c =
    let has = has_later c.args.notes.now c.args.last.now in
    let at = c.loop-at.at in
    let ended : c.next_range-next.result ≡ c.args.end + 1 = omega (arith, c.if-next-end.true, c.next_range-next.ensures.ends) in
    let all : count_in has at (c.next_range-next.result - at) ≡ count_in has at (c.args.end + 1 - at) = ap (λ (q : ℕ). count_in has at (q - at)) ended in
    let one = count_with has at c.args.end c.loop-at.invariant.ends c.requires.later in
    omega (arith, all, one, c.next_range-next.ensures.few)

pub returns-clause-few : goal.returns-clause-few
returns-clause-few c =
    let has = has_later c.args.notes.now c.args.last.now in
    let ended : c.loop-at.at ≡ c.args.end = omega (arith, c.loop-at-test.false, c.loop-at.invariant.ends) in
    let none : count_in has c.loop-at.at (c.args.end - c.loop-at.at) ≡ 0 = ap (λ (q : ℕ). count_in has c.loop-at.at (q - c.loop-at.at)) (sym ended) ∙ count_none has c.loop-at.at in
    omega (arith, none)

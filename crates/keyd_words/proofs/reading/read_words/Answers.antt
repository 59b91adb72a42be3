use Rattle.std.proofs.Common.{map, string_bytes, Result, Ok, Err, IfOk}
use Rattle.keyd_words.specs.Words.{Says, SaysOnly}
use Rattle.keyd_words.specs.Limits.{IsWithinLimits}
use Rattle.keyd_words.proofs.LimitLemmas.{said_within}
use Rattle.keyd_words.proofs.PlanWords.{usage_unknown, one_plan}
use Rattle.keyd_words.proofs.reading.read_words.Goals as goal

pub returns-in_default-clause-err : goal.returns-in_default-clause-err
returns-in_default-clause-err c = usage_unknown c.args.built.now (map string_bytes c.args.words.now) c.in_default.ensures

ok_more : {T E : Type 0} (P Q : T → Type 0) (r : Result T E) → IfOk r P → ((t : T) → P t → Q t) → IfOk r Q
ok_more P Q (Ok t) is more = more t is
ok_more P Q (Err e) is more = tt

pub returns-clause-only : goal.returns-clause-only
returns-clause-only c =
    let built = c.args.built.now in
    let words = map string_bytes c.args.words.now in
    ok_more (Says built words) (SaysOnly built words) c.read_plan.result (c.read_plan.ensures.ok built c.in-Some.ensures.0) (λ p says q other. one_plan built words p q says other)

pub returns-clause-limits : goal.returns-clause-limits
returns-clause-limits c =
    let built = c.args.built.now in
    let words = map string_bytes c.args.words.now in
    ok_more (Says built words) IsWithinLimits c.read_plan.result (c.read_plan.ensures.ok built c.in-Some.ensures.0) (said_within built words)

pub returns-clause-err : goal.returns-clause-err
returns-clause-err c = c.read_plan.ensures.err c.args.built.now c.in-Some.ensures.0

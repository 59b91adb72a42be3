use Rattle.std.proofs.Common.{rules, refl, inr, arith}
use Rattle.script_core.specs.Fields.{PageType, Misfit, FaultAt}
use Rattle.script_core.proofs.FieldLemmas.{page_type, misfits}
use Rattle.script_core.proofs.fields.take_page_type.Goals as goal
use Rattle.cause_core.proofs.Causes.{handed}

pub returns-in_err-number-clause-err : goal.returns-in_err-number-clause-err
returns-in_err-number-clause-err c before =
    handed (FaultAt before PageType c.args.words.now) c.from_residual.result c.in_err-number.field-0.0 (search rules)
    (page_type before c.args.words.now c.in_err-number.field-0.0 (c.in_err-number.ensures.err before))

pub returns-then-number-eq-FSP_HDR-clause-err : goal.returns-then-number-eq-FSP_HDR-clause-err
unfolding Misfit
returns-then-number-eq-FSP_HDR-clause-err c before =
    let t = c.in_ok-number.ensures.ok in
    misfits before PageType c.args.words.now t.word c.take_number.new.words _ t.begins (inr (refl, (c.in_ok-number.number, record { spelled = t.has.spelled; from = omega arith; to = omega arith })))

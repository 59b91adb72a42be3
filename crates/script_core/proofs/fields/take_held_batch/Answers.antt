use Rattle.std.proofs.Common.{rules, refl, inr}
use Rattle.script_core.specs.Fields.{HeldBatch, Misfit, FaultAt}
use Rattle.script_core.proofs.FieldLemmas.{held_batch, misfits}
use Rattle.script_core.proofs.fields.take_held_batch.Goals as goal
use Rattle.cause_core.proofs.Causes.{handed}

pub returns-in_err-batch-clause-err : goal.returns-in_err-batch-clause-err
returns-in_err-batch-clause-err c before tells =
    handed (FaultAt before HeldBatch c.args.words.now) c.from_residual.result c.in_err-batch.field-0.0 (search rules)
    (held_batch before c.args.words.now c.in_err-batch.field-0.0 (c.in_err-batch.ensures.err before))

pub returns-then-not-is_out-clause-err : goal.returns-then-not-is_out-clause-err
unfolding Misfit
returns-then-not-is_out-clause-err c before tells =
    let t = c.in_ok-batch.ensures.ok in
    misfits before HeldBatch c.args.words.now t.word c.take_number.new.words _ t.begins (inr (refl, (c.in_ok-batch.batch, t.has, λ out. let yes = (c.is_out.ensures before tells).1 out in search (rules, yes))))

use Rattle.std.proofs.Common.{rules, refl}
use Rattle.script_core.specs.Fields.{Byte, Misfit, FaultAt}
use Rattle.script_core.proofs.FieldLemmas.{missing, misfits}
use Rattle.script_core.proofs.fields.take_byte.Goals as goal
use Rattle.cause_core.proofs.Causes.{handed}

pub returns-in_err-word-clause-err : goal.returns-in_err-word-clause-err
returns-in_err-word-clause-err c before =
    handed (FaultAt before Byte c.args.words.now) c.from_residual.result c.in_err-word.field-0.0 (search rules)
    (missing before Byte c.args.words.now c.in_err-word.field-0.0 tt c.in_err-word.ensures.err.0 c.in_err-word.ensures.err.1)

pub returns-in-None-clause-err : goal.returns-in-None-clause-err
unfolding Misfit
returns-in-None-clause-err c before = misfits before Byte c.args.words.now c.in_ok-word.word.now c.take_word.new.words _ c.in_ok-word.ensures.ok (refl, c.in-None.ensures)

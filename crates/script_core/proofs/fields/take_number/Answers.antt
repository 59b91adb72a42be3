use Rattle.std.proofs.Common.{rules}
use Rattle.script_core.specs.Words.{NotNumber}
use Rattle.script_core.specs.Fields.{Numeral, Misfit, FaultAt}
use Rattle.script_core.proofs.FieldLemmas.{missing, misfits, err_more}
use Rattle.script_core.proofs.fields.take_number.Goals as goal
use Rattle.cause_core.proofs.Causes.{handed}

pub returns-in_err-word-clause-err : goal.returns-in_err-word-clause-err
returns-in_err-word-clause-err c before = handed (FaultAt before (Numeral c.args.low c.args.high) c.args.words.now) c.from_residual.result c.in_err-word.field-0.0 (search rules)
    (missing before (Numeral c.args.low c.args.high) c.args.words.now c.in_err-word.field-0.0 tt c.in_err-word.ensures.err.0 c.in_err-word.ensures.err.1)

pub returns-clause-err : goal.returns-clause-err
unfolding Misfit
returns-clause-err c before =
    err_more (NotNumber c.in_ok-word.word.now c.args.low c.args.high) (FaultAt before (Numeral c.args.low c.args.high) c.args.words.now) c.number_of.result c.number_of.ensures.err
    (λ kind not. misfits before (Numeral c.args.low c.args.high) c.args.words.now c.in_ok-word.word.now c.take_word.new.words kind c.in_ok-word.ensures.ok not)

use Rattle.std.proofs.Common.{rules}
use Rattle.script_core.specs.Fields.{Bytes, Misfit, FaultAt, ForFault}
use Rattle.script_core.specs.declared.fault.LineError.TheVariants.{Fault}
use Rattle.script_core.proofs.FieldLemmas.{missing, misfits, fault_more}
use Rattle.script_core.proofs.fields.take_bytes.Goals as goal
use Rattle.cause_core.proofs.Causes.{handed}

pub returns-in_err-word-clause-err : goal.returns-in_err-word-clause-err
returns-in_err-word-clause-err c before =
    handed (λ e. ForFault e (FaultAt before Bytes c.args.words.now)) c.from_residual.result (Fault c.in_err-word.field-0.0) (search rules)
    (missing before Bytes c.args.words.now c.in_err-word.field-0.0 tt c.in_err-word.ensures.err.0 c.in_err-word.ensures.err.1)

pub returns-in_err-bytes-clause-err : goal.returns-in_err-bytes-clause-err
unfolding Misfit
returns-in_err-bytes-clause-err c before =
    handed (λ e. ForFault e (FaultAt before Bytes c.args.words.now)) c.from_residual-in_err-bytes.result c.in_err-bytes.field-0.0 (search rules)
    (fault_more _ (FaultAt before Bytes c.args.words.now) c.in_err-bytes.field-0.0 c.in_err-bytes.ensures.err
    (λ kind no. misfits before Bytes c.args.words.now c.in_ok-word.word.now c.take_word.new.words kind c.in_ok-word.ensures.ok no))

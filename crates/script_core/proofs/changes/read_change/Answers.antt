use Rattle.std.proofs.Common.{rules, []}
use Rattle.script_core.specs.Fields.{ForFault, FaultIn}
use Rattle.script_core.specs.Names.{change_fields_of}
use Rattle.script_core.specs.Statements.{ChangeFault, IsChange}
use Rattle.script_core.specs.declared.fault.LineError.TheVariants.{Fault}
use Rattle.script_core.proofs.FieldLemmas.{err_more, ok_more, fault_more}
use Rattle.script_core.proofs.ChangeLemmas.{change_missing, change_unnamed, change_behind, change_whole}
use Rattle.script_core.proofs.changes.read_change.Goals as goal
use Rattle.cause_core.proofs.Causes.{handed}

pub returns-in_err-word-clause-err : goal.returns-in_err-word-clause-err
returns-in_err-word-clause-err c =
    handed (λ e. ForFault e (ChangeFault c.args.words.now)) c.from_residual.result (Fault c.in_err-word.field-0.0) (search rules)
    (change_missing c.args.words.now c.in_err-word.field-0.0 c.in_err-word.ensures.err.0 c.in_err-word.ensures.err.1)

pub returns-in_default-clause-err : goal.returns-in_default-clause-err
returns-in_default-clause-err c = change_unnamed c.args.words.now c.in_ok-word.word.now c.take_word.new.words c.in_ok-word.ensures.ok c.in_default.ensures

pub returns-clause-err : goal.returns-clause-err
returns-clause-err c =
    err_more (λ e. ForFault e (FaultIn [] (change_fields_of c.in-Some.name) c.take_word.new.words)) (λ e. ForFault e (ChangeFault c.args.words.now)) c.read_named.result c.read_named.ensures.err
    (λ e p. fault_more (FaultIn [] (change_fields_of c.in-Some.name) c.take_word.new.words) (ChangeFault c.args.words.now) e p
    (λ kind fault. change_behind c.args.words.now c.in_ok-word.word.now c.take_word.new.words c.in-Some.name kind c.in_ok-word.ensures.ok c.in-Some.ensures fault))

pub returns-clause-ok : goal.returns-clause-ok
returns-clause-ok c =
    ok_more _ (λ change. IsChange change c.args.words.now c.read_named.new.words) c.read_named.result c.read_named.ensures.ok
    (λ change is. change_whole change c.args.words.now c.in_ok-word.word.now c.take_word.new.words c.read_named.new.words c.in-Some.name c.in_ok-word.ensures.ok c.in-Some.ensures is.0 is.1)

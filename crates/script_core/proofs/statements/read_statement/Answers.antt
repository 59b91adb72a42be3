use Rattle.std.proofs.Common.{◌≡◌, rules, sym, ◌∙◌}
use Rattle.script_core.specs.Words.{words_of}
use Rattle.script_core.specs.Fields.{ForFault}
use Rattle.script_core.specs.Statements.{statement_name, AreArguments, ArgumentFault, IsStatement, IsLineFault}
use Rattle.script_core.specs.declared.fault.LineError.TheVariants.{Fault}
use Rattle.script_core.proofs.FieldLemmas.{err_more, ok_more, fault_more}
use Rattle.script_core.proofs.StatementLemmas.{line_missing, line_unnamed, line_behind, line_whole}
use Rattle.script_core.proofs.statements.read_statement.Goals as goal
use Rattle.cause_core.proofs.Causes.{handed}

pub returns-in_err-word-clause-err : goal.returns-in_err-word-clause-err
returns-in_err-word-clause-err c before tells =
    let words = words_of c.args.line.now in
    handed (λ e. ForFault e (IsLineFault before words)) c.from_residual.result (Fault c.in_err-word.field-0.0) (search rules)
    (line_missing before words c.in_err-word.field-0.0 (sym c.new-words.ensures ∙ c.in_err-word.ensures.err.0) c.in_err-word.ensures.err.1)

pub returns-in_default-clause-err : goal.returns-in_default-clause-err
returns-in_default-clause-err c before tells =
    line_unnamed before (words_of c.args.line.now) c.in_ok-word.word.now c.take_word.new.words (sym c.new-words.ensures ∙ c.in_ok-word.ensures.ok) c.in_default.ensures

pub returns-clause-err : goal.returns-clause-err
returns-clause-err c before tells =
    let words = words_of c.args.line.now in
    err_more (λ e. ForFault e (ArgumentFault before c.in-Some.name c.take_word.new.words)) (λ e. ForFault e (IsLineFault before words)) c.read_named.result (c.read_named.ensures.err before tells)
    (λ e p. fault_more (ArgumentFault before c.in-Some.name c.take_word.new.words) (IsLineFault before words) e p
    (λ kind fault. line_behind before words c.in_ok-word.word.now c.take_word.new.words c.in-Some.name kind (sym c.new-words.ensures ∙ c.in_ok-word.ensures.ok) c.in-Some.ensures fault))

pub returns-clause-ok : goal.returns-clause-ok
returns-clause-ok c before tells =
    ok_more (λ act. (statement_name act ≡ c.in-Some.name) × AreArguments before act c.take_word.new.words) (IsStatement before (words_of c.args.line.now)) c.read_named.result (c.read_named.ensures.ok before tells)
    (λ act is. line_whole before act (words_of c.args.line.now) c.in_ok-word.word.now c.take_word.new.words c.in-Some.name (sym c.new-words.ensures ∙ c.in_ok-word.ensures.ok) c.in-Some.ensures is.0 is.1)

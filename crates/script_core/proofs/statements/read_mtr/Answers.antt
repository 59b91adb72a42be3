use Rattle.std.proofs.Common.{rules, refl, inl, inr}
use Rattle.script_core.specs.Fields.{ForFault}
use Rattle.script_core.specs.Statements.{statement_name, AreArguments, ArgumentFault, ChangesFault}
use Rattle.script_core.specs.declared.names.StatementName.TheVariants as name
use Rattle.script_core.specs.declared.fault.LineError.TheVariants.{Fault}
use Rattle.script_core.proofs.LineLemmas.{passes_number}
use Rattle.script_core.proofs.FieldLemmas.{fault_more}
use Rattle.script_core.proofs.statements.read_mtr.Goals as goal
use Rattle.cause_core.proofs.Causes.{handed}

pub returns-in_err-session-clause-err : goal.returns-in_err-session-clause-err
unfolding ArgumentFault
returns-in_err-session-clause-err c before =
    handed (λ e. ForFault e (ArgumentFault before name.Mtr c.args.words.now)) c.from_residual.result (Fault c.in_err-session.field-0.0) (search rules)
    (inl (c.in_err-session.ensures.err before))

pub returns-in_err-changes-clause-err : goal.returns-in_err-changes-clause-err
unfolding ArgumentFault
returns-in_err-changes-clause-err c before =
    handed (λ e. ForFault e (ArgumentFault before name.Mtr c.args.words.now)) c.from_residual-in_err-changes.result c.in_err-changes.field-0.0 (search rules)
    (fault_more (ChangesFault 0 c.take_number.new.words) (ArgumentFault before name.Mtr c.args.words.now) c.in_err-changes.field-0.0 c.in_err-changes.ensures.err
    (λ kind fault. inr (c.take_number.new.words, passes_number before c.in_ok-session.ensures.ok, fault)))

pub returns-clause-ok : goal.returns-clause-ok
unfolding statement_name AreArguments
returns-clause-ok c before =
    let t = c.in_ok-session.ensures.ok in
    (refl, (t.word, c.take_number.new.words, t.begins, t.has, c.in_ok-changes.ensures.ok.0, c.in_ok-changes.ensures.ok.1))

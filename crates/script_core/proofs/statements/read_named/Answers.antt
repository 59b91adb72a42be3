use Rattle.std.proofs.Common.{◌≡◌, rules, sym, subst, ◌∙◌, IfOk, IfErr}
use Rattle.script_core.specs.Fields.{ForFault}
use Rattle.script_core.specs.Names.{fields_of}
use Rattle.script_core.specs.Statements.{statement_name, AreArguments, ArgumentFault}
use Rattle.script_core.specs.declared.fault.LineError.TheVariants.{Fault}
use Rattle.script_core.proofs.statements.read_named.Goals as goal
use Rattle.cause_core.proofs.Causes.{handed}

pub returns-in_err-read_read-in-Read-clause-err : goal.returns-in_err-read_read-in-Read-clause-err
unfolding ArgumentFault fields_of
returns-in_err-read_read-in-Read-clause-err c before tells =
    handed (λ e. ForFault e (ArgumentFault before c.args.name c.args.words.now)) c.from_residual.result (Fault c.in_err-read_read-in-Read.field-0.0) (search rules)
    (subst (λ n. ArgumentFault before n c.args.words.now c.in_err-read_read-in-Read.field-0.0) (sym c.in-Read.is) (c.in_err-read_read-in-Read.ensures.err before))

pub returns-in_ok-read_read-in-Read-clause-ok : goal.returns-in_ok-read_read-in-Read-clause-ok
unfolding statement_name AreArguments
returns-in_ok-read_read-in-Read-clause-ok c before tells = let a = c.in_ok-read_read-in-Read.ensures.ok before in (a.0 ∙ sym c.in-Read.is, a.1)

pub returns-in_err-read_none-in-Sync-clause-err : goal.returns-in_err-read_none-in-Sync-clause-err
unfolding ArgumentFault fields_of
returns-in_err-read_none-in-Sync-clause-err c before tells =
    handed (λ e. ForFault e (ArgumentFault before c.args.name c.args.words.now)) c.from_residual-in_err-read_none-in-Sync.result (Fault c.in_err-read_none-in-Sync.field-0.0) (search rules)
    (subst (λ n. ArgumentFault before n c.args.words.now c.in_err-read_none-in-Sync.field-0.0) (sym c.in-Sync.is) (c.in_err-read_none-in-Sync.ensures.err before))

pub returns-in_ok-read_none-in-Sync-clause-ok : goal.returns-in_ok-read_none-in-Sync-clause-ok
unfolding statement_name AreArguments
returns-in_ok-read_none-in-Sync-clause-ok c before tells = (sym c.in-Sync.is, c.in_ok-read_none-in-Sync.ensures.ok)

pub returns-in_err-read_none-in-Flush-clause-err : goal.returns-in_err-read_none-in-Flush-clause-err
unfolding ArgumentFault fields_of
returns-in_err-read_none-in-Flush-clause-err c before tells =
    handed (λ e. ForFault e (ArgumentFault before c.args.name c.args.words.now)) c.from_residual-in_err-read_none-in-Flush.result (Fault c.in_err-read_none-in-Flush.field-0.0) (search rules)
    (subst (λ n. ArgumentFault before n c.args.words.now c.in_err-read_none-in-Flush.field-0.0) (sym c.in-Flush.is) (c.in_err-read_none-in-Flush.ensures.err before))

pub returns-in_ok-read_none-in-Flush-clause-ok : goal.returns-in_ok-read_none-in-Flush-clause-ok
unfolding statement_name AreArguments
returns-in_ok-read_none-in-Flush-clause-ok c before tells = (sym c.in-Flush.is, c.in_ok-read_none-in-Flush.ensures.ok)

pub returns-in_err-read_none-in-Check-clause-err : goal.returns-in_err-read_none-in-Check-clause-err
unfolding ArgumentFault fields_of
returns-in_err-read_none-in-Check-clause-err c before tells =
    handed (λ e. ForFault e (ArgumentFault before c.args.name c.args.words.now)) c.from_residual-in_err-read_none-in-Check.result (Fault c.in_err-read_none-in-Check.field-0.0) (search rules)
    (subst (λ n. ArgumentFault before n c.args.words.now c.in_err-read_none-in-Check.field-0.0) (sym c.in-Check.is) (c.in_err-read_none-in-Check.ensures.err before))

pub returns-in_ok-read_none-in-Check-clause-ok : goal.returns-in_ok-read_none-in-Check-clause-ok
unfolding statement_name AreArguments
returns-in_ok-read_none-in-Check-clause-ok c before tells = (sym c.in-Check.is, c.in_ok-read_none-in-Check.ensures.ok)

pub returns-in_err-read_take-in-Take-clause-err : goal.returns-in_err-read_take-in-Take-clause-err
unfolding ArgumentFault fields_of
returns-in_err-read_take-in-Take-clause-err c before tells =
    handed (λ e. ForFault e (ArgumentFault before c.args.name c.args.words.now)) c.from_residual-in_err-read_take-in-Take.result (Fault c.in_err-read_take-in-Take.field-0.0) (search rules)
    (subst (λ n. ArgumentFault before n c.args.words.now c.in_err-read_take-in-Take.field-0.0) (sym c.in-Take.is) (c.in_err-read_take-in-Take.ensures.err before tells))

pub returns-in_ok-read_take-in-Take-clause-ok : goal.returns-in_ok-read_take-in-Take-clause-ok
unfolding statement_name AreArguments
returns-in_ok-read_take-in-Take-clause-ok c before tells = let a = c.in_ok-read_take-in-Take.ensures.ok before tells in (a.0 ∙ sym c.in-Take.is, a.1)

pub returns-in_err-read_put-in-Put-clause-err : goal.returns-in_err-read_put-in-Put-clause-err
unfolding ArgumentFault fields_of
returns-in_err-read_put-in-Put-clause-err c before tells =
    handed (λ e. ForFault e (ArgumentFault before c.args.name c.args.words.now)) c.from_residual-in_err-read_put-in-Put.result (Fault c.in_err-read_put-in-Put.field-0.0) (search rules)
    (subst (λ n. ArgumentFault before n c.args.words.now c.in_err-read_put-in-Put.field-0.0) (sym c.in-Put.is) (c.in_err-read_put-in-Put.ensures.err before tells))

pub returns-in_ok-read_put-in-Put-clause-ok : goal.returns-in_ok-read_put-in-Put-clause-ok
unfolding statement_name AreArguments
returns-in_ok-read_put-in-Put-clause-ok c before tells = let a = c.in_ok-read_put-in-Put.ensures.ok before tells in (a.0 ∙ sym c.in-Put.is, a.1)

pub returns-in_err-version-in-Activate-clause-err : goal.returns-in_err-version-in-Activate-clause-err
unfolding ArgumentFault fields_of
returns-in_err-version-in-Activate-clause-err c before tells =
    handed (λ e. ForFault e (ArgumentFault before c.args.name c.args.words.now)) c.from_residual-in_err-version-in-Activate.result (Fault c.in_err-version-in-Activate.field-0.0) (search rules)
    (subst (λ n. ArgumentFault before n c.args.words.now c.in_err-version-in-Activate.field-0.0) (sym c.in-Activate.is) (c.in_err-version-in-Activate.ensures.err before))

pub returns-in_ok-version-in-Activate-clause-ok : goal.returns-in_ok-version-in-Activate-clause-ok
unfolding statement_name AreArguments
returns-in_ok-version-in-Activate-clause-ok c before tells = (sym c.in-Activate.is, c.in_ok-version-in-Activate.ensures.ok)

pub returns-in_err-space-in-Encrypt-clause-err : goal.returns-in_err-space-in-Encrypt-clause-err
unfolding ArgumentFault fields_of
returns-in_err-space-in-Encrypt-clause-err c before tells =
    handed (λ e. ForFault e (ArgumentFault before c.args.name c.args.words.now)) c.from_residual-in_err-space-in-Encrypt.result (Fault c.in_err-space-in-Encrypt.field-0.0) (search rules)
    (subst (λ n. ArgumentFault before n c.args.words.now c.in_err-space-in-Encrypt.field-0.0) (sym c.in-Encrypt.is) (c.in_err-space-in-Encrypt.ensures.err before))

pub returns-in_ok-space-in-Encrypt-clause-ok : goal.returns-in_ok-space-in-Encrypt-clause-ok
unfolding statement_name AreArguments
returns-in_ok-space-in-Encrypt-clause-ok c before tells = (sym c.in-Encrypt.is, c.in_ok-space-in-Encrypt.ensures.ok)

pub returns-in_err-space-in-Rotate-clause-err : goal.returns-in_err-space-in-Rotate-clause-err
unfolding ArgumentFault fields_of
returns-in_err-space-in-Rotate-clause-err c before tells =
    handed (λ e. ForFault e (ArgumentFault before c.args.name c.args.words.now)) c.from_residual-in_err-space-in-Rotate.result (Fault c.in_err-space-in-Rotate.field-0.0) (search rules)
    (subst (λ n. ArgumentFault before n c.args.words.now c.in_err-space-in-Rotate.field-0.0) (sym c.in-Rotate.is) (c.in_err-space-in-Rotate.ensures.err before))

pub returns-in_ok-space-in-Rotate-clause-ok : goal.returns-in_ok-space-in-Rotate-clause-ok
unfolding statement_name AreArguments
returns-in_ok-space-in-Rotate-clause-ok c before tells = (sym c.in-Rotate.is, c.in_ok-space-in-Rotate.ensures.ok)

pub returns-in_err-space-in-Report-clause-err : goal.returns-in_err-space-in-Report-clause-err
unfolding ArgumentFault fields_of
returns-in_err-space-in-Report-clause-err c before tells =
    handed (λ e. ForFault e (ArgumentFault before c.args.name c.args.words.now)) c.from_residual-in_err-space-in-Report.result (Fault c.in_err-space-in-Report.field-0.0) (search rules)
    (subst (λ n. ArgumentFault before n c.args.words.now c.in_err-space-in-Report.field-0.0) (sym c.in-Report.is) (c.in_err-space-in-Report.ensures.err before))

pub returns-in_ok-space-in-Report-clause-ok : goal.returns-in_ok-space-in-Report-clause-ok
unfolding statement_name AreArguments
returns-in_ok-space-in-Report-clause-ok c before tells = (sym c.in-Report.is, c.in_ok-space-in-Report.ensures.ok)

pub returns-in-Mtr-clause-ok : goal.returns-in-Mtr-clause-ok
returns-in-Mtr-clause-ok c before tells = subst (λ n. IfOk c.read_mtr.result (λ act. (statement_name act ≡ n) × AreArguments before act c.args.words.now)) (sym c.in-Mtr.is) (c.read_mtr.ensures.ok before)

pub returns-in-Mtr-clause-err : goal.returns-in-Mtr-clause-err
returns-in-Mtr-clause-err c before tells = subst (λ n. IfErr c.read_mtr.result (λ e. ForFault e (ArgumentFault before n c.args.words.now))) (sym c.in-Mtr.is) (c.read_mtr.ensures.err before)

use Rattle.std.proofs.Common.{rules, refl, [], ◌∷◌, ◌∙◌}
use Rattle.script_core.specs.Fields.{HeldBatch, End, FaultIn}
use Rattle.script_core.specs.Names.{fields_of}
use Rattle.script_core.specs.Statements.{statement_name, AreArguments}
use Rattle.script_core.specs.declared.names.StatementName.TheVariants as name
use Rattle.script_core.proofs.LineLemmas.{onto, here, behind_held}
use Rattle.script_core.proofs.statements.read_put.Goals as goal
use Rattle.cause_core.proofs.Causes.{handed}

pub returns-in_err-batch-clause-err : goal.returns-in_err-batch-clause-err
unfolding fields_of
returns-in_err-batch-clause-err c before tells =
    handed (FaultIn before (fields_of name.Put) c.args.words.now) c.from_residual.result c.in_err-batch.field-0.0 (search rules)
    (here before HeldBatch (End ∷ []) c.args.words.now c.in_err-batch.field-0.0 (c.in_err-batch.ensures.err before tells))

pub returns-in_err-take_end-clause-err : goal.returns-in_err-take_end-clause-err
unfolding fields_of
returns-in_err-take_end-clause-err c before tells =
    handed (FaultIn before (fields_of name.Put) c.args.words.now) c.from_residual-in_err-take_end.result c.in_err-take_end.field-0.0 (search rules)
    (behind_held before (c.in_ok-batch.ensures.ok before tells).0 (c.in_ok-batch.ensures.ok before tells).1 (End ∷ []) c.in_err-take_end.field-0.0 (here before End ([]) c.take_held_batch.new.words c.in_err-take_end.field-0.0 (c.in_err-take_end.ensures.err before)))

pub returns-clause-ok : goal.returns-clause-ok
unfolding statement_name AreArguments
returns-clause-ok c before tells =
    let b = c.in_ok-batch.ensures.ok before tells in
    let t0 = b.0 in
    (refl, (t0.word, t0.begins ∙ onto t0.word (c.in_ok-take_end.ensures.ok), t0.has, b.1))

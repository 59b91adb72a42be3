use Rattle.std.proofs.Common.{rules, refl, [], ◌∷◌, ◌∙◌}
use Rattle.script_core.specs.Fields.{Numeral, FreeBatch, End, FaultIn}
use Rattle.script_core.specs.Names.{fields_of}
use Rattle.script_core.specs.Statements.{statement_name, AreArguments}
use Rattle.script_core.specs.declared.names.StatementName.TheVariants as name
use Rattle.script_core.proofs.LineLemmas.{onto, here, behind_number, behind_free}
use Rattle.script_core.proofs.statements.read_take.Goals as goal
use Rattle.cause_core.proofs.Causes.{handed}

pub returns-in_err-batch-clause-err : goal.returns-in_err-batch-clause-err
unfolding fields_of
returns-in_err-batch-clause-err c before tells =
    handed (FaultIn before (fields_of name.Take) c.args.words.now) c.from_residual.result c.in_err-batch.field-0.0 (search rules)
    (here before FreeBatch ((Numeral 0 4294967295) ∷ (Numeral 1 64) ∷ End ∷ []) c.args.words.now c.in_err-batch.field-0.0 (c.in_err-batch.ensures.err before tells))

pub returns-in_err-space-clause-err : goal.returns-in_err-space-clause-err
unfolding fields_of
returns-in_err-space-clause-err c before tells =
    handed (FaultIn before (fields_of name.Take) c.args.words.now) c.from_residual-in_err-space.result c.in_err-space.field-0.0 (search rules)
    (behind_free before (c.in_ok-batch.ensures.ok before tells).0 (c.in_ok-batch.ensures.ok before tells).1 ((Numeral 0 4294967295) ∷ (Numeral 1 64) ∷ End ∷ []) c.in_err-space.field-0.0 (here before (Numeral 0 4294967295) ((Numeral 1 64) ∷ End ∷ []) c.take_free_batch.new.words c.in_err-space.field-0.0 (c.in_err-space.ensures.err before)))

pub returns-in_err-count-clause-err : goal.returns-in_err-count-clause-err
unfolding fields_of
returns-in_err-count-clause-err c before tells =
    handed (FaultIn before (fields_of name.Take) c.args.words.now) c.from_residual-in_err-count.result c.in_err-count.field-0.0 (search rules)
    (behind_free before (c.in_ok-batch.ensures.ok before tells).0 (c.in_ok-batch.ensures.ok before tells).1 ((Numeral 0 4294967295) ∷ (Numeral 1 64) ∷ End ∷ []) c.in_err-count.field-0.0 (behind_number before c.in_ok-space.ensures.ok ((Numeral 1 64) ∷ End ∷ []) c.in_err-count.field-0.0 (here before (Numeral 1 64) (End ∷ []) c.take_u32.new.words c.in_err-count.field-0.0 (c.in_err-count.ensures.err before))))

pub returns-in_err-take_end-clause-err : goal.returns-in_err-take_end-clause-err
unfolding fields_of
returns-in_err-take_end-clause-err c before tells =
    handed (FaultIn before (fields_of name.Take) c.args.words.now) c.from_residual-in_err-take_end.result c.in_err-take_end.field-0.0 (search rules)
    (behind_free before (c.in_ok-batch.ensures.ok before tells).0 (c.in_ok-batch.ensures.ok before tells).1 ((Numeral 0 4294967295) ∷ (Numeral 1 64) ∷ End ∷ []) c.in_err-take_end.field-0.0 (behind_number before c.in_ok-space.ensures.ok ((Numeral 1 64) ∷ End ∷ []) c.in_err-take_end.field-0.0 (behind_number before c.in_ok-count.ensures.ok (End ∷ []) c.in_err-take_end.field-0.0 (here before End ([]) c.take_number.new.words c.in_err-take_end.field-0.0 (c.in_err-take_end.ensures.err before)))))

pub returns-clause-ok : goal.returns-clause-ok
unfolding statement_name AreArguments
returns-clause-ok c before tells =
    let b = c.in_ok-batch.ensures.ok before tells in
    let t0 = b.0 in
    let t1 = c.in_ok-space.ensures.ok in
    let t2 = c.in_ok-count.ensures.ok in
    (refl, (t0.word, t1.word, t2.word, t0.begins ∙ onto t0.word (t1.begins ∙ onto t1.word (t2.begins ∙ onto t2.word (c.in_ok-take_end.ensures.ok))), t0.has, b.1, t1.has, t2.has))

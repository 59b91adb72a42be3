use Rattle.std.proofs.Common.{rules, refl, [], ◌∷◌, ◌∙◌}
use Rattle.script_core.specs.Fields.{Numeral, End, FaultIn}
use Rattle.script_core.specs.Names.{fields_of}
use Rattle.script_core.specs.Statements.{statement_name, AreArguments}
use Rattle.script_core.specs.declared.names.StatementName.TheVariants as name
use Rattle.script_core.proofs.LineLemmas.{onto, here, behind_number}
use Rattle.script_core.proofs.statements.read_read.Goals as goal
use Rattle.cause_core.proofs.Causes.{handed}

pub returns-in_err-session-clause-err : goal.returns-in_err-session-clause-err
unfolding fields_of
returns-in_err-session-clause-err c before =
    handed (FaultIn before (fields_of name.Read) c.args.words.now) c.from_residual.result c.in_err-session.field-0.0 (search rules)
    (here before (Numeral 1 16) ((Numeral 0 4294967295) ∷ (Numeral 0 4294967295) ∷ (Numeral 0 4294967295) ∷ (Numeral 1 16338) ∷ End ∷ []) c.args.words.now c.in_err-session.field-0.0 (c.in_err-session.ensures.err before))

pub returns-in_err-space-clause-err : goal.returns-in_err-space-clause-err
unfolding fields_of
returns-in_err-space-clause-err c before =
    handed (FaultIn before (fields_of name.Read) c.args.words.now) c.from_residual-in_err-space.result c.in_err-space.field-0.0 (search rules)
    (behind_number before c.in_ok-session.ensures.ok ((Numeral 0 4294967295) ∷ (Numeral 0 4294967295) ∷ (Numeral 0 4294967295) ∷ (Numeral 1 16338) ∷ End ∷ []) c.in_err-space.field-0.0 (here before (Numeral 0 4294967295) ((Numeral 0 4294967295) ∷ (Numeral 0 4294967295) ∷ (Numeral 1 16338) ∷ End ∷ []) c.take_number.new.words c.in_err-space.field-0.0 (c.in_err-space.ensures.err before)))

pub returns-in_err-page-clause-err : goal.returns-in_err-page-clause-err
unfolding fields_of
returns-in_err-page-clause-err c before =
    handed (FaultIn before (fields_of name.Read) c.args.words.now) c.from_residual-in_err-page.result c.in_err-page.field-0.0 (search rules)
    (behind_number before c.in_ok-session.ensures.ok ((Numeral 0 4294967295) ∷ (Numeral 0 4294967295) ∷ (Numeral 0 4294967295) ∷ (Numeral 1 16338) ∷ End ∷ []) c.in_err-page.field-0.0 (behind_number before c.in_ok-space.ensures.ok ((Numeral 0 4294967295) ∷ (Numeral 0 4294967295) ∷ (Numeral 1 16338) ∷ End ∷ []) c.in_err-page.field-0.0 (here before (Numeral 0 4294967295) ((Numeral 0 4294967295) ∷ (Numeral 1 16338) ∷ End ∷ []) c.take_u32.new.words c.in_err-page.field-0.0 (c.in_err-page.ensures.err before))))

pub returns-in_err-at-clause-err : goal.returns-in_err-at-clause-err
unfolding fields_of
returns-in_err-at-clause-err c before =
    handed (FaultIn before (fields_of name.Read) c.args.words.now) c.from_residual-in_err-at.result c.in_err-at.field-0.0 (search rules)
    (behind_number before c.in_ok-session.ensures.ok ((Numeral 0 4294967295) ∷ (Numeral 0 4294967295) ∷ (Numeral 0 4294967295) ∷ (Numeral 1 16338) ∷ End ∷ []) c.in_err-at.field-0.0 (behind_number before c.in_ok-space.ensures.ok ((Numeral 0 4294967295) ∷ (Numeral 0 4294967295) ∷ (Numeral 1 16338) ∷ End ∷ []) c.in_err-at.field-0.0 (behind_number before c.in_ok-page.ensures.ok ((Numeral 0 4294967295) ∷ (Numeral 1 16338) ∷ End ∷ []) c.in_err-at.field-0.0 (here before (Numeral 0 4294967295) ((Numeral 1 16338) ∷ End ∷ []) c.take_u32-2.new.words c.in_err-at.field-0.0 (c.in_err-at.ensures.err before)))))

pub returns-in_err-length-clause-err : goal.returns-in_err-length-clause-err
unfolding fields_of
returns-in_err-length-clause-err c before =
    handed (FaultIn before (fields_of name.Read) c.args.words.now) c.from_residual-in_err-length.result c.in_err-length.field-0.0 (search rules)
    (behind_number before c.in_ok-session.ensures.ok ((Numeral 0 4294967295) ∷ (Numeral 0 4294967295) ∷ (Numeral 0 4294967295) ∷ (Numeral 1 16338) ∷ End ∷ []) c.in_err-length.field-0.0 (behind_number before c.in_ok-space.ensures.ok ((Numeral 0 4294967295) ∷ (Numeral 0 4294967295) ∷ (Numeral 1 16338) ∷ End ∷ []) c.in_err-length.field-0.0 (behind_number before c.in_ok-page.ensures.ok ((Numeral 0 4294967295) ∷ (Numeral 1 16338) ∷ End ∷ []) c.in_err-length.field-0.0 (behind_number before c.in_ok-at.ensures.ok ((Numeral 1 16338) ∷ End ∷ []) c.in_err-length.field-0.0 (here before (Numeral 1 16338) (End ∷ []) c.take_u32-3.new.words c.in_err-length.field-0.0 (c.in_err-length.ensures.err before))))))

pub returns-in_err-take_end-clause-err : goal.returns-in_err-take_end-clause-err
unfolding fields_of
returns-in_err-take_end-clause-err c before =
    handed (FaultIn before (fields_of name.Read) c.args.words.now) c.from_residual-in_err-take_end.result c.in_err-take_end.field-0.0 (search rules)
    (behind_number before c.in_ok-session.ensures.ok ((Numeral 0 4294967295) ∷ (Numeral 0 4294967295) ∷ (Numeral 0 4294967295) ∷ (Numeral 1 16338) ∷ End ∷ []) c.in_err-take_end.field-0.0 (behind_number before c.in_ok-space.ensures.ok ((Numeral 0 4294967295) ∷ (Numeral 0 4294967295) ∷ (Numeral 1 16338) ∷ End ∷ []) c.in_err-take_end.field-0.0 (behind_number before c.in_ok-page.ensures.ok ((Numeral 0 4294967295) ∷ (Numeral 1 16338) ∷ End ∷ []) c.in_err-take_end.field-0.0 (behind_number before c.in_ok-at.ensures.ok ((Numeral 1 16338) ∷ End ∷ []) c.in_err-take_end.field-0.0 (behind_number before c.in_ok-length.ensures.ok (End ∷ []) c.in_err-take_end.field-0.0 (here before End ([]) c.take_number-2.new.words c.in_err-take_end.field-0.0 (c.in_err-take_end.ensures.err before)))))))

pub returns-clause-ok : goal.returns-clause-ok
unfolding statement_name AreArguments
returns-clause-ok c before =
    let t0 = c.in_ok-session.ensures.ok in
    let t1 = c.in_ok-space.ensures.ok in
    let t2 = c.in_ok-page.ensures.ok in
    let t3 = c.in_ok-at.ensures.ok in
    let t4 = c.in_ok-length.ensures.ok in
    (refl, (t0.word, t1.word, t2.word, t3.word, t4.word, t0.begins ∙ onto t0.word (t1.begins ∙ onto t1.word (t2.begins ∙ onto t2.word (t3.begins ∙ onto t3.word (t4.begins ∙ onto t4.word (c.in_ok-take_end.ensures.ok))))), t0.has, t1.has, t2.has, t3.has, t4.has))

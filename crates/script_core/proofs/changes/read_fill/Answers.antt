use Rattle.std.proofs.Common.{rules, refl, [], ◌∷◌, ◌∙◌}
use Rattle.script_core.specs.Fields.{Numeral, Byte, FaultIn}
use Rattle.script_core.specs.Names.{change_fields_of}
use Rattle.script_core.specs.Statements.{change_name, AreChangeArguments}
use Rattle.script_core.specs.declared.names.ChangeName.TheVariants as name
use Rattle.script_core.proofs.LineLemmas.{onto, here, behind_number}
use Rattle.script_core.proofs.changes.read_fill.Goals as goal
use Rattle.cause_core.proofs.Causes.{handed}

pub returns-in_err-space-clause-err : goal.returns-in_err-space-clause-err
unfolding change_fields_of
returns-in_err-space-clause-err c =
    handed (FaultIn [] (change_fields_of name.Fill) c.args.words.now) c.from_residual.result c.in_err-space.field-0.0 (search rules)
    (here [] (Numeral 0 4294967295) ((Numeral 0 4294967295) ∷ (Numeral 0 4294967295) ∷ (Numeral 0 4294967295) ∷ Byte ∷ []) c.args.words.now c.in_err-space.field-0.0 (c.in_err-space.ensures.err []))

pub returns-in_err-page-clause-err : goal.returns-in_err-page-clause-err
unfolding change_fields_of
returns-in_err-page-clause-err c =
    handed (FaultIn [] (change_fields_of name.Fill) c.args.words.now) c.from_residual-in_err-page.result c.in_err-page.field-0.0 (search rules)
    (behind_number [] c.in_ok-space.ensures.ok ((Numeral 0 4294967295) ∷ (Numeral 0 4294967295) ∷ (Numeral 0 4294967295) ∷ Byte ∷ []) c.in_err-page.field-0.0 (here [] (Numeral 0 4294967295) ((Numeral 0 4294967295) ∷ (Numeral 0 4294967295) ∷ Byte ∷ []) c.take_u32.new.words c.in_err-page.field-0.0 (c.in_err-page.ensures.err [])))

pub returns-in_err-at-clause-err : goal.returns-in_err-at-clause-err
unfolding change_fields_of
returns-in_err-at-clause-err c =
    handed (FaultIn [] (change_fields_of name.Fill) c.args.words.now) c.from_residual-in_err-at.result c.in_err-at.field-0.0 (search rules)
    (behind_number [] c.in_ok-space.ensures.ok ((Numeral 0 4294967295) ∷ (Numeral 0 4294967295) ∷ (Numeral 0 4294967295) ∷ Byte ∷ []) c.in_err-at.field-0.0 (behind_number [] c.in_ok-page.ensures.ok ((Numeral 0 4294967295) ∷ (Numeral 0 4294967295) ∷ Byte ∷ []) c.in_err-at.field-0.0 (here [] (Numeral 0 4294967295) ((Numeral 0 4294967295) ∷ Byte ∷ []) c.take_u32-2.new.words c.in_err-at.field-0.0 (c.in_err-at.ensures.err []))))

pub returns-in_err-length-clause-err : goal.returns-in_err-length-clause-err
unfolding change_fields_of
returns-in_err-length-clause-err c =
    handed (FaultIn [] (change_fields_of name.Fill) c.args.words.now) c.from_residual-in_err-length.result c.in_err-length.field-0.0 (search rules)
    (behind_number [] c.in_ok-space.ensures.ok ((Numeral 0 4294967295) ∷ (Numeral 0 4294967295) ∷ (Numeral 0 4294967295) ∷ Byte ∷ []) c.in_err-length.field-0.0 (behind_number [] c.in_ok-page.ensures.ok ((Numeral 0 4294967295) ∷ (Numeral 0 4294967295) ∷ Byte ∷ []) c.in_err-length.field-0.0 (behind_number [] c.in_ok-at.ensures.ok ((Numeral 0 4294967295) ∷ Byte ∷ []) c.in_err-length.field-0.0 (here [] (Numeral 0 4294967295) (Byte ∷ []) c.take_u32-3.new.words c.in_err-length.field-0.0 (c.in_err-length.ensures.err [])))))

pub returns-in_err-byte-clause-err : goal.returns-in_err-byte-clause-err
unfolding change_fields_of
returns-in_err-byte-clause-err c =
    handed (FaultIn [] (change_fields_of name.Fill) c.args.words.now) c.from_residual-in_err-byte.result c.in_err-byte.field-0.0 (search rules)
    (behind_number [] c.in_ok-space.ensures.ok ((Numeral 0 4294967295) ∷ (Numeral 0 4294967295) ∷ (Numeral 0 4294967295) ∷ Byte ∷ []) c.in_err-byte.field-0.0 (behind_number [] c.in_ok-page.ensures.ok ((Numeral 0 4294967295) ∷ (Numeral 0 4294967295) ∷ Byte ∷ []) c.in_err-byte.field-0.0 (behind_number [] c.in_ok-at.ensures.ok ((Numeral 0 4294967295) ∷ Byte ∷ []) c.in_err-byte.field-0.0 (behind_number [] c.in_ok-length.ensures.ok (Byte ∷ []) c.in_err-byte.field-0.0 (here [] Byte ([]) c.take_u32-4.new.words c.in_err-byte.field-0.0 (c.in_err-byte.ensures.err []))))))

pub returns-clause-ok : goal.returns-clause-ok
unfolding change_name AreChangeArguments
returns-clause-ok c =
    let t0 = c.in_ok-space.ensures.ok in
    let t1 = c.in_ok-page.ensures.ok in
    let t2 = c.in_ok-at.ensures.ok in
    let t3 = c.in_ok-length.ensures.ok in
    let t4 = c.in_ok-byte.ensures.ok in
    (refl, (t0.word, t1.word, t2.word, t3.word, t4.word, t0.begins ∙ onto t0.word (t1.begins ∙ onto t1.word (t2.begins ∙ onto t2.word (t3.begins ∙ onto t3.word (t4.begins)))), t0.has, t1.has, t2.has, t3.has, t4.has))

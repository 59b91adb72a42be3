use Rattle.std.proofs.Common.{rules, refl, [], ◌∷◌, ◌∙◌}
use Rattle.script_core.specs.Fields.{Numeral, Bytes, FaultIn, ForFault}
use Rattle.script_core.specs.Names.{change_fields_of}
use Rattle.script_core.specs.Statements.{change_name, AreChangeArguments}
use Rattle.script_core.specs.declared.names.ChangeName.TheVariants as name
use Rattle.script_core.specs.declared.fault.LineError.TheVariants.{Fault}
use Rattle.script_core.proofs.LineLemmas.{onto, here, behind_number}
use Rattle.script_core.proofs.FieldLemmas.{fault_more}
use Rattle.script_core.proofs.changes.read_put.Goals as goal
use Rattle.cause_core.proofs.Causes.{handed}

pub returns-in_err-space-clause-err : goal.returns-in_err-space-clause-err
unfolding change_fields_of
returns-in_err-space-clause-err c =
    handed (λ e. ForFault e (FaultIn [] (change_fields_of name.Put) c.args.words.now)) c.from_residual.result (Fault c.in_err-space.field-0.0) (search rules)
    (here [] (Numeral 0 4294967295) ((Numeral 0 4294967295) ∷ (Numeral 0 4294967295) ∷ Bytes ∷ []) c.args.words.now c.in_err-space.field-0.0 (c.in_err-space.ensures.err []))

pub returns-in_err-page-clause-err : goal.returns-in_err-page-clause-err
unfolding change_fields_of
returns-in_err-page-clause-err c =
    handed (λ e. ForFault e (FaultIn [] (change_fields_of name.Put) c.args.words.now)) c.from_residual-in_err-page.result (Fault c.in_err-page.field-0.0) (search rules)
    (behind_number [] c.in_ok-space.ensures.ok ((Numeral 0 4294967295) ∷ (Numeral 0 4294967295) ∷ Bytes ∷ []) c.in_err-page.field-0.0 (here [] (Numeral 0 4294967295) ((Numeral 0 4294967295) ∷ Bytes ∷ []) c.take_u32.new.words c.in_err-page.field-0.0 (c.in_err-page.ensures.err [])))

pub returns-in_err-at-clause-err : goal.returns-in_err-at-clause-err
unfolding change_fields_of
returns-in_err-at-clause-err c =
    handed (λ e. ForFault e (FaultIn [] (change_fields_of name.Put) c.args.words.now)) c.from_residual-in_err-at.result (Fault c.in_err-at.field-0.0) (search rules)
    (behind_number [] c.in_ok-space.ensures.ok ((Numeral 0 4294967295) ∷ (Numeral 0 4294967295) ∷ Bytes ∷ []) c.in_err-at.field-0.0 (behind_number [] c.in_ok-page.ensures.ok ((Numeral 0 4294967295) ∷ Bytes ∷ []) c.in_err-at.field-0.0 (here [] (Numeral 0 4294967295) (Bytes ∷ []) c.take_u32-2.new.words c.in_err-at.field-0.0 (c.in_err-at.ensures.err []))))

pub returns-in_err-bytes-clause-err : goal.returns-in_err-bytes-clause-err
unfolding change_fields_of
returns-in_err-bytes-clause-err c =
    handed (λ e. ForFault e (FaultIn [] (change_fields_of name.Put) c.args.words.now)) c.from_residual-in_err-bytes.result c.in_err-bytes.field-0.0 (search rules)
    (fault_more _ (FaultIn [] (change_fields_of name.Put) c.args.words.now) c.in_err-bytes.field-0.0 (c.in_err-bytes.ensures.err []) (λ kind fault. behind_number [] c.in_ok-space.ensures.ok ((Numeral 0 4294967295) ∷ (Numeral 0 4294967295) ∷ Bytes ∷ []) kind (behind_number [] c.in_ok-page.ensures.ok ((Numeral 0 4294967295) ∷ Bytes ∷ []) kind (behind_number [] c.in_ok-at.ensures.ok (Bytes ∷ []) kind (here [] Bytes ([]) c.take_u32-3.new.words kind fault)))))

pub returns-clause-ok : goal.returns-clause-ok
unfolding change_name AreChangeArguments
returns-clause-ok c =
    let t0 = c.in_ok-space.ensures.ok in
    let t1 = c.in_ok-page.ensures.ok in
    let t2 = c.in_ok-at.ensures.ok in
    let t3 = c.in_ok-bytes.ensures.ok in
    (refl, (t0.word, t1.word, t2.word, t3.word, t0.begins ∙ onto t0.word (t1.begins ∙ onto t1.word (t2.begins ∙ onto t2.word (t3.begins))), t0.has, t1.has, t2.has, t3.has))

use Rattle.std.proofs.Common.{rules, refl, [], ◌∷◌, ◌∙◌}
use Rattle.script_core.specs.Fields.{Numeral, PageType, FaultIn}
use Rattle.script_core.specs.Names.{change_fields_of}
use Rattle.script_core.specs.Statements.{change_name, AreChangeArguments}
use Rattle.script_core.specs.declared.names.ChangeName.TheVariants as name
use Rattle.script_core.proofs.LineLemmas.{onto, here, behind_number}
use Rattle.script_core.proofs.changes.read_kind.Goals as goal
use Rattle.cause_core.proofs.Causes.{handed}

pub returns-in_err-space-clause-err : goal.returns-in_err-space-clause-err
unfolding change_fields_of
returns-in_err-space-clause-err c =
    handed (FaultIn [] (change_fields_of name.Kind) c.args.words.now) c.from_residual.result c.in_err-space.field-0.0 (search rules)
    (here [] (Numeral 0 4294967295) ((Numeral 0 4294967295) ∷ PageType ∷ []) c.args.words.now c.in_err-space.field-0.0 (c.in_err-space.ensures.err []))

pub returns-in_err-page-clause-err : goal.returns-in_err-page-clause-err
unfolding change_fields_of
returns-in_err-page-clause-err c =
    handed (FaultIn [] (change_fields_of name.Kind) c.args.words.now) c.from_residual-in_err-page.result c.in_err-page.field-0.0 (search rules)
    (behind_number [] c.in_ok-space.ensures.ok ((Numeral 0 4294967295) ∷ PageType ∷ []) c.in_err-page.field-0.0 (here [] (Numeral 0 4294967295) (PageType ∷ []) c.take_u32.new.words c.in_err-page.field-0.0 (c.in_err-page.ensures.err [])))

pub returns-in_err-kind-clause-err : goal.returns-in_err-kind-clause-err
unfolding change_fields_of
returns-in_err-kind-clause-err c =
    handed (FaultIn [] (change_fields_of name.Kind) c.args.words.now) c.from_residual-in_err-kind.result c.in_err-kind.field-0.0 (search rules)
    (behind_number [] c.in_ok-space.ensures.ok ((Numeral 0 4294967295) ∷ PageType ∷ []) c.in_err-kind.field-0.0 (behind_number [] c.in_ok-page.ensures.ok (PageType ∷ []) c.in_err-kind.field-0.0 (here [] PageType ([]) c.take_u32-2.new.words c.in_err-kind.field-0.0 (c.in_err-kind.ensures.err []))))

pub returns-clause-ok : goal.returns-clause-ok
unfolding change_name AreChangeArguments
returns-clause-ok c =
    let t0 = c.in_ok-space.ensures.ok in
    let t1 = c.in_ok-page.ensures.ok in
    let t2 = c.in_ok-kind.ensures.ok in
    (refl, (t0.word, t1.word, t2.word, t0.begins ∙ onto t0.word (t1.begins ∙ onto t1.word (t2.begins)), t0.has, t1.has, t2.has))

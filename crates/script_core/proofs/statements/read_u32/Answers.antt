use Rattle.std.proofs.Common.{rules, [], ◌∷◌, ◌∙◌}
use Rattle.script_core.specs.Fields.{Numeral, End, FaultIn}
use Rattle.script_core.proofs.LineLemmas.{onto, here, behind_number}
use Rattle.script_core.proofs.statements.read_u32.Goals as goal
use Rattle.cause_core.proofs.Causes.{handed}

pub returns-in_err-number-clause-err : goal.returns-in_err-number-clause-err
returns-in_err-number-clause-err c before =
    handed (FaultIn before (Numeral 0 4294967295 ∷ End ∷ []) c.args.words.now) c.from_residual.result c.in_err-number.field-0.0 (search rules)
    (here before (Numeral 0 4294967295) (End ∷ []) c.args.words.now c.in_err-number.field-0.0 (c.in_err-number.ensures.err before))

pub returns-in_err-take_end-clause-err : goal.returns-in_err-take_end-clause-err
returns-in_err-take_end-clause-err c before =
    handed (FaultIn before (Numeral 0 4294967295 ∷ End ∷ []) c.args.words.now) c.from_residual-in_err-take_end.result c.in_err-take_end.field-0.0 (search rules)
    (behind_number before c.in_ok-number.ensures.ok (End ∷ []) c.in_err-take_end.field-0.0 (here before End [] c.take_u32.new.words c.in_err-take_end.field-0.0 (c.in_err-take_end.ensures.err before)))

pub returns-clause-ok : goal.returns-clause-ok
returns-clause-ok c =
    let t = c.in_ok-number.ensures.ok in
    (t.word, t.begins ∙ onto t.word c.in_ok-take_end.ensures.ok, t.has)

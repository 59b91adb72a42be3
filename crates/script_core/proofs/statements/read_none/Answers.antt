use Rattle.std.proofs.Common.{[], ◌∷◌}
use Rattle.script_core.specs.Fields.{End, FaultAt, FaultIn}
use Rattle.script_core.proofs.LineLemmas.{here}
use Rattle.script_core.proofs.FieldLemmas.{err_more}
use Rattle.script_core.proofs.statements.read_none.Goals as goal

pub returns-clause-err : goal.returns-clause-err
returns-clause-err c before =
    err_more (FaultAt before End c.args.words.now) (FaultIn before (End ∷ []) c.args.words.now) c.take_end.result (c.take_end.ensures.err before) (λ kind fault. here before End [] c.args.words.now kind fault)

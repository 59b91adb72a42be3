use Rattle.std.proofs.Common.{refl}
use Rattle.script_core.specs.Fields.{End, Misfit}
use Rattle.script_core.proofs.FieldLemmas.{misfits}
use Rattle.script_core.proofs.fields.take_end.Goals as goal

pub returns-in-Some-clause-err : goal.returns-in-Some-clause-err
unfolding Misfit
returns-in-Some-clause-err c before = misfits before End c.args.words.now c.in-Some.field-0.now c.next.new.self _ c.in-Some.ensures refl

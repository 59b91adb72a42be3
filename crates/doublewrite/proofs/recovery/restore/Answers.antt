use Rattle.doublewrite.proofs.RestoreLifts.{restore_chosen}
use Rattle.doublewrite.proofs.recovery.restore.Goals as goal

pub returns-clause-chosen : goal.returns-clause-chosen
returns-clause-chosen g c = λ has v at. restore_chosen (c.restore_or_refuse.ensures.does has) v at

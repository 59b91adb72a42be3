use Rattle.redo_log.proofs.FitSteps.{empty_fits, empty_journal}
use Rattle.redo_log.proofs.RecordSteps.{once_empty}
use Rattle.redo_log.proofs.log.Log.new.Goals as goal

pub returns-clause-fits : goal.returns-clause-fits
returns-clause-fits c = λ r same begins written. empty_fits c.args.blocks c.args.from c.args.sequence r same begins written

pub returns-clause-journal : goal.returns-clause-journal
returns-clause-journal c = λ keys r begins settled written none. empty_journal c.args.blocks c.args.from keys r begins settled written none

pub returns-clause-recorded : goal.returns-clause-recorded
returns-clause-recorded c = λ es once below. once_empty c.args.blocks c.args.from c.args.sequence es once below

use Rattle.script_core.proofs.Ranges.{tells_range}
use Rattle.script_core.proofs.checking.check_script.Goals as goal

pub returns-in-None-clause-ranges : goal.returns-in-None-clause-ranges
returns-in-None-clause-ranges c = tells_range

pub returns-in-Some-clause-ranges : goal.returns-in-Some-clause-ranges
returns-in-Some-clause-ranges c = tells_range

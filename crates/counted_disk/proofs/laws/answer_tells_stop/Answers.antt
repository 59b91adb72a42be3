use Rattle.counted_disk.proofs.Stopped.{stopped_by, still_runs}
use Rattle.counted_disk.proofs.laws.answer_tells_stop.Goals as goal

pub returns-clause-stopped : goal.returns-clause-stopped
returns-clause-stopped c = λ old new f g r q result. stopped_by old new f g r q result

pub returns-clause-runs : goal.returns-clause-runs
returns-clause-runs c = λ old new f g r q result. still_runs old new f g r q result

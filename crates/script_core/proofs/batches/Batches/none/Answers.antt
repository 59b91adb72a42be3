use Rattle.std.proofs.Common.{refl}
use Rattle.script_core.proofs.BatchLemmas.{tells_none}
use Rattle.script_core.proofs.batches.Batches.none.Goals as goal

pub returns : goal.returns
returns c = tells_none _ refl

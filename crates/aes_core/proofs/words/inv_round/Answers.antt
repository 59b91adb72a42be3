use Rattle.std.proofs.Common.{◌++◌}
use Rattle.aes_core.proofs.words.inv_round.Goals as goal

pub returns : goal.returns
returns c = (λ i. c.inv_column.ensures i ++ c.inv_column-2.ensures i ++ c.inv_column-3.ensures i ++ c.inv_column-4.ensures i)

use Rattle.std.proofs.Common.{◌++◌}
use Rattle.aes_core.proofs.words.first_round.Goals as goal

pub returns : goal.returns
returns c = (λ i. c.first_column.ensures i ++ c.first_column-2.ensures i ++ c.first_column-3.ensures i ++ c.first_column-4.ensures i)

-- What a checkpoint of the log says, and where it stands.
use Rattle.std.specs.Prelude.{ℕ, ◌+◌, ◌%◌}

-- what a checkpoint says: its sequence, and the number of the block that the run begins with
pub record HeldCheckpoint : Type 0 where
  pub sequence : ℕ
  pub from : ℕ

-- the blocks of the log's file before its ring: the header's, and two for checkpoints
abbrev pub front_blocks : ℕ
front_blocks = 3

-- the file block of checkpoints of a sequence: the file's block 1 for even ones, 2 for odd ones
abbrev pub side_of : ℕ → ℕ
side_of sequence = 1 + sequence % 2

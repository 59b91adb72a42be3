-- What contracts see of a log in memory.
use Rattle.std.specs.Prelude.{ℕ, List}

-- The ring's size in blocks, the first block and the sequence of the last synced checkpoint, the next block's number, the number behind the blocks that were handed to the disk, and the bytes of the pending blocks, one after another.
pub record LogState : Type 0 where
  pub blocks : ℕ
  pub from : ℕ
  pub sequence : ℕ
  pub next : ℕ
  pub handed : ℕ
  pub pending : List ℕ

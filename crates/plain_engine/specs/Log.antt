-- The log's file, and what it recovers to.
use Rattle.std.specs.Prelude.{◌≡◌, ℕ, ◌+◌, ◌*◌, ◌%◌, List, [], ◌∷◌, length, map}
use Rattle.disk_model.specs.Event.{range}
use Rattle.redo_text.specs.declared.change.Change.{Change}
use Rattle.space_head.specs.declared.space.SpaceInfo.{SpaceInfo}
use Rattle.plain_engine.specs.Text.{mtr_text, AreSmall}
use Rattle.plain_engine.specs.Block.{log_bytes, IsLogBlock, IsCheckpoint, IsHeader}

-- a file block of 4096 bytes
abbrev pub log_block : ℕ → List ℕ → List ℕ
log_block n file = range (n * 4096) 4096 file

-- the file block in which the ring block of this number stands: the ring has 256 blocks behind the header and two checkpoints
unfoldable pub ring_place : ℕ → ℕ
ring_place number = 3 + number % 256

-- The longest run of valid ring blocks from this number on has these texts: each stands at its place, and the next doesn't.
abbrev pub IsRunFrom : ℕ → List ℕ → List (List ℕ) → Type 0
IsRunFrom number file [] = (text : List ℕ) → IsLogBlock number text (log_block (ring_place number) file) → ⊥
IsRunFrom number file (text ∷ texts) = IsLogBlock number text (log_block (ring_place number) file) × IsRunFrom (number + 1) file texts

-- The header and the checkpoints: checkpoint 1 says that the run begins with block 2, and the other place has none.
pub record IsFramed (file : List ℕ) : Type 0 where
  pub spaces : List SpaceInfo
  pub header : IsHeader spaces (log_block 0 file)
  pub checkpoint : IsCheckpoint 1 2 (log_block 2 file)
  pub newest : (sequence from : ℕ) → IsCheckpoint sequence from (log_block 1 file) → ⊥

-- The log's file recovers to this run of mini-transactions, each in one block.
pub record LogRecovers (file : List ℕ) (run : List (List Change)) : Type 0 where
  pub size : length file ≡ log_bytes
  pub framed : IsFramed file
  pub blocks : IsRunFrom 2 file (map mtr_text run)
  pub small : AreSmall run

-- What a log that is being made reads as.
use Rattle.std.specs.Prelude.{◌≡◌, ℕ, true, List, []}
use Rattle.disk_model.specs.Event.{Event, put, zeros, is_there, reads, marks}
use Rattle.disk_model.specs.Image.{Leaves}
use Rattle.disk_model.specs.declared.names.FileName.TheVariants.{Log}
use Rattle.space_head.specs.declared.space.SpaceInfo.{SpaceInfo}
use Rattle.plain_engine.specs.Block.{log_bytes, IsCheckpoint, IsHeader}
use Rattle.plain_engine.specs.Log.{log_block}
use Rattle.disk_model.specs.Crash.{unsynced_writes, synced_bytes}
use Rattle.disk_model.specs.Marks.{acked as acked_of}

-- the log reads as this file, nothing of it is pending, and nothing was acknowledged
pub record IsNow (file : List ℕ) (es : List Event) : Type 0 where
  pub there : is_there Log es ≡ true
  pub shows : reads Log es ≡ file
  pub left : (f : List ℕ) (torn : List (ℕ × ℕ)) → Leaves Log es f torn → f ≡ file
  pub synced : synced_bytes Log es ≡ file
  pub pending : unsynced_writes es ≡ []
  pub untold : acked_of (marks es) ≡ 0

-- zero bytes with the first checkpoint in file block 2
pub record HasCheckpoint (es : List Event) : Type 0 where
  pub block : List ℕ
  pub is : IsCheckpoint 1 2 block
  pub now : IsNow (put 8192 block (zeros log_bytes)) es

-- the log's header tells these spaces
pub record IsHeaded (spaces : List SpaceInfo) (es : List Event) : Type 0 where
  pub header : IsHeader spaces (log_block 0 (reads Log es))

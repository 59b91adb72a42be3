-- A ring block whose number blocks behind the run could meet.
use Rattle.std.specs.Prelude.{◌≡◌, ℕ, ◌+◌, ◌<◌, ◌≤◌, true, List}
use Rattle.places.specs.Places.{place}
use Rattle.store_files.specs.RingBlock.{is_ring_block}
use Rattle.image_log.specs.declared.blocks.LateBlock.{LateBlock}
use Rattle.store_image.specs.Checkpoint.{front_blocks}
use Rattle.store_image.specs.View.{block_bytes}

-- a valid block of number n or more, at the first place of the ring that has one
pub record IsLateBlock (blocks : ℕ) (file : List ℕ) (n : ℕ) (late : LateBlock) : Type 0 where
  pub within : late.place < blocks
  pub least : n ≤ late.number
  pub is : is_ring_block late.number (place block_bytes (front_blocks + late.place) file) ≡ true
  pub first : (i m : ℕ) → i < late.place → n ≤ m → is_ring_block m (place block_bytes (front_blocks + i) file) ≡ true → ⊥

-- Where the blocks of the log's file stand: the header, two checkpoints, and behind them the ring.
use Rattle.std.specs.Prelude.{ℕ, ◌+◌, ◌%◌, Bool, List}
use Rattle.places.specs.Places.{place, Layout}
use Rattle.store_image.specs.Checkpoint.{front_blocks}
use Rattle.store_image.specs.View.{block_bytes}

-- the log's file with so many ring blocks, by the test that its whole blocks pass
abbrev pub ring_layout : ℕ → (List ℕ → Bool) → Layout
ring_layout blocks passes = record { size = block_bytes; count = front_blocks + blocks; passes = passes }

-- the file block of a number, in a ring of so many blocks
abbrev pub place_in_ring : ℕ → ℕ → ℕ
place_in_ring blocks n = front_blocks + n % blocks

-- and its bytes
abbrev pub block_at : ℕ → List ℕ → ℕ → List ℕ
block_at blocks file n = place block_bytes (place_in_ring blocks n) file

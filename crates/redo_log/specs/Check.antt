-- The bytes of a checkpoint, by its sequence and the block that the run begins with.
use Rattle.std.specs.Prelude.{ℕ, List, ◌++◌, codes}
use Rattle.std.specs.Int.{to_be_bytes, w64}
use Rattle.store_files.specs.Checkpoint.{checkpoint_bytes}

-- the first of them: the magic, the sequence and the run's first block
unfoldable pub check_words : ℕ → ℕ → List ℕ
check_words sequence from = codes "KEYCHK01" ++ (to_be_bytes w64 sequence ++ to_be_bytes w64 from)

-- all of them
abbrev pub check_bytes : ℕ → ℕ → List ℕ
check_bytes sequence from = checkpoint_bytes (record { sequence = sequence; from = from })

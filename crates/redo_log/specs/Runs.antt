-- The key versions that the blocks of a run name.
use Rattle.std.specs.Prelude.{◌≡◌, ℕ, zero, suc, ◌+◌, ◌<◌, ◌≤◌, List, [], ◌∷◌, ◌++◌}
use Rattle.std.specs.List.{Contains}
use Rattle.ring_log.specs.Scans.{IsScanned}
use Rattle.redo_text.specs.Reading.{block_version}
use Rattle.redo_log.specs.Blocks.{Keys, redo_form}
use Rattle.store_image.specs.View.{most_mtr_blocks}

-- the versions of k blocks from a number on, in order
abbrev pub versions_up : (ℕ → List ℕ) → ℕ → ℕ → List ℕ
versions_up read from zero = []
versions_up read from (suc k) = versions_up read from k ++ block_version (read (from + k)) ∷ []

-- these are the versions of the blocks from a number up to another
pub record AreVersions (read : ℕ → List ℕ) (from end : ℕ) (versions : List ℕ) : Type 0 where
  pub all : (n : ℕ) → from ≤ n → n < end → Contains versions (block_version (read n))
  pub none : (v : ℕ) → Contains versions v → (n : ℕ) × (from ≤ n) × (n < end) × (block_version (read n) ≡ v)

-- Between these counts of calls the run was read: one call for each block that goes on with it and one for the block that doesn't, none of them past the 16 blocks behind its end.
pub record IsReadOnce (N : ℕ) (read : ℕ → List ℕ) (from end before now : ℕ) : Type 0 where
  pub stop : ℕ
  pub scanned : (keys : Keys) → IsScanned N (redo_form keys) read from end stop
  pub calls : now + from ≤ before + (stop + 1)
  pub few : now + from ≤ before + (end + most_mtr_blocks)

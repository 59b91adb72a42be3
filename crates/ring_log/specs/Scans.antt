-- The longest run of whole mini-transactions, by its blocks alone.
use Rattle.std.specs.Prelude.{◌≡◌, ℕ, ◌+◌, ◌<◌, ◌≤◌, true, false, nat_eq, if◌then◌else◌, List, [], ◌∷◌}
use Rattle.store_image.specs.View.{most_mtr_blocks}
use Rattle.ring_log.specs.Ring.{Form, IsWholeMtr}

module _ {M : Type 0} (N : ℕ) (F : Form M) where
  open F use {is_block, starts, ends}

  -- whole mini-transactions in a row, each given by the number behind its last block
  abbrev pub AreWholeMtrs : (ℕ → List ℕ) → ℕ → List ℕ → ℕ → Type 0
  AreWholeMtrs read n [] end = n ≡ end
  AreWholeMtrs read n (z ∷ zs) end = IsWholeMtr N F read n z × AreWholeMtrs read z zs end

  -- The longest run of whole mini-transactions from a number on ends here: N blocks are read at most, and no further mini-transaction is whole.
  pub record IsRingRun (read : ℕ → List ℕ) (from end : ℕ) : Type 0 where
    pub parts : List ℕ
    pub whole : AreWholeMtrs read from parts end
    pub few : end ≤ from + N
    pub longest : (z : ℕ) → IsWholeMtr N F read end z → z ≤ from + N → ⊥

  -- The blocks up to n were read: whole mini-transactions up to end, and behind them the beginning of one.
  pub record IsScanned (read : ℕ → List ℕ) (from end n : ℕ) : Type 0 where
    pub parts : List ℕ
    pub whole : AreWholeMtrs read from parts end
    pub low : from ≤ end
    pub order : end ≤ n
    pub valid : (m : ℕ) → end ≤ m → m < n → is_block m (read m) ≡ true
    pub first : end < n → starts (read end) ≡ true
    pub others : (m : ℕ) → end < m → m < n → starts (read m) ≡ false
    pub before : (m : ℕ) → end ≤ m → m < n → ends (read m) ≡ false

  -- a block goes on with what was read, and the whole ones then end there
  abbrev pub Goes : ℕ → ℕ → List ℕ → ℕ → Type 0
  Goes number end block next = (number < end + most_mtr_blocks) × (is_block number block ≡ true) × (starts block ≡ nat_eq end number) × (next ≡ (if ends block then number + 1 else end))

  -- or it doesn't
  abbrev pub Stops : ℕ → ℕ → List ℕ → Type 0
  Stops number end block = number < end + most_mtr_blocks → is_block number block ≡ true → starts block ≡ nat_eq end number → ⊥

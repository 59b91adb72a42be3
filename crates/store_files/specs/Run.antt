-- The run of a log: from the newest checkpoint on the longest list of ring blocks that are valid at their places and make whole mini-transactions, and the texts that they have under the keys.
use Rattle.std.specs.Prelude.{◌≡◌, ℕ, zero, suc, ◌+◌, ◌*◌, ◌<◌, ◌≤◌, true, nat_eq, List, [], ◌∷◌, ◌++◌, Some}
use Rattle.key_ring.specs.Ring.{RingEntry}
use Rattle.key_ring.specs.Local.{local_key}
use Rattle.places.specs.Places.{place}
pub use Rattle.ring_log.specs.Blocks.{block_at}
use Rattle.store_image.specs.Places.{LogView}
use Rattle.store_image.specs.View.{Logged, block_bytes, most_mtr_blocks}
use Rattle.redo_text.specs.declared.change.Change.{Change}
use Rattle.redo_text.specs.Reading.{block_version}
use Rattle.store_files.specs.Checkpoint.{IsNewestCheckpoint}
use Rattle.store_files.specs.Header.{HeldHeader}
use Rattle.store_files.specs.RingBlock.{is_ring_block, begins_mtr, ends_mtr, block_text, IsMtrText}
use Rattle.store_image.specs.Checkpoint.{front_blocks}

module _ (blocks : ℕ) (file : List ℕ) where
  -- The k blocks from n on make one whole mini-transaction: 1 to 16 valid blocks, the first of which alone begins it, and the last of which alone ends it.
  pub record MakeWholeMtr (n k : ℕ) : Type 0 where
    pub some : 0 < k
    pub few : k ≤ most_mtr_blocks
    pub valid : (i : ℕ) → i < k → is_ring_block (n + i) (block_at blocks file (n + i)) ≡ true
    pub first : (i : ℕ) → i < k → begins_mtr (block_at blocks file (n + i)) ≡ nat_eq i 0
    pub last : (i : ℕ) → i < k → ends_mtr (block_at blocks file (n + i)) ≡ nat_eq (i + 1) k

  -- whole mini-transactions of so many blocks each, from n up to end
  abbrev pub MakeWholeMtrs : ℕ → List ℕ → ℕ → Type 0
  MakeWholeMtrs n [] end = n ≡ end
  MakeWholeMtrs n (k ∷ ks) end = MakeWholeMtr n k × MakeWholeMtrs (n + k) ks end

  -- no mini-transaction that is whole begins with this block
  abbrev pub NoWholeMtr : ℕ → Type 0
  NoWholeMtr n = (k : ℕ) → MakeWholeMtr n k → ⊥

  -- The run begins with block `from` of the newest checkpoint and ends before block `end`: no further mini-transaction is whole.
  pub record IsRun (from end : ℕ) : Type 0 where
    pub sequence : ℕ
    pub newest : IsNewestCheckpoint file (record { sequence = sequence; from = from })
    pub sizes : List ℕ
    pub whole : MakeWholeMtrs from sizes end
    pub longest : NoWholeMtr end

  -- no place of the ring has a valid block of number n or more
  abbrev pub IsClear : ℕ → Type 0
  IsClear n = (i m : ℕ) → i < blocks → n ≤ m → is_ring_block m (place block_bytes (front_blocks + i) file) ≡ true → ⊥

module _ (header : HeldHeader) (keys : List RingEntry) (file : List ℕ) where
  -- the text in the k blocks from n on, each under the local key of id 1 at its version
  abbrev pub HasText : ℕ → ℕ → List ℕ → Type 0
  HasText n zero text = text ≡ []
  HasText n (suc k) text =
      (local : List ℕ) × (rest : List ℕ) × (local_key keys 1 (block_version (block_at header.blocks file n)) header.salt ≡ Some local)
      × HasText (n + 1) k rest × (text ≡ block_text header.algorithm local (block_at header.blocks file n) ++ rest)

  -- the whole mini-transactions from n up to end, each with the changes that its text is of
  abbrev pub AreLogEntries : ℕ → List (Logged (List Change)) → ℕ → Type 0
  AreLogEntries n [] end = n ≡ end
  AreLogEntries n (e ∷ es) end =
      (k : ℕ) × (text : List ℕ) × MakeWholeMtr header.blocks file n k × HasText n k text × IsMtrText text e.mtr
      × (e.first ≡ n) × (e.lsn ≡ (n + k) * block_bytes) × AreLogEntries (n + k) es end

  -- what a log's file says: where its run begins and ends, and the mini-transactions in it
  pub record IsLogOf (log : LogView (List Change)) : Type 0 where
    pub run : IsRun header.blocks file log.from log.end
    pub entries : AreLogEntries log.from log.run log.end

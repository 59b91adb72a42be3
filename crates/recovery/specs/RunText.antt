-- What is read of a block of the run.
use Rattle.std.specs.Prelude.{◌≡◌, ℕ, false, List, ◌++◌, Some, None}
use Rattle.key_ring.specs.Ring.{RingEntry}
use Rattle.disk_model.specs.declared.names.FileName.TheVariants.{Log}
use Rattle.doublewrite.specs.declared.refuse.OpenRefuse.{OpenRefuse}
use Rattle.doublewrite.specs.declared.refuse.OpenRefuse.TheVariants.{Damaged, MissingKey, OutOfMemory}
use Rattle.image_log.specs.Logs.{IsBlockText}
use Rattle.redo_text.specs.Reading.{block_version}
use Rattle.store_files.specs.Header.{HeldHeader}
use Rattle.store_files.specs.RingBlock.{is_ring_block}

module _ (header : HeldHeader) (keys : List RingEntry) where
  -- the text of a block is appended
  pub record AddsText (block old new : List ℕ) : Type 0 where
    pub part : List ℕ
    pub of_block : IsBlockText header keys block (Some part)
    pub is : new ≡ old ++ part

  -- the block isn't a valid one of this number, or the key of its version is missing
  abbrev pub IsBlockRefusal : ℕ → List ℕ → OpenRefuse → Type 0
  IsBlockRefusal number block (Damaged file at stored computed) = (file ≡ Log) × (is_ring_block number block ≡ false)
  IsBlockRefusal number block (MissingKey id version) = (id ≡ 1) × (version ≡ block_version block) × IsBlockText header keys block None
  IsBlockRefusal number block OutOfMemory = Unit {0}
  IsBlockRefusal number block r = ⊥

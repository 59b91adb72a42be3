-- A store's ring blocks and checkpoints, in the words of the ring's law.
use Rattle.std.specs.Prelude.{◌≡◌, ℕ, ◌+◌, List, [], ◌∷◌, ◌++◌, Some}
use Rattle.key_ring.specs.Ring.{RingEntry}
use Rattle.key_ring.specs.Local.{local_key}
use Rattle.places.specs.Places.{Layout}
use Rattle.page_places.specs.Texts.{ends_in_sum}
use Rattle.ring_log.specs.Blocks.{ring_layout}
use Rattle.ring_log.specs.Ring.{Form}
use Rattle.redo_text.specs.declared.change.Change.{Change}
use Rattle.redo_text.specs.Reading.{block_version}
use Rattle.store_files.specs.Checkpoint.{checkpoint_in}
use Rattle.store_files.specs.Header.{HeldHeader}
use Rattle.store_files.specs.RingBlock.{is_ring_block, begins_mtr, ends_mtr, block_text, IsMtrText}

-- the log's file: header, two checkpoints and so many ring blocks
abbrev pub log_places : ℕ → Layout
log_places blocks = ring_layout blocks ends_in_sum

module _ (header : HeldHeader) (keys : List RingEntry) where
  -- the text in these blocks, each under the local key of id 1 at its version
  abbrev pub AreTexts : List (List ℕ) → List ℕ → Type 0
  AreTexts [] text = text ≡ []
  AreTexts (b ∷ bs) text =
      (local : List ℕ) × (rest : List ℕ) × (local_key keys 1 (block_version b) header.salt ≡ Some local) × AreTexts bs rest × (text ≡ block_text header.algorithm local b ++ rest)

  -- these blocks are those of a mini-transaction: their text says it
  abbrev pub AreBlocksOf : ℕ → List (List ℕ) → List Change → Type 0
  AreBlocksOf n bs m = (text : List ℕ) × AreTexts bs text × IsMtrText text m

  -- the form of the log's places
  abbrev pub log_form : Form (List Change)
  log_form = record {
    is_block = is_ring_block;
    starts = begins_mtr;
    ends = ends_mtr;
    IsMtr = AreBlocksOf;
    checkpoint = checkpoint_in;
    passes = ends_in_sum;
  }

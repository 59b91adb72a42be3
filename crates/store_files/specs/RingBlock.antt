-- A block of the log's ring, as redo_text reads it, and what the text of a mini-transaction says.
use Rattle.std.specs.Prelude.{◌≡◌, ℕ, Bool, true, false, nat_eq, ◌&&◌, List, length, take, Result, Ok, Err}
use Rattle.aes_core.specs.declared.algorithm.Algorithm.{Algorithm}
use Rattle.page_places.specs.Texts.{ends_in_sum}
use Rattle.redo_text.specs.declared.change.Change.{Change}
use Rattle.redo_text.specs.declared.fault.BlockFault.{BlockFault}
use Rattle.redo_text.specs.Reading.{reading, block_version, used_of, block_flags, is_first, is_last, clear_body}
use Rattle.redo_text.specs.Text.{text_of, AreAllowed}
use Rattle.store_image.specs.View.{block_bytes}

-- a block was read with no fault
abbrev pub has_no_fault : Result (Unit {0}) BlockFault → Bool
has_no_fault (Ok u) = true
has_no_fault (Err e) = false

-- A valid ring block of this number: 4096 bytes that end in their checksum, and that are read under the number with no fault.
unfoldable pub is_ring_block : ℕ → List ℕ → Bool
is_ring_block number block = ends_in_sum block && (nat_eq (length block) block_bytes && has_no_fault (reading number block))

-- the block is the first of its mini-transaction
abbrev pub begins_mtr : List ℕ → Bool
begins_mtr block = is_first (block_flags block)

-- or the last
abbrev pub ends_mtr : List ℕ → Bool
ends_mtr block = is_last (block_flags block)

-- the part of the mini-transaction's text that a block has, under a local key
abbrev pub block_text : Algorithm → List ℕ → List ℕ → List ℕ
block_text algorithm local block = take (used_of block) (clear_body (record { version = block_version block; local = local; algorithm = algorithm }) block)

-- the text is that of these changes, and each of them is allowed
pub record IsMtrText (text : List ℕ) (changes : List Change) : Type 0 where
  pub is : text ≡ text_of changes
  pub allowed : AreAllowed changes

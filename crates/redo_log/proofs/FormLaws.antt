-- The laws of the form, and a block with its last byte inverted.
use Rattle.std.proofs.Common.{◌≡◌, ℕ, true, false, List}
use Rattle.crash_image.proofs.LogForms.{is_form}
use Rattle.disk_model.specs.Crash.{torn_bytes}
use Rattle.page_places.specs.Texts.{ends_in_sum}
use Rattle.page_places.proofs.Sums.{torn_page}
use Rattle.ring_log.specs.Ring.{IsForm}
use Rattle.store_files.specs.RingBlock.{is_ring_block}
use Rattle.store_files.proofs.RingBlocks.{block_sum}
use Rattle.redo_log.specs.Blocks.{Keys, redo_form}

pub form_laws : (keys : Keys) → IsForm (redo_form keys)
form_laws keys = is_form keys.header keys.ring

-- a valid block is refused once its last byte is inverted
pub torn_block : (n : ℕ) (b : List ℕ) → is_ring_block n b ≡ true → ends_in_sum (torn_bytes b) ≡ false
torn_block n b is = torn_page b (block_sum n b is)

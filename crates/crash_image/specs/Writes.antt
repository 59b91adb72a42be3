-- What a store's record of writes says: the page texts and ring blocks that were ever written, that no number serves two of them (Once), and that an image agrees with them (Settled).
use Rattle.std.specs.Prelude.{ℕ, ◌*◌, ◌/◌, nat_le, ◌&&◌, if◌then◌else◌, List, [], ◌∷◌, ◌++◌, Option, Some, None}
use Rattle.disk_model.specs.Image.{Image}
use Rattle.disk_model.specs.declared.names.FileName.{FileName}
use Rattle.disk_model.specs.declared.names.FileName.TheVariants.{Log, Double, Space}
use Rattle.key_ring.specs.Ring.{RingEntry}
use Rattle.page_places.specs.Texts.{is_page_text, text_in, slot_held, page_bytes}
use Rattle.page_places.specs.Views.{view}
use Rattle.store_image.specs.Places.{LogView}
use Rattle.store_image.specs.Record as items
use Rattle.store_image.specs.Record.{Item, PageText, RingBlock}
use Rattle.store_image.specs.View.{Slot, block_bytes}
use Rattle.redo_text.specs.declared.change.Change.{Change}
use Rattle.store_model.specs.declared.contents.SpaceContents.{SpaceContents}
use Rattle.store_files.specs.Header.{HeldHeader}
use Rattle.store_files.specs.Pages.{pages_of, salts_of}
use Rattle.store_files.specs.RingBlock.{is_ring_block}
use Rattle.redo_text.specs.Reading.{number_of, block_version}
use Rattle.crash_image.specs.StoreTheory.{store_theory}
use Rattle.store_image.specs.Checkpoint.{front_blocks}

abbrev pub slot_item : Option Slot → List Item
slot_item None = []
slot_item (Some x) = PageText x.space x.page x.text ∷ []

-- what a write of these bytes at this place of a file wrote: a page text to its home or to a slot, a ring block, or neither
abbrev pub written_item : FileName → ℕ → List ℕ → List Item
written_item (Space s) at bytes = if is_page_text (at / page_bytes) bytes then PageText s (at / page_bytes) (text_in bytes) ∷ [] else []
written_item Double at bytes = slot_item (slot_held bytes)
written_item Log at bytes = if nat_le (front_blocks * block_bytes) at && is_ring_block (number_of bytes) bytes then RingBlock (number_of bytes) (block_version bytes) bytes ∷ [] else []

-- the page texts and ring blocks among the writes
abbrev pub written_items : List (FileName × ℕ × List ℕ) → List Item
written_items [] = []
written_items (w ∷ ws) = written_item w.0 w.1 w.2 ++ written_items ws

-- Of one page at one LSN only texts of one plain page were written, of one version only one text; and of one number only one ring block.
abbrev pub Once : HeldHeader → List RingEntry → (ℕ → List ℕ) → List (FileName × ℕ × List ℕ) → Type 0
Once header keys salts writes = items.ItemsOnce (store_theory header keys salts) (written_items writes)

-- What was written is behind the image's run by less than a ring, agrees with the contents at each page's last LSN, and has each text that the image holds.
abbrev pub Settled : List (FileName × ℕ × List ℕ) → Image → HeldHeader → List RingEntry → LogView (List Change) → List SpaceContents → Type 0
Settled writes image header keys log c = items.ItemsSettled (store_theory header keys (salts_of c)) header.blocks (written_items writes) (view log image) (pages_of c)

-- What each kind of write of a store adds to its record.
use Rattle.std.proofs.Common.{◌≡◌, ℕ, ◌*◌, ◌/◌, ◌≤◌, Bool, true, nat_le, ◌&&◌, if◌then◌else◌, List, [], ◌∷◌, Some, ap, ◌∙◌, arith}
use Rattle.std.proofs.lemmas.Bool.Decides.{nat_tests}
use Rattle.disk_model.specs.declared.names.FileName.TheVariants.{Log, Double, Space}
use Rattle.page_places.specs.Texts.{is_page_text, text_in, slot_held}
use Rattle.redo_text.specs.Reading.{number_of, block_version}
use Rattle.store_image.specs.Record.{PageText, RingBlock}
use Rattle.store_image.specs.View.{Slot}
use Rattle.store_files.specs.RingBlock.{is_ring_block}
use Rattle.crash_image.specs.Writes.{written_item, slot_item}

-- a page text in its home
pub home_item : (s p : ℕ) (bytes : List ℕ) → is_page_text p bytes ≡ true → written_item (Space s) (p * 16384) bytes ≡ PageText s p (text_in bytes) ∷ []
home_item s p bytes is =
    let at : p * 16384 / 16384 ≡ p = omega arith in
    ap (λ (k : ℕ). if is_page_text k bytes then PageText s k (text_in bytes) ∷ [] else []) at ∙ ap (λ (b : Bool). if b then PageText s p (text_in bytes) ∷ [] else []) is

-- a page text in a slot
pub slot_text_item : (at : ℕ) (bytes : List ℕ) (x : Slot) → slot_held bytes ≡ Some x → written_item Double at bytes ≡ PageText x.space x.page x.text ∷ []
slot_text_item at bytes x is = ap slot_item is

-- a block of the ring, which stands behind the header and the checkpoints
pub block_item : (at n : ℕ) (bytes : List ℕ) → 12288 ≤ at → number_of bytes ≡ n → is_ring_block n bytes ≡ true → written_item Log at bytes ≡ RingBlock n (block_version bytes) bytes ∷ []
block_item at n bytes behind number valid =
    let far : nat_le 12288 at ≡ true = grind (arith, nat_tests, behind) in
    ap (λ (k : ℕ). if nat_le 12288 at && is_ring_block k bytes then RingBlock k (block_version bytes) bytes ∷ [] else []) number
    ∙ ap (λ (b : Bool). if b && is_ring_block n bytes then RingBlock n (block_version bytes) bytes ∷ [] else []) far
    ∙ ap (λ (b : Bool). if b then RingBlock n (block_version bytes) bytes ∷ [] else []) valid

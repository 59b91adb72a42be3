-- Copies, slot by slot.
use Rattle.std.proofs.Common.{◌≡◌, ℕ, suc, ◌+◌, ◌<◌, ◌^◌, true, List, [], ◌++◌, length, Some, refl, ap, arith}
use Rattle.disk_model.specs.Event.{Event}
use Rattle.disk_model.specs.declared.names.FileName.TheVariants.{Double}
use Rattle.byte_list.specs.Fields.{be32_at, be64_at}
use Rattle.places.specs.Places.{shown}
use Rattle.page_places.specs.Texts.{is_slot, slot_held, slot_page, text_in}
use Rattle.page_places.proofs.Texts.{some_read, slot_text, length-page}
use Rattle.doublewrite.specs.Text.{IsPageText}
use Rattle.doublewrite.specs.Copies.{as_copied, as_list, copies_to}

pub copies_none : (es : List Event) → copies_to 0 es ≡ []
unfolding copies_to
copies_none es = refl

pub copies_more : (n : ℕ) (es : List Event) → copies_to (n + 1) es ≡ copies_to n es ++ as_list (as_copied n (slot_held (shown Double 16896 n es)))
unfolding copies_to
copies_more n es = let e : n + 1 ≡ suc n = omega arith in ap (λ (k : ℕ). copies_to k es) e

-- the text of a valid slot
pub copied_text : (x : List ℕ) → length x ≡ 16896 → is_slot x ≡ true → be32_at x 12 < 2 ^ 32 → IsPageText (slot_page x)
copied_text x size is small = let t = slot_text x is in record { long = length-page x size; sums = t.0; number = rw t.1 small }

pub listed_slot : (i : ℕ) (x : List ℕ) → is_slot x ≡ true
    → as_copied i (slot_held x) ≡ Some (record { index = i; space = be32_at x 8; page = be32_at x 12; lsn = be64_at (slot_page x) 16; version = be32_at (slot_page x) 0; text = slot_page x })
unfolding text_in
listed_slot i x is = ap (as_copied i) (some_read x is)

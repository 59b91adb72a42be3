-- What the bytes of a slot say of a page's copy.
use Rattle.std.proofs.Common.{◌≡◌, ◌≢◌, ℕ, Bool, true, false, List, refl, sym, ap, ◌∙◌}
use Rattle.std.proofs.lemmas.Option.{same_Some, none-some}
use Rattle.byte_list.specs.Fields.{be32_at, be64_at}
use Rattle.store_image.specs.Groups.{copy_of}
use Rattle.store_image.specs.View.{Text, Slot}
use Rattle.page_places.specs.Texts.{is_slot, slot_held, slot_page, text_in}
use Rattle.page_places.proofs.Texts.{none_read, some_read, text_in-is}

module _ (x : List ℕ) (s p : ℕ) where
  pub no_slot : is_slot x ≡ false → (t : Text) → slot_held x ≢ copy_of s p t
  no_slot isnt t e = none-some _ (sym (none_read x isnt) ∙ e)

  pub fields : is_slot x ≡ true → (t : Text) → slot_held x ≡ copy_of s p t → (be32_at x 8 ≡ s) × (be32_at x 12 ≡ p)
  fields is t e = let same = same_Some _ _ (sym (some_read x is) ∙ e) in (ap (λ (y : Slot). y.space) same, ap (λ (y : Slot). y.page) same)

  pub is_copy : is_slot x ≡ true → be32_at x 8 ≡ s → be32_at x 12 ≡ p → slot_held x ≡ copy_of s p (text_in (slot_page x))
  is_copy is space page = some_read x is ∙ (λ i. copy_of (space i) (page i) (text_in (slot_page x)))

  -- the text of a copy is the one in its slot
  pub copy_text : (t : Text) → slot_held x ≡ copy_of s p t → t ≡ text_in (slot_page x)
  copy_text t e = by (is_slot x) refl
    where
      by : (b : Bool) → is_slot x ≡ b → t ≡ text_in (slot_page x)
      by false isnt = absurd (no_slot isnt t e)
      by true is = sym (ap (λ (y : Slot). y.text) (same_Some _ _ (sym (some_read x is) ∙ e)))

  pub copy_lsn : (text_in (slot_page x)).lsn ≡ be64_at (slot_page x) 16
  copy_lsn = ap (λ (t : Text). t.lsn) (text_in-is (slot_page x))
